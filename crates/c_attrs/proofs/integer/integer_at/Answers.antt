use Rattle.std.proofs.Common.{◌≡◌, List, ℕ, option_map, ap, ◌∙◌}
use Rattle.meaning_literals.specs.Integers.{integer_of}
use Rattle.meaning_attributes.specs.Integers.{before_constants}
use Rattle.c_literals.specs.Seen.{constant_seen}
use Rattle.c_tokens.specs.Seen.{text_of}
use Rattle.c_attrs.specs.Integers.{value_of}
use Rattle.c_attrs.proofs.IntegerLemmas.{number-before}
use Rattle.c_attrs.proofs.integer.integer_at.Goals as goal

pub returns-in-Number : goal.returns-in-Number
returns-in-Number c = λ index others.
    let text : List ℕ = text_of c.args.names.now c.args.token.name in
    let read : option_map constant_seen c.integer_spelled.result ≡ value_of (integer_of text) = c.integer_spelled.ensures ∙ ap (λ spelled. value_of (integer_of spelled)) c.spelling.ensures in
    ap (λ kind. before_constants kind (integer_of text) index others) c.in-Number.is
    ∙ number-before (integer_of text) c.integer_spelled.result read index others
