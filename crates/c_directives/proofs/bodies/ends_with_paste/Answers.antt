use Rattle.std.proofs.Common.{ap, sym, ◌∙◌}
use Rattle.meaning_macros.specs.WellFormed.{ends_with_paste}
use Rattle.c_tokens.specs.Seen.{toks_of}
use Rattle.c_directives.proofs.BodyLemmas.{ends-last}
use Rattle.c_directives.proofs.bodies.ends_with_paste.Goals as goal

pub returns-in-Some : goal.returns-in-Some
returns-in-Some c = λ names.
    c.is_paste.ensures ∙ sym (ends-last names c.in-Some.ensures.0 c.in-Some.token) ∙ ap (λ tokens. ends_with_paste (toks_of names tokens)) (sym c.in-Some.ensures.1)
