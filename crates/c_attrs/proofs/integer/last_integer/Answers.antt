use Rattle.std.proofs.Common.{◌≡◌, ℕ, ◌+◌, [], ◌∷◌, ◌++◌, length, sym, ap, ◌∙◌}
use Rattle.meaning_attributes.specs.Integers.{constants_from}
use Rattle.c_tokens.specs.Seen.{toks_of}
use Rattle.c_attrs.specs.Integers.{before_others}
use Rattle.c_attrs.proofs.IntegerLemmas.{constants-last, no_last}
use Rattle.c_attrs.proofs.integer.last_integer.Goals as goal

pub returns-in-Some-integer_at : goal.returns-in-Some-integer_at
returns-in-Some-integer_at c = λ start.
    let names = c.args.names.now in
    let before = c.in-Some.before.now in
    sym (c.tokens.invariant start)
    ∙ ap (λ all. constants_from start (toks_of names all)) c.in-Some.ensures.cases.0
    ∙ constants-last names before c.in-Some.field-0-0.now c.integer_at.result c.integer_at.ensures start
    ∙ ap (λ found. constants_from start (toks_of names before) ++ before_others found (start + length before) []) c.in-Some-integer_at.is

pub tokens-preserved : goal.tokens-preserved
tokens-preserved c = λ start.
    let names = c.args.names.now in
    let before = c.in-Some.before.now in
    sym (no_last (constants_from start (toks_of names before)) (start + length before))
    ∙ ap (λ found. constants_from start (toks_of names before) ++ before_others found (start + length before) []) (sym c.in_default-integer_at.is)
    ∙ sym (constants-last names before c.in-Some.field-0-0.now c.integer_at.result c.integer_at.ensures start)
    ∙ ap (λ all. constants_from start (toks_of names all)) (sym c.in-Some.ensures.cases.0)
    ∙ c.tokens.invariant start
