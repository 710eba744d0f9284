use Rattle.std.proofs.Common.{◌≡◌, ◌-◌, ℕ, Some, None, length, rules, ap, ◌∙◌}
use Rattle.std.specs.Prelude.{min, slice_get}
use Rattle.ksparse.proofs.ParsingLemmas.{placed}
use Rattle.ksparse.proofs.parsing.refusal_place.Goals as goal

pub returns-in-Some : goal.returns-in-Some
returns-in-Some c =
    let index : c.min.result ≡ min c.args.index (length c.args.tokens.now - 1) = search rules in
    λ names. placed names c.args.tokens.now c.args.index (Some c.in-Some.token) (c.in-Some.ensures ∙ ap (λ (i : ℕ). slice_get c.args.tokens.now i) index)

pub returns-in-None : goal.returns-in-None
returns-in-None c =
    let index : c.min.result ≡ min c.args.index (length c.args.tokens.now - 1) = search rules in
    λ names. placed names c.args.tokens.now c.args.index None (c.in-None.ensures ∙ ap (λ (i : ℕ). slice_get c.args.tokens.now i) index)
