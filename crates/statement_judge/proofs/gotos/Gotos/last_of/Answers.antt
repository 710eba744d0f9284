use Rattle.std.proofs.Common.{◌≡◌, ℕ, Option, sym, subst, ◌∙◌}
use Rattle.statement_judge.specs.Gotos.{IsChain}
use Rattle.statement_judge.proofs.gotos.Gotos.last_of.Goals as goal

pub returns : goal.returns
returns c = λ around gotos stands.
    subst (λ (number : Option ℕ). IsChain around c.args.self.now.gotos.items c.args.owner number gotos)
    (sym (c.copied.ensures ∙ c.get.ensures.value)) (stands c.args.owner)
