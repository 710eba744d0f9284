use Rattle.std.proofs.Common.{◌≡◌, ℕ, Option, sym, ap, ◌∙◌}
use Rattle.meaning_statements.specs.Above.{expressions_around}
use Rattle.meaning_statements.specs.Jumps.{owner_by}
use Rattle.statement_judge.specs.declared.enclosing.Enclosing.{Enclosing}
use Rattle.statement_judge.proofs.nesting.Nesting.owner.Goals as goal

pub returns-in-Some : goal.returns-in-Some
returns-in-Some c = λ nodes surroundings is function.
    sym (ap (λ (of : Option ℕ). owner_by of (expressions_around nodes surroundings c.args.handle)) (function ∙ c.in-Some.is))

pub returns-in-None : goal.returns-in-None
returns-in-None c = λ nodes surroundings is function.
    ap (λ (above : Enclosing). above.outermost) (c.above.ensures nodes surroundings is)
    ∙ sym (ap (λ (of : Option ℕ). owner_by of (expressions_around nodes surroundings c.args.handle)) (function ∙ c.in-None.is))
