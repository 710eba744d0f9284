-- Worked examples: what is told of each answer.
use Rattle.std.specs.Prelude.{◌≡◌, pos, [], ◌∷◌, None, codes}
use Rattle.vocabulary.specs.declared.rule.RuleCode.TheVariants.{C1, C2, C3}
use Rattle.meaning_paths.specs.ContextRules.{Balanced, Different, Below, WrongExit}
use Rattle.meaning_contexts.specs.Failures.{failures_told}

-- of a function f that is left with one lock
pub record FailureExamples : Type 0 where
  pub balanced : failures_told (codes "f") 1 Balanced ≡ []
  pub different :
      failures_told (codes "f") 1 (Different 9)
      ≡ record { token = 9; rule = C1; part = 0; first = None; second = None; name = codes "f"; number = pos 0; wanted = pos 0 } ∷ []
  pub below :
      failures_told (codes "f") 1 (Below 4)
      ≡ record { token = 4; rule = C2; part = 0; first = None; second = None; name = codes "f"; number = pos 0; wanted = pos 0 } ∷ []
  -- it leaves with none, and one is wanted
  pub wrong :
      failures_told (codes "f") 1 (WrongExit 7 (pos 0))
      ≡ record { token = 7; rule = C3; part = 0; first = None; second = None; name = codes "f"; number = pos 0; wanted = pos 1 } ∷ []
