-- Worked examples: what calls do to a count, and when they are too low.
use Rattle.std.specs.Prelude.{◌≡◌, pos, negsuc, [], ◌∷◌}
use Rattle.meaning_paths.specs.Steps.{Step, Call, count}
use Rattle.meaning_paths.specs.ContextRules.{IsTooLow}

-- a call whose function is entered with one lock and left with none
abbrev pub releasing : Step
releasing = Call 4 0 (pos 1) (pos 0)

-- one that needs a lock and keeps it
abbrev pub keeping : Step
keeping = Call 4 0 (pos 1) (pos 1)

-- one that is entered with none and left with one too few
abbrev pub underflowing : Step
underflowing = Call 4 0 (pos 0) (negsuc 0)

pub record CallExamples : Type 0 where
  -- what a call adds is its out less its in
  pub counted : count 0 (pos 1) (releasing ∷ []) ≡ pos 0
  -- a call that meets a count below its in is too low, though it leaves none below 0
  pub meets_too_few : IsTooLow 0 keeping (pos 0)
  -- and one that leaves a count below 0 is too low, though it meets its in
  pub leaves_too_few : IsTooLow 0 underflowing (pos 0)
