-- Worked examples: paths through small graphs.
use Rattle.std.specs.Prelude.{◌≡◌, pos, true, List, [], ◌∷◌}
use Rattle.meaning_paths.specs.Steps.{Step, Point, End, count}
use Rattle.meaning_paths.specs.Graphs.{IsPathOf}
use Rattle.meaning_paths.specs.ContextRules.{Differ, Comes, LeavesWrong}
use Rattle.meaning_paths.specs.examples.Graphs.{enters, acquires, releases, acquiring_loop, balanced_loop, join}

-- two turns of the loop that acquires
abbrev pub two_turns : List Step
two_turns = acquires 3 ∷ enters 3 ∷ acquires 3 ∷ enters 3 ∷ []

pub record LoopExamples : Type 0 where
  pub path : IsPathOf acquiring_loop two_turns
  pub counted : count 0 (pos 0) two_turns ≡ pos 2
  -- no path goes back without acquiring
  pub whole : IsPathOf acquiring_loop (enters 3 ∷ enters 3 ∷ []) → ⊥
  -- its point is reached with 0 and with 1
  pub differs : Differ (IsPathOf acquiring_loop) 0 (pos 0) 3
  -- before the second turn of the other one the count is 0 again
  pub again : IsPathOf balanced_loop (Point 2 true ∷ releases 5 ∷ enters 5 ∷ acquires 4 ∷ enters 4 ∷ Point 2 true ∷ enters 2 ∷ [])
  pub as_before : count 0 (pos 0) (releases 5 ∷ enters 5 ∷ acquires 4 ∷ enters 4 ∷ Point 2 true ∷ enters 2 ∷ []) ≡ pos 0
  -- and its end is reached with 0
  pub leaves : Comes (IsPathOf balanced_loop) 0 (pos 0) (End 9) (pos 0)

pub record JoinExamples : Type 0 where
  pub differs : Differ (IsPathOf join) 0 (pos 0) 9
  -- the end is reached by one way with 1, where 0 was wanted
  pub wrong : LeavesWrong (IsPathOf join) 0 (pos 0) (pos 0) 9 (pos 1)
