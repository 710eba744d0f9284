-- The paths of a body, one after the other: as far as they go, or as far as so many states lead.
use Rattle.std.specs.Prelude.{ℕ, zero, suc, List, [], ◌∷◌, ◌++◌, map}
use Rattle.std.specs.List.{flat_map}
use Rattle.meaning_paths.specs.Steps.{Step}
use Rattle.meaning_control.specs.States.{State, enter, next_states, steps_in}
use Rattle.meaning_control.specs.Nodes.{JudgedUnit}
use Rattle.meaning_control.specs.Functions.{body_of, closing_brace}

-- the steps of a state, and behind them each of these; where there are none, the steps alone
abbrev pub each_behind : List Step → List (List Step) → List (List Step)
each_behind steps [] = steps ∷ []
each_behind steps (path ∷ paths) = map (λ behind. steps ++ behind) (path ∷ paths)

-- those from a state on, the first step first, over so many states behind it
abbrev pub paths_from : (brace : ℕ) → (turns : ℕ) → State → List (List Step)
paths_from brace zero state = steps_in brace state ∷ []
paths_from brace (suc turns) state = each_behind (steps_in brace state) (flat_map (paths_from brace turns) (next_states state))

abbrev pub paths_of : (turns : ℕ) → JudgedUnit → (function : ℕ) → List (List Step)
paths_of turns unit function = paths_from (closing_brace unit function) turns (enter (body_of unit function) [])

-- the steps of a path behind others, the last one first
abbrev pub last_first : List Step → List Step → List Step
last_first [] path = path
last_first (step ∷ steps) path = last_first steps (step ∷ path)
