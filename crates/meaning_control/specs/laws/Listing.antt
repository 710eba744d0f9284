-- What holds of the program that lists paths.
use Rattle.std.specs.Prelude.{ℕ, List, []}
use Rattle.meaning_paths.specs.Steps.{Step}
use Rattle.meaning_paths.specs.Walks.{IsIn}
use Rattle.meaning_control.specs.States.{ControlNode, enter, IsControlPath}
use Rattle.meaning_control.specs.plain.Paths.{paths_from, last_first}

-- each that it lists is one
abbrev pub ListedPathsArePaths : Type 0
ListedPathsArePaths =
    (brace turns : ℕ) (body : ControlNode) (steps : List Step) → IsIn steps (paths_from brace turns (enter body []))
    → IsControlPath brace body (last_first steps [])
