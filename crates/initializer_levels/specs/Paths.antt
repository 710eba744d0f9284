-- Paths in an object, as they are kept: each by its last step.
use Rattle.std.specs.Prelude.{ℕ, ◌<◌, length, List, [], ◌∷◌, ◌++◌, Option, Some, None, get_or}
use Rattle.initializer_levels.specs.declared.paths.PathId.{PathId}
use Rattle.initializer_levels.specs.declared.paths.PathStep.{PathStep}

-- the path with this number, or that of the object
abbrev pub path_at : List (List ℕ) → Option PathId → List ℕ
path_at paths None = []
path_at paths (Some id) = get_or paths id.0 []

-- there is a path with this number
abbrev pub IsPathIn : List (List ℕ) → Option PathId → Type 0
IsPathIn paths None = Unit {0}
IsPathIn paths (Some id) = id.0 < length paths

-- the paths of steps, behind those that stand already
abbrev pub paths_from : List (List ℕ) → List PathStep → List (List ℕ)
paths_from paths [] = paths
paths_from paths (step ∷ steps) = paths_from (paths ++ (path_at paths step.within ++ step.number ∷ []) ∷ []) steps

abbrev pub paths_of : List PathStep → List (List ℕ)
paths_of steps = paths_from [] steps
