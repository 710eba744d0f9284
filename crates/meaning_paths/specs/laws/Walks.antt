-- What holds of walks, whatever their places are.
use Rattle.std.specs.Prelude.{List, ◌∷◌}
use Rattle.meaning_paths.specs.Steps.{Step}
use Rattle.meaning_paths.specs.Walks.{IsPath}

-- what stands before the last step of a path is a path
abbrev pub FrontsArePaths : Type 0 → Type 0
FrontsArePaths S = (steps : S → List Step) (next : S → List S) (start : S) (step : Step) (path : List Step) → IsPath steps next start (step ∷ path) → IsPath steps next start path
