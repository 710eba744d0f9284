-- Walks over places that have steps and go on, whatever the places are.
use Rattle.std.specs.Prelude.{◌≡◌, ◌⊎◌, List, [], ◌∷◌}
use Rattle.meaning_paths.specs.Steps.{Step}

-- the list has this element
abbrev pub IsIn : {X : Type 0} → X → List X → Type 0
IsIn x [] = ⊥
IsIn x (y ∷ ys) = (x ≡ y) ⊎ IsIn x ys

-- A walk has passed a path, whose last step stands first, and stands in a place before the rest of that place's own steps.
-- It begins at the start; it passes the next step; and where a place has no more steps it turns to one of those behind it.
pub data Walk {S : Type 0} (steps : S → List Step) (next : S → List S) (start : S) : List Step → S → List Step → Type 0 where
  begins : {rest : List Step} → rest ≡ steps start → Walk steps next start [] start rest
  passes : {path : List Step} {place : S} {step : Step} {rest : List Step} → Walk steps next start path place (step ∷ rest) → Walk steps next start (step ∷ path) place rest
  turns : {path : List Step} {place other : S} {rest : List Step} → Walk steps next start path place [] → IsIn other (next place) → rest ≡ steps other
      → Walk steps next start path other rest

-- the path is that of a walk
abbrev pub IsPath : {S : Type 0} → (steps : S → List Step) → (next : S → List S) → (start : S) → List Step → Type 0
IsPath {S} steps next start path = (place : S) × (rest : List Step) × Walk steps next start path place rest
