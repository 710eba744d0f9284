-- Parts of declarators.
use Rattle.std.proofs.Common.{◌≡◌, ℕ, List, [], ◌∷◌, Option, Some, None, refl}
use Rattle.meaning_types.specs.Types.{TypeTree}
use Rattle.meaning_typing.specs.Declarators as declarators
use Rattle.meaning_typing.specs.Facts as meaning
use Rattle.decl_judge.specs.Asked.{array_by, first_of}

-- an array by its first child, if it has one
abbrev pub array_by_first : List meaning.Fact → TypeTree → Option ℕ → Option TypeTree
array_by_first facts element None = Some (declarators.array_type element None)
array_by_first facts element (Some size) = array_by (meaning.fact_at facts size) element

pub array_told : (facts : List meaning.Fact) (handles : List ℕ) (element : TypeTree)
    → array_by_first facts element (first_of handles) ≡ declarators.array_of facts handles element
array_told facts [] element = refl
array_told facts (size ∷ others) element = refl
