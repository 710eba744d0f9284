-- What comes of one part or of two, by which of them are known.
use Rattle.std.proofs.Common.{◌≡◌, List, [], ◌∷◌, Option, Some, None, refl}
use Rattle.meaning_constants.specs.Constants.{Constant, Part}
use Rattle.meaning_constants.specs.Nodes.{with_part, of_one, of_two}
use Rattle.const_fold.specs.Seen.{one_in, two_in}

-- what comes of two parts, if both are known
abbrev pub with_two : Option (Part × Part) → (Part → Part → Option Constant) → Option Constant
with_two None next = None
with_two (Some pair) next = next pair.0 pair.1

pub of_one_told : (next : Part → Option Constant) (parts : List (Option Part)) → of_one next parts ≡ with_part (one_in parts) next
of_one_told next [] = refl
of_one_told next (part ∷ []) = refl
of_one_told next (first ∷ second ∷ parts) = refl

pub of_two_told : (next : Part → Part → Option Constant) (parts : List (Option Part)) → of_two next parts ≡ with_two (two_in parts) next
of_two_told next [] = refl
of_two_told next (only ∷ []) = refl
of_two_told next (None ∷ second ∷ []) = refl
of_two_told next (Some left ∷ None ∷ []) = refl
of_two_told next (Some left ∷ Some right ∷ []) = refl
of_two_told next (first ∷ second ∷ third ∷ parts) = refl
