-- Whatever was found of a unit has one listing and one text.
use Rattle.std.specs.Prelude.{◌≡◌, ℕ, List}
use Rattle.vocabulary.specs.declared.class.Class.{Class}
use Rattle.meaning_operands.specs.Failures.{Failure}
use Rattle.meaning_warnings.specs.Places.{ShownUnit}
use Rattle.meaning_warnings.specs.Listing.{IsListing, IsUnitText}

abbrev pub ListingsExist : Type 0
ListingsExist = (found : List Failure) → (listing : List Failure) × IsListing found listing

abbrev pub ListingsAreUnique : Type 0
ListingsAreUnique = (found listing other : List Failure) → IsListing found listing → IsListing found other → listing ≡ other

abbrev pub TextsAreUnique : Type 0
TextsAreUnique =
    (shown : ShownUnit) (classes : List Class) (found : List Failure) (text other : List ℕ) → IsUnitText shown classes found text
    → IsUnitText shown classes found other → text ≡ other
