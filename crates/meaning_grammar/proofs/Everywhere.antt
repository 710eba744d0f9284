-- A test that all classes of the list pass is passed by each class.
use Rattle.std.proofs.Common.{◌≡◌, ℕ, Bool, true, false, ◌||◌, List, Some, All, slice_get, refl, subst}
use Rattle.std.specs.List.{list_all}
use Rattle.std.proofs.lemmas.List.Sums.{AllPass-from_list_all}
use Rattle.std.proofs.lemmas.Option.{get_or_from_slice_get, slice_get_within}
use Rattle.vocabulary.specs.declared.token_class.TokenClass.{TokenClass}
use Rattle.vocabulary.specs.declared.token_class.TokenClass.TheVariants.{LeftBracket}
use Rattle.meaning_grammar.specs.Classes.{all_token_classes, class_number}

-- what holds of all elements holds of the one at a place
pub All-at : {X : Type 0} (P : X → Type 0) (xs : List X) (place : ℕ) (x : X) → slice_get xs place ≡ Some x → All P xs → P x
All-at P xs place x is all =
    subst P (get_or_from_slice_get xs place x x is) (all place x (slice_get_within xs place x is))

-- each class stands in the list at its number
class_stands : (class_ : TokenClass) → slice_get all_token_classes (class_number class_) ≡ Some class_
class_stands LeftBracket = refl
class_stands class_ = refl

-- a test of the list is one of each class
pub each_class : (p : TokenClass → Bool) → list_all p all_token_classes ≡ true → (class_ : TokenClass) → p class_ ≡ true
each_class p passes class_ =
    All-at (λ one. p one ≡ true) all_token_classes (class_number class_) class_ (class_stands class_) (AllPass-from_list_all p all_token_classes passes)

-- neither of two tests passes
pub neither : (a b : Bool) → (a || b) ≡ false → (a ≡ false) × (b ≡ false)
neither true b is = absurd (cc is)
neither false b is = (refl, is)
