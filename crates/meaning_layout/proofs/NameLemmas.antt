-- Members of bodies that are told one after the other.
use Rattle.std.proofs.Common.{◌≡◌, ℕ, List, [], ◌∷◌, ◌++◌, map, refl}
use Rattle.meaning_layout.specs.Members.{DeclaredBody, Names, names_in_order, tell_names}
use Rattle.meaning_layout.specs.Sizes.{Told}
use Rattle.meaning_layout.specs.Telling.{ToldBody, tell, told_in_order}

-- the body of an entry
abbrev pub body_in_entry : {Name : Type 0} → ℕ × DeclaredBody Name → ℕ × ToldBody
body_in_entry entry = (entry.0, entry.1.body)

-- the members of the last body are told by the others
pub names_in_order-push : {Name : Type 0} (told : Told) (names : ℕ → Names Name) (bodies : List (ℕ × DeclaredBody Name)) (entry : ℕ × DeclaredBody Name)
    → names_in_order told names (bodies ++ entry ∷ []) ≡ tell_names (told_in_order told (map body_in_entry bodies)) (names_in_order told names bodies) entry.0 entry.1.members
names_in_order-push told names [] entry = refl
names_in_order-push told names (first ∷ bodies) entry =
    names_in_order-push (tell told first.0 first.1.body) (tell_names told names first.0 first.1.members) bodies entry
