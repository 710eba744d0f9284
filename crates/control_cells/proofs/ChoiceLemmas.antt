-- Labels that are the same as sets are gone to alike.
use Rattle.std.proofs.Common.{◌≡◌, ◌↔◌, ◌⊎◌, inl, inr, ℕ, ℤ, Bool, true, false, List, [], ◌∷◌, ◌++◌, map, Option, Some, None, refl, sym, ap, subst, if◌then◌else◌}
use Rattle.std.specs.List.{filter}
use Rattle.meaning_paths.specs.Walks.{IsIn}
use Rattle.meaning_control.specs.Kinds.{ControlKind}
use Rattle.meaning_control.specs.Choices.{has_number, is_default, is_numbered, or_all, or_else, picked, places_of}
use Rattle.meaning_control.specs.laws.Cells.{LabelledBlock}
use Rattle.control_cells.proofs.FoundLemmas.{in_back, in_either, in_front}

abbrev pub SameMembers : {X : Type 0} → List X → List X → Type 0
SameMembers {X} xs ys = (x : X) → IsIn x xs ↔ IsIn x ys

-- Mapped

pub mapped_from : {X Y : Type 0} (f : X → Y) (xs : List X) (y : Y) → IsIn y (map f xs) → (x : X) × IsIn x xs × (y ≡ f x)
mapped_from f [] y there = absurd there
mapped_from f (x ∷ xs) y (inl is) = (x, inl refl, is)
mapped_from f (x ∷ xs) y (inr there) = let (found, among, is) = mapped_from f xs y there in (found, inr among, is)

pub mapped_to : {X Y : Type 0} (f : X → Y) (xs : List X) (x : X) → IsIn x xs → IsIn (f x) (map f xs)
mapped_to f [] x there = absurd there
mapped_to f (first ∷ xs) x (inl is) = inl (ap f is)
mapped_to f (first ∷ xs) x (inr there) = inr (mapped_to f xs x there)

-- Chosen

module _ (is_such : ControlKind → Bool) where
  one_from : (kept : Bool) (label : LabelledBlock) (others : List LabelledBlock) (block : ℕ) → IsIn block (map (λ it. it.1) (if kept then label ∷ others else others))
      → ((kept ≡ true) × (block ≡ label.1)) ⊎ IsIn block (map (λ (it : LabelledBlock). it.1) others)
  one_from true label others block (inl is) = inl (refl, is)
  one_from true label others block (inr there) = inr there
  one_from false label others block there = inr there

  pub places_from : (labels : List LabelledBlock) (block : ℕ) → IsIn block (places_of is_such labels) → (kind : ControlKind) × IsIn (kind, block) labels × (is_such kind ≡ true)
  places_from [] block there = absurd there
  places_from (label ∷ labels) block there =
      elim (one_from (is_such label.0) label (filter (λ (it : LabelledBlock). is_such it.0) labels) block there) [
        | inl here ↦ (label.0, inl (λ i. (label.0, here.1 i)), here.0)
        | inr later ↦ let (kind, among, is) = places_from labels block later in (kind, inr among, is)
      ]

  one_to : (kept : Bool) (label : LabelledBlock) (others : List LabelledBlock) → kept ≡ true → IsIn label.1 (map (λ (it : LabelledBlock). it.1) (if kept then label ∷ others else others))
  one_to true label others is = inl refl
  one_to false label others is = cc

  later_to : (kept : Bool) (label : LabelledBlock) (others : List LabelledBlock) (block : ℕ) → IsIn block (map (λ (it : LabelledBlock). it.1) others)
      → IsIn block (map (λ (it : LabelledBlock). it.1) (if kept then label ∷ others else others))
  later_to true label others block there = inr there
  later_to false label others block there = there

  pub places_to : (labels : List LabelledBlock) (label : LabelledBlock) → IsIn label labels → is_such label.0 ≡ true → IsIn label.1 (places_of is_such labels)
  places_to [] label there is = absurd there
  places_to (first ∷ labels) label (inl same) is =
      subst (λ (it : LabelledBlock). IsIn it.1 (places_of is_such (first ∷ labels))) (sym same)
      (one_to (is_such first.0) first (filter (λ (it : LabelledBlock). is_such it.0) labels) (subst (λ (it : LabelledBlock). is_such it.0 ≡ true) same is))
  places_to (first ∷ labels) label (inr there) is =
      later_to (is_such first.0) first (filter (λ (it : LabelledBlock). is_such it.0) labels) label.1 (places_to labels label there is)

  pub same_places : (labels others : List LabelledBlock) → SameMembers labels others → SameMembers (places_of is_such labels) (places_of is_such others)
  same_places labels others same block = (
    (λ there. let (kind, among, is) = places_from labels block there in places_to others (kind, block) ((same (kind, block)).0 among) is),
    (λ there. let (kind, among, is) = places_from others block there in places_to labels (kind, block) ((same (kind, block)).1 among) is),
  )

-- Picked

same_or_else : (xs ys : List ℕ) (past : ℕ) → SameMembers xs ys → SameMembers (or_else xs past) (or_else ys past)
same_or_else [] [] past same = λ x. ((λ there. there), (λ there. there))
same_or_else [] (y ∷ ys) past same = absurd ((same y).1 (inl refl))
same_or_else (x ∷ xs) [] past same = absurd ((same x).0 (inl refl))
same_or_else (x ∷ xs) (y ∷ ys) past same = same

same_or_all : (xs ys behind behind_others : List ℕ) → SameMembers xs ys → SameMembers behind behind_others → SameMembers (or_all xs behind) (or_all ys behind_others)
same_or_all [] [] behind behind_others same also = also
same_or_all [] (y ∷ ys) behind behind_others same also = absurd ((same y).1 (inl refl))
same_or_all (x ∷ xs) [] behind behind_others same also = absurd ((same x).0 (inl refl))
same_or_all (x ∷ xs) (y ∷ ys) behind behind_others same also = same

pub same_joined : (xs ys behind behind_others : List ℕ) → SameMembers xs ys → SameMembers behind behind_others → SameMembers (xs ++ behind) (ys ++ behind_others)
same_joined xs ys behind behind_others same also x = (
  (λ there.
      elim (in_either x xs behind there) [
        | inl front ↦ in_front x ys behind_others ((same x).0 front)
        | inr back ↦ in_back x ys behind_others ((also x).0 back)
      ]),
  (λ there.
      elim (in_either x ys behind_others there) [
        | inl front ↦ in_front x xs behind ((same x).1 front)
        | inr back ↦ in_back x xs behind ((also x).1 back)
      ]),
)

pub same_picked : (number : Option ℤ) (labels others : List LabelledBlock) (past : ℕ) → SameMembers labels others → SameMembers (picked number labels past) (picked number others past)
same_picked None labels others past same =
    same_joined (places_of has_number labels) (places_of has_number others) (or_else (places_of is_default labels) past) (or_else (places_of is_default others) past)
    (same_places has_number labels others same)
    (same_or_else (places_of is_default labels) (places_of is_default others) past (same_places is_default labels others same))
same_picked (Some number) labels others past same =
    same_or_all (places_of (is_numbered number) labels) (places_of (is_numbered number) others) (or_else (places_of is_default labels) past) (or_else (places_of is_default others) past)
    (same_places (is_numbered number) labels others same)
    (same_or_else (places_of is_default labels) (places_of is_default others) past (same_places is_default labels others same))
