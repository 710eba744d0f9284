-- Bodies that are told one after the other.
use Rattle.std.proofs.Common.{◌≡◌, ℕ, suc, ◌+◌, Bool, true, false, nat_eq, List, [], ◌∷◌, ◌++◌, Some, None, Result, Ok, Err, cond, length, map, refl, sym, ap, ◌∙◌}
use Rattle.std.specs.Map.{lookup}
use Rattle.std.proofs.lemmas.Option.{none-some, same_Some}
use Rattle.meaning_layout.specs.Bodies.{LayoutBody, LayoutMember}
use Rattle.meaning_layout.specs.Placing.{bits_of, first_bit, first_bits}
use Rattle.meaning_layout.specs.Layouts.{Layout, LayoutFault, bits_in, layout_of}
use Rattle.meaning_layout.specs.Sizes.{Told}
use Rattle.meaning_layout.proofs.LayoutLemmas.{made_by}
use Rattle.meaning_layout.specs.Telling.{ToldBody, ToldMember, member_before, effective, layout_by_members, layout_told, placed_member, placed_members, tell, told_before, told_in_order}

-- the last body is told behind the others
pub told_in_order-push : (told : Told) (bodies : List (ℕ × ToldBody)) (aggregate : ℕ) (body : ToldBody) → told_in_order told (bodies ++ (aggregate, body) ∷ []) ≡ tell (told_in_order told bodies) aggregate body
told_in_order-push told [] aggregate body = refl
told_in_order-push told (entry ∷ bodies) aggregate body = told_in_order-push (tell told entry.0 entry.1) bodies aggregate body

module _ (number : ℕ) (is_union : Bool) where
  -- of the same aggregate, and of another one
  tell-same : (told : Told) (aggregate : ℕ) (body : ToldBody) → nat_eq number aggregate ≡ true → tell told aggregate body number is_union ≡ told_before (told number is_union) (layout_told told body is_union)
  tell-same told aggregate body e = ap (λ test. cond test (told_before (told number is_union) (layout_told told body is_union)) (told number is_union)) e

  tell-other : (told : Told) (aggregate : ℕ) (body : ToldBody) → nat_eq number aggregate ≡ false → tell told aggregate body number is_union ≡ told number is_union
  tell-other told aggregate body e = ap (λ test. cond test (told_before (told number is_union) (layout_told told body is_union)) (told number is_union)) e

  -- what was told stays
  tell-stays : (told : Told) (aggregate : ℕ) (body : ToldBody) (made : Result Layout LayoutFault) → told number is_union ≡ Some made → tell told aggregate body number is_union ≡ Some made
  tell-stays told aggregate body made is = by (nat_eq number aggregate) refl
    where
      by : (test : Bool) → nat_eq number aggregate ≡ test → tell told aggregate body number is_union ≡ Some made
      by true e = tell-same told aggregate body e ∙ ap (λ found. told_before found (layout_told told body is_union)) is
      by false e = tell-other told aggregate body e ∙ is

  told_in_order-stays : (bodies : List (ℕ × ToldBody)) (told : Told) (made : Result Layout LayoutFault) → told number is_union ≡ Some made → told_in_order told bodies number is_union ≡ Some made
  told_in_order-stays [] told made is = is
  told_in_order-stays (entry ∷ bodies) told made is = told_in_order-stays bodies (tell told entry.0 entry.1) made (tell-stays told entry.0 entry.1 made is)

  -- an aggregate without a body wasn't told
  pub told_in_order-none : (bodies : List (ℕ × ToldBody)) (told : Told) → told number is_union ≡ None → lookup (nat_eq number) bodies ≡ None → told_in_order told bodies number is_union ≡ None
  told_in_order-none [] told is none = is
  told_in_order-none (entry ∷ bodies) told is none = by (nat_eq number entry.0) refl (told_in_order-none bodies (tell told entry.0 entry.1))
    where
      by : (test : Bool) → nat_eq number entry.0 ≡ test → (tell told entry.0 entry.1 number is_union ≡ None → lookup (nat_eq number) bodies ≡ None → told_in_order told (entry ∷ bodies) number is_union ≡ None)
          → told_in_order told (entry ∷ bodies) number is_union ≡ None
      by true e later = absurd (none-some entry.1 (sym none ∙ ap (λ test. cond test (Some entry.1) (lookup (nat_eq number) bodies)) e))
      by false e later =
          later (tell-other told entry.0 entry.1 e ∙ is)
          (sym (ap (λ test. cond test (Some entry.1) (lookup (nat_eq number) bodies)) e) ∙ none)

  -- one with a body has a layout by those that were told before it
  pub told_in_order-found : (bodies : List (ℕ × ToldBody)) (told : Told) (body : ToldBody) → told number is_union ≡ None → lookup (nat_eq number) bodies ≡ Some body
      → (earlier : Told) × (told_in_order told bodies number is_union ≡ Some (layout_told earlier body is_union))
  told_in_order-found [] told body is found = absurd (none-some body found)
  told_in_order-found (entry ∷ bodies) told body is found = by (nat_eq number entry.0) refl (told_in_order-found bodies (tell told entry.0 entry.1) body)
    where
      by : (test : Bool) → nat_eq number entry.0 ≡ test
          → (tell told entry.0 entry.1 number is_union ≡ None → lookup (nat_eq number) bodies ≡ Some body → (earlier : Told) × (told_in_order told (entry ∷ bodies) number is_union ≡ Some (layout_told earlier body is_union)))
          → (earlier : Told) × (told_in_order told (entry ∷ bodies) number is_union ≡ Some (layout_told earlier body is_union))
      by true e later =
          let same = same_Some _ _ (sym (ap (λ test. cond test (Some entry.1) (lookup (nat_eq number) bodies)) e) ∙ found) in (
            told,
            told_in_order-stays bodies (tell told entry.0 entry.1) (layout_told told body is_union)
                (tell-same told entry.0 entry.1 e ∙ ap (λ before. told_before before (layout_told told entry.1 is_union)) is ∙ ap (λ b. Some (layout_told told b is_union)) same),
          )
      by false e later =
          later (tell-other told entry.0 entry.1 e ∙ is)
          (sym (ap (λ test. cond test (Some entry.1) (lookup (nat_eq number) bodies)) e) ∙ found)

-- A layout has a first bit for each member

length-map_zero : (members : List LayoutMember) → length (map {B = ℕ} (λ member. 0) members) ≡ length members
length-map_zero [] = refl
length-map_zero (member ∷ members) = ap suc (length-map_zero members)

length-first_bits : (packed : Bool) (members : List LayoutMember) (bit : ℕ) → length (first_bits packed members bit) ≡ length members
length-first_bits packed [] bit = refl
length-first_bits packed (member ∷ members) bit = ap suc (length-first_bits packed members (first_bit packed member bit + bits_of member))

length-bits_in : (is_union : Bool) (body : LayoutBody) → body.is_union ≡ is_union → length (bits_in body) ≡ length body.members
length-bits_in true body e = ap (λ test. length {A = ℕ} (cond test (map (λ member. 0) body.members) (first_bits body.packed body.members 0))) e ∙ length-map_zero body.members
length-bits_in false body e = ap (λ test. length {A = ℕ} (cond test (map (λ member. 0) body.members) (first_bits body.packed body.members 0))) e ∙ length-first_bits body.packed body.members 0

layout_of-counted : (body : LayoutBody) (layout : Layout) → layout_of body ≡ Ok layout → length layout.first_bits ≡ length body.members
layout_of-counted body layout is = ap (λ (made : Layout). length made.first_bits) (sym (made_by body layout is)) ∙ length-bits_in body.is_union body refl

member_before-counted : (first : Result LayoutMember LayoutFault) (rest : Result (List LayoutMember) LayoutFault) (members : List LayoutMember) (count : ℕ) → member_before first rest ≡ Ok members
    → ((others : List LayoutMember) → rest ≡ Ok others → length others ≡ count) → length members ≡ suc count
member_before-counted (Err fault) rest members count is counted = absurd (cc is)
member_before-counted (Ok member) (Err fault) members count is counted = absurd (cc is)
member_before-counted (Ok member) (Ok others) members count is counted =
    let same : member ∷ others ≡ members = cc in
    ap length (sym same) ∙ ap suc (counted others refl)

placed_members-counted : (told : Told) (all : List ToldMember) (members : List LayoutMember) → placed_members told all ≡ Ok members → length members ≡ length all
placed_members-counted told [] members is = let same : [] ≡ members = cc in ap length (sym same)
placed_members-counted told (one ∷ all) members is =
    member_before-counted (placed_member told one) (placed_members told all) members (length all) is (placed_members-counted told all)

pub layout_told-counted : (told : Told) (body : ToldBody) (is_union : Bool) (layout : Layout) → layout_told told body is_union ≡ Ok layout → length layout.first_bits ≡ length body.members
layout_told-counted told body is_union layout is = by (placed_members told body.members) refl
  where
    by : (members : Result (List LayoutMember) LayoutFault) → placed_members told body.members ≡ members → length layout.first_bits ≡ length body.members
    by (Err fault) e = absurd (cc (sym (ap (layout_by_members body is_union) e) ∙ is))
    by (Ok members) e =
        layout_of-counted (record { members = members; is_union = is_union; packed = body.packed; written = effective body.written }) layout
        (sym (ap (layout_by_members body is_union) e) ∙ is)
        ∙ placed_members-counted told body.members members e
