-- Which aggregates have a const member, where the members of one more are told.
use Rattle.std.proofs.Common.{◌≡◌, ℕ, nat_eq, Bool, true, false, ◌||◌, cond, List, [], ◌∷◌, ◌++◌, map, None, Some, if◌then◌else◌, refl, sym, ap, ◌∙◌}
use Rattle.std.proofs.lemmas.Bool.{eqb-true}
use Rattle.std.proofs.lemmas.List.Folds.{list_any-append}
use Rattle.std.proofs.lemmas.Option.{none-some}
use Rattle.std.specs.List.{list_any}
use Rattle.std.specs.Map.{lookup}
use Rattle.indexmap.specs.IndexSet.{insert_key}
use Rattle.meaning_layout.specs.Members.{DeclaredBody, DeclaredMember}
use Rattle.meaning_layout.specs.Sizes.{Told}
use Rattle.meaning_layout.specs.Telling.{tell, told_in_order}
use Rattle.meaning_typing.specs.Aggregates.{Bodies, const_before, const_in_order, is_any_const, tell_const}
use Rattle.whole_rows.specs.ConstAggregates.{is_among}

-- Bodies

module _ (number : ℕ) (told : Told) (has_const : ℕ → Bool) (aggregate : ℕ) (members : List (DeclaredMember (List ℕ))) where
  -- another one stays
  pub const_other : nat_eq number aggregate ≡ false → tell_const told has_const aggregate members number ≡ has_const number
  const_other differs =
      ap (λ test. if test then const_before (told number false) (has_const number) (is_any_const has_const members) else has_const number) differs

  -- one that wasn't told has what its members have
  pub const_same : nat_eq number aggregate ≡ true → told number false ≡ None
      → tell_const told has_const aggregate members number ≡ is_any_const has_const members
  const_same same none = (λ i. if same i then const_before (none i) (has_const number) (is_any_const has_const members) else has_const number)

-- one that isn't told has what it had
pub const_untold : (number : ℕ) (bodies : Bodies) (told : Told) (has_const : ℕ → Bool) → lookup (nat_eq number) bodies ≡ None
    → const_in_order told has_const bodies number ≡ has_const number
const_untold number [] told has_const none = refl
const_untold number (entry ∷ bodies) told has_const none =
    by (nat_eq number entry.0) refl (const_untold number bodies (tell told entry.0 entry.1.body) (tell_const told has_const entry.0 entry.1.members))
  where
    by : (test : Bool) → nat_eq number entry.0 ≡ test
        → (lookup (nat_eq number) bodies ≡ None
        → const_in_order told has_const (entry ∷ bodies) number ≡ tell_const told has_const entry.0 entry.1.members number)
        → const_in_order told has_const (entry ∷ bodies) number ≡ has_const number
    by true same later = absurd (none-some entry.1 (sym none ∙ ap (λ test. cond test (Some entry.1) (lookup (nat_eq number) bodies)) same))
    by false differs later =
        later (sym (ap (λ test. cond test (Some entry.1) (lookup (nat_eq number) bodies)) differs) ∙ none)
        ∙ const_other number told has_const entry.0 entry.1.members differs

-- the last one is told behind the others
pub const_push : (bodies : Bodies) (told : Told) (has_const : ℕ → Bool) (entry : ℕ × DeclaredBody (List ℕ))
    → const_in_order told has_const (bodies ++ entry ∷ [])
    ≡ tell_const (told_in_order told (map (λ one. (one.0, one.1.body)) bodies)) (const_in_order told has_const bodies) entry.0 entry.1.members
const_push [] told has_const entry = refl
const_push (first ∷ bodies) told has_const entry =
    const_push bodies (tell told first.0 first.1.body) (tell_const told has_const first.0 first.1.members) entry

-- Numbers

or_none : (test : Bool) → (test || (false || false)) ≡ test
or_none true = refl
or_none false = refl

or_one : (test : Bool) → (test || (true || false)) ≡ true
or_one true = refl
or_one false = refl

module _ (numbers : List ℕ) (aggregate number : ℕ) where
  pub other_among : nat_eq number aggregate ≡ false → is_among (insert_key nat_eq numbers aggregate) number ≡ is_among numbers number
  other_among differs = by (list_any (nat_eq aggregate) numbers)
    where
      by : (test : Bool) → is_among (if test then numbers else numbers ++ aggregate ∷ []) number ≡ is_among numbers number
      by true = refl
      by false =
          list_any-append (nat_eq number) numbers (aggregate ∷ [])
          ∙ ap (λ test. is_among numbers number || (test || false)) differs
          ∙ or_none (is_among numbers number)

  pub same_among : nat_eq number aggregate ≡ true → is_among (insert_key nat_eq numbers aggregate) number ≡ true
  same_among same = by (list_any (nat_eq aggregate) numbers) refl
    where
      by : (test : Bool) → list_any (nat_eq aggregate) numbers ≡ test → is_among (if test then numbers else numbers ++ aggregate ∷ []) number ≡ true
      by true found = ap (is_among numbers) (eqb-true number aggregate same) ∙ found
      by false found =
          list_any-append (nat_eq number) numbers (aggregate ∷ [])
          ∙ ap (λ test. is_among numbers number || (test || false)) same
          ∙ or_one (is_among numbers number)
