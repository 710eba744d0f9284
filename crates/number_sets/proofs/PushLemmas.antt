-- A branch that joins the others.
use Rattle.std.proofs.Common.{◌≡◌, ℕ, ◌+◌, ◌-◌, ◌*◌, ◌<◌, ◌≤◌, ◌^◌, Bool, true, false, ◌&&◌, if◌then◌else◌, List, [], ◌∷◌, ◌++◌, length, slice_get, Some, unwrap_or, nat_eq, nat_lt, refl, sym, ap, subst, ◌∙◌, ⊎_elim, arith, length-append, true≢false}
use Rattle.std.specs.List.{list_any}
use Rattle.std.proofs.lemmas.Bool.{ltb-true, cases_lt, eqb-true}
use Rattle.std.proofs.lemmas.Nat.{pow-add}
use Rattle.std.proofs.lemmas.Option.{same_Some, slice_get_within, slice_get_past}
use Rattle.indexmap.specs.IndexSet.{insert_key}
use Rattle.number_sets.specs.declared.branch.Branch.{Branch}
use Rattle.number_sets.specs.NumberSets.{numbers_at, has, plain_sets}
use Rattle.number_sets.specs.Branches.{numbers_of, sets_of, count, levels_of, IsSplit, AreBranches, Grows}
use Rattle.number_sets.proofs.TableLemmas.{and_left, and_right, slice_get-append, slice_get-last, list_any-halves}
use Rattle.number_sets.proofs.BranchLemmas.{sets_behind-append, length-sets_of, Grows-refl, has-Grows, levels_of-Grows, levels_of-branch, IsSplit-Grows, below}

-- branches that compare alike are one
pub same_branch : (a b : Branch) → nat_eq a.bit b.bit && (nat_eq a.lower b.lower && nat_eq a.upper b.upper) ≡ true → a ≡ b
same_branch a b h =
    let bit : a.bit ≡ b.bit = eqb-true a.bit b.bit (and_left _ _ h) in
    let lower : a.lower ≡ b.lower = eqb-true a.lower b.lower (and_left _ _ (and_right _ _ h)) in
    let upper : a.upper ≡ b.upper = eqb-true a.upper b.upper (and_right _ _ (and_right _ _ h)) in
    λ i. record { bit = bit i; lower = lower i; upper = upper i }

-- a place among one element more is among the others or the last
last_place : {X : Type 0} (xs : List X) (x : X) (i : ℕ) (y : X) → slice_get (xs ++ x ∷ []) i ≡ Some y → length xs ≤ i → (i ≡ length xs) × (x ≡ y)
last_place xs x i y found past =
    let within = slice_get_within (xs ++ x ∷ []) i y found in
    let here : i ≡ length xs = omega (arith, within, length-append xs (x ∷ [])) in
    (here, same_Some _ _ (sym (slice_get-last xs x) ∙ ap (slice_get (xs ++ x ∷ [])) (sym here) ∙ found))

module _ (bs : List Branch) (all : AreBranches bs) (b : Branch) (lower : b.lower < count bs) (upper : b.upper < count bs)
    (lower_levels : levels_of bs b.lower ≤ b.bit) (upper_levels : levels_of bs b.upper ≤ b.bit) where
  abbrev more : List Branch
  more = bs ++ b ∷ []

  grows : Grows bs more
  grows = (b ∷ [], refl)

  more_sets : sets_of more ≡ sets_of bs ++ numbers_of (sets_of bs) b ∷ []
  more_sets = sets_behind-append plain_sets bs (b ∷ [])

  -- the numbers of the new set
  new_numbers : numbers_at (sets_of more) (count bs) ≡ numbers_of (sets_of bs) b
  new_numbers =
      ap (λ table. numbers_at table (count bs)) more_sets
      ∙ ap (λ place. numbers_at (sets_of bs ++ numbers_of (sets_of bs) b ∷ []) place) (sym (length-sets_of bs))
      ∙ ap (λ found. unwrap_or found []) (slice_get-last (sets_of bs) (numbers_of (sets_of bs) b))

  new_has : (n : ℕ) → has (sets_of more) (count bs) n ≡ (if nat_lt n (2 ^ b.bit) then has (sets_of bs) b.lower n else has (sets_of bs) b.upper (n - 2 ^ b.bit))
  new_has n =
      ap (list_any (nat_eq n)) new_numbers
      ∙ list_any-halves (2 ^ b.bit) n (numbers_at (sets_of bs) b.lower) (numbers_at (sets_of bs) b.upper) (below bs all b.lower b.bit n lower_levels)

  new_levels : levels_of more (count bs) ≡ b.bit + 1
  new_levels = levels_of-branch more (count bs) b (omega arith) (ap (slice_get more) (omega arith) ∙ slice_get-last bs b)

  length-more : length more ≡ length bs + 1
  length-more = omega (arith, length-append bs (b ∷ []))

  -- the new set has the halves of its branch
  IsSplit-push : IsSplit more (count bs) b.bit b.lower b.upper
  IsSplit-push =
      record {
        whole_stands = omega (arith, length-more);
        lower_stands = omega (arith, length-more);
        upper_stands = omega (arith, length-more);
        whole_levels = omega (arith, new_levels);
        lower_levels = omega (arith, levels_of-Grows bs more grows b.lower lower);
        upper_levels = omega (arith, levels_of-Grows bs more grows b.upper upper);
        numbers = λ n. new_has n
            ∙ sym (λ i. if nat_lt n (2 ^ b.bit) then has-Grows bs more grows b.lower n lower i else has-Grows bs more grows b.upper (n - 2 ^ b.bit) upper i);
      }

  split_at : (set : ℕ) (c : Branch) → 1073741825 ≤ set → slice_get more (set - 1073741825) ≡ Some c → IsSplit more set c.bit c.lower c.upper
  split_at set c two found =
      ⊎_elim
      (λ old. IsSplit-Grows bs more grows set c.bit c.lower c.upper (all.parts set c two (sym (slice_get-append bs (b ∷ []) (set - 1073741825) old) ∙ found)))
      (λ past.
      let last = last_place bs b (set - 1073741825) c found past in
      let place : count bs ≡ set = omega (arith, last.0) in
      subst (λ s. IsSplit more s c.bit c.lower c.upper) place (subst (λ d. IsSplit more (count bs) d.bit d.lower d.upper) last.1 IsSplit-push))
      (cases_lt (set - 1073741825) (length bs))

  bits_at : b.bit < 30 → (place : ℕ) (c : Branch) → slice_get more place ≡ Some c → c.bit < 30
  bits_at bit place c found =
      ⊎_elim
      (λ old. all.bits place c (sym (slice_get-append bs (b ∷ []) place old) ∙ found))
      (λ past. subst (λ d. d.bit < 30) (last_place bs b place c found past).1 bit)
      (cases_lt place (length bs))

  -- no number of the new set has more bits than its branch says
  new_bounded : (n : ℕ) → has (sets_of more) (count bs) n ≡ true → n < 2 ^ (b.bit + 1)
  new_bounded n found = by (nat_lt n (2 ^ b.bit)) refl
    where
      twice : 2 ^ (b.bit + 1) ≡ 2 ^ b.bit * 2
      twice = pow-add 2 b.bit 1

      by : (test : Bool) → nat_lt n (2 ^ b.bit) ≡ test → n < 2 ^ (b.bit + 1)
      by true e = omega (arith, twice, ltb-true n (2 ^ b.bit) e)
      by false e =
          let in_upper : has (sets_of bs) b.upper (n - 2 ^ b.bit) ≡ true = sym (ap (λ test. if test then has (sets_of bs) b.lower n else has (sets_of bs) b.upper (n - 2 ^ b.bit)) e) ∙ sym (new_has n) ∙ found in
          omega (arith, twice, below bs all b.upper b.bit (n - 2 ^ b.bit) upper_levels in_upper)

  bounded_at : (set n : ℕ) → has (sets_of more) set n ≡ true → n < 2 ^ levels_of more set
  bounded_at set n found =
      ⊎_elim
      (λ old. subst (λ levels. n < 2 ^ levels) (sym (levels_of-Grows bs more grows set old)) (all.bounded set n (sym (has-Grows bs more grows set n old) ∙ found)))
      (λ past. ⊎_elim
      (λ (far : count bs < set). absurd (true≢false (sym found ∙ ap (λ numbers. list_any (nat_eq n) (unwrap_or numbers [])) (slice_get_past (sets_of more) set (omega (arith, length-sets_of more, length-more))))))
      (λ (near : set ≤ count bs).
      let place : count bs ≡ set = omega arith in
      subst (λ s. n < 2 ^ levels_of more s) place (subst (λ levels. n < 2 ^ levels) (sym new_levels) (new_bounded n (subst (λ s. has (sets_of more) s n ≡ true) (sym place) found))))
      (cases_lt (count bs) set))
      (cases_lt set (count bs))

  AreBranches-push : b.bit < 30 → length bs < 2 ^ 30 → AreBranches more
  AreBranches-push bit room =
      record {
        parts = split_at;
        bits = bits_at bit;
        bounded = bounded_at;
        few = omega (arith, length-more);
      }

  -- a branch that is inserted stands already, or joins the others
  pub inserted : (eq : Branch → Branch → Bool) (new : List Branch) → new ≡ insert_key eq bs b → b.bit < 30 → length bs < 2 ^ 30 → AreBranches new × Grows bs new
  inserted eq new keys bit room = by (list_any (eq b) bs) refl
    where
      by : (test : Bool) → list_any (eq b) bs ≡ test → AreBranches new × Grows bs new
      by true e =
          let same : bs ≡ new = sym (keys ∙ ap (λ test. if test then bs else bs ++ b ∷ []) e) in
          (subst AreBranches same all, subst (Grows bs) same (Grows-refl bs))
      by false e =
          let pushed : bs ++ b ∷ [] ≡ new = sym (keys ∙ ap (λ test. if test then bs else bs ++ b ∷ []) e) in
          (subst AreBranches pushed (AreBranches-push bit room), subst (Grows bs) pushed grows)
