-- What a stable sort leaves, without repeats, is the listing.
use Rattle.std.proofs.Common.{◌≡◌, ◌⊎◌, All, List, [], ◌∷◌, map, filter, Bool, true, false, cond, not, ◌&&◌, Option, Some, None, option_map, inl, inr, suc, refl, sym, ap, ◌∙◌, arith, true≢false, is_eq, is_gt, is_lt, Ordering, Less, Equal, Greater, IsSorted}
use Rattle.std.specs.List.{AllByRecursion}
use Rattle.std.specs.List.Sorted.{IsStableBy, ties}
use Rattle.std.specs.Ordering.{ordering_reverse}
use Rattle.std.specs.Cmp.{IsTotalOrder}
use Rattle.std.proofs.lemmas.Cmp.{alike_right, nat_cmp_total, on_total, then_total, upto}
use Rattle.std.proofs.lemmas.List.Elements.{All-cons, All-head, All-tail}
use Rattle.sparse_model.specs.declared.failure.Failure.{Failure}
use Rattle.meaning_operands.specs.Failures as meaning
use Rattle.meaning_warnings.specs.Listing.{order_of, first_like, AreOrdered, IsListing}
use Rattle.meaning_warnings.proofs.Listings.{AreBehind, behind-earlier, like-one, total}
use Rattle.failure_listing.specs.Ranks.{KeepsRank, kept_behind, rank_of, rank_order}

-- the order of ranks is total
rank_total : IsTotalOrder rank_order
rank_total =
    then_total (then_total (on_total (λ (f : Failure). (rank_of f).0) nat_cmp_total) (on_total (λ (f : Failure). (rank_of f).1) nat_cmp_total))
    (on_total (λ (f : Failure). (rank_of f).2) nat_cmp_total)

-- Sorted lists rise

abbrev AtMost : Failure → Failure → Type 0
AtMost f g = is_gt (rank_order f g) ≡ false

abbrev IsUp : List Failure → Type 0
IsUp [] = Unit {0}
IsUp (f ∷ fs) = AllByRecursion (AtMost f) fs × IsUp fs

turned : (o : Ordering) → is_lt o ≡ false → is_gt (ordering_reverse o) ≡ false
turned Less h = absurd (true≢false h)
turned Equal h = refl
turned Greater h = refl

at_most_all : (f g : Failure) (fs : List Failure) → AtMost f g → AllByRecursion (AtMost g) fs → AllByRecursion (AtMost f) fs
at_most_all f g [] first all = tt
at_most_all f g (h ∷ fs) first all = (upto rank_total f g h first all.0, at_most_all f g fs first all.1)

below_all : (f : Failure) (fs : List Failure) → IsSorted rank_order (f ∷ fs) → IsUp fs → AllByRecursion (AtMost f) fs
below_all f [] sorted up = tt
below_all f (g ∷ fs) sorted up =
    let first : AtMost f g = ap is_gt (rank_total.antisymm f g) ∙ turned _ (sorted 0 f (omega arith) (omega arith)) in
    (first, at_most_all f g fs first up.0)

up_from_sorted : (fs : List Failure) → IsSorted rank_order fs → IsUp fs
up_from_sorted [] sorted = tt
up_from_sorted (f ∷ fs) sorted =
    let tail : IsSorted rank_order fs = λ k d p q. rw Rattle.std.proofs.Common.add-one (rw Rattle.std.proofs.Common.add-one at (sorted (suc k) d (omega arith) (omega arith))) in
    let up = up_from_sorted fs tail in
    (below_all f fs sorted up, up)

-- What is kept was there

module _ (P : Failure → Type 0) where
  all-behind : (last : Failure) (fs : List Failure) → All P fs → All P (kept_behind (Some last) fs)
  all-behind last [] all = all
  all-behind last (f ∷ fs) all = behind_by (is_eq (rank_order last f)) (all-behind last fs (All-tail P f fs all)) (all-behind f fs (All-tail P f fs all))
    where
      behind_by : (b : Bool) → All P (kept_behind (Some last) fs) → All P (kept_behind (Some f) fs)
          → All P (cond b (kept_behind (Some last) fs) (f ∷ kept_behind (Some f) fs))
      behind_by true of_last of_f = of_last
      behind_by false of_last of_f = All-cons P f (kept_behind (Some f) fs) (All-head P f fs all) of_f

  pub all-kept : (fs : List Failure) → All P fs → All P (kept_behind None fs)
  all-kept [] all = all
  all-kept (f ∷ fs) all = All-cons P f (kept_behind (Some f) fs) (All-head P f fs all) (all-behind f fs (All-tail P f fs all))

module _ (seen : Failure → meaning.Failure) (rank : KeepsRank seen) where
  abbrev all_seen : List Failure → List meaning.Failure
  all_seen fs = map seen fs

  -- failures are ordered as they are seen
  pub order-seen : (f g : Failure) → order_of (seen f) (seen g) ≡ rank_order f g
  order-seen f g = rw (rank.token f, rank.token g, rank.rule f, rank.rule g, rank.part f, rank.part g) refl

  -- Without repeats they are in order, and the first of each kind stays

  record Keeps (last : Failure) (fs : List Failure) : Type 0 where
    behind : AreBehind (seen last) (all_seen (kept_behind (Some last) fs))
    ordered : AreOrdered (all_seen (kept_behind (Some last) fs))
    same : (h : meaning.Failure)
        → first_like h (seen last ∷ all_seen (kept_behind (Some last) fs)) ≡ first_like h (seen last ∷ all_seen fs)

  abbrev kept_by : Ordering → Failure → Failure → List Failure → List Failure
  kept_by o last f fs = cond (is_eq o) (kept_behind (Some last) fs) (f ∷ kept_behind (Some f) fs)

  record KeepsBy (o : Ordering) (last f : Failure) (fs : List Failure) : Type 0 where
    behind : AreBehind (seen last) (all_seen (kept_by o last f fs))
    ordered : AreOrdered (all_seen (kept_by o last f fs))
    same : (h : meaning.Failure)
        → first_like h (seen last ∷ all_seen (kept_by o last f fs)) ≡ first_like h (seen last ∷ seen f ∷ all_seen fs)

  -- one that is the same as the last is no first
  dropped : (last f : Failure) (fs : List Failure) (h : meaning.Failure) → order_of (seen last) (seen f) ≡ Equal
      → first_like h (seen last ∷ all_seen fs) ≡ first_like h (seen last ∷ seen f ∷ all_seen fs)
  dropped last f fs h e = with_last (is_eq (order_of h (seen last))) refl
    where
      with_last : (b : Bool) → is_eq (order_of h (seen last)) ≡ b
          → cond b (Some (seen last)) (first_like h (all_seen fs))
          ≡ cond b (Some (seen last)) (cond (is_eq (order_of h (seen f))) (Some (seen f)) (first_like h (all_seen fs)))
      with_last true i = refl
      with_last false i = sym (ap (λ c. cond c (Some (seen f)) (first_like h (all_seen fs))) (sym (ap is_eq (alike_right total (seen last) (seen f) h e)) ∙ i))

  keeps_by : (o : Ordering) (last f : Failure) (fs : List Failure) → order_of (seen last) (seen f) ≡ o → is_gt o ≡ false
      → Keeps last fs → Keeps f fs → KeepsBy o last f fs
  keeps_by Less last f fs e at_most of_last of_f = record {
    behind = (e, behind-earlier (seen last) (seen f) (all_seen (kept_behind (Some f) fs)) e of_f.behind);
    ordered = (of_f.behind, of_f.ordered);
    same = λ h. ap (cond (is_eq (order_of h (seen last))) (Some (seen last))) (of_f.same h);
  }
  keeps_by Equal last f fs e at_most of_last of_f = record {
    behind = of_last.behind;
    ordered = of_last.ordered;
    same = λ h. of_last.same h ∙ dropped last f fs h e;
  }
  keeps_by Greater last f fs e at_most of_last of_f = absurd (true≢false at_most)

  keeps : (last : Failure) (fs : List Failure) → AllByRecursion (AtMost last) fs → IsUp fs → Keeps last fs
  keeps last [] all up = record { behind = tt; ordered = tt; same = λ h. refl }
  keeps last (f ∷ fs) all up =
      let by = keeps_by (rank_order last f) last f fs (order-seen last f) all.0 (keeps last fs all.1 up.1) (keeps f fs up.0 up.1) in
      record { behind = by.behind; ordered = by.ordered; same = by.same }

  -- A stable sort leaves the first of each kind

  abbrev front : List Failure → Option Failure
  front [] = None
  front (f ∷ fs) = Some f

  abbrev is_less : Failure → Failure → Bool
  is_less f g = is_lt (rank_order f g)

  ties-is : (f g : Failure) → ties is_less f g ≡ is_eq (order_of (seen f) (seen g))
  ties-is f g =
      ap (λ o. not (is_lt (rank_order f g)) && not (is_lt o)) (rank_total.antisymm g f) ∙ own (rank_order f g) ∙ ap is_eq (sym (order-seen f g))
    where
      own : (o : Ordering) → not (is_lt o) && not (is_lt (ordering_reverse o)) ≡ is_eq o
      own Less = refl
      own Equal = refl
      own Greater = refl

  first-front : (f : Failure) (fs : List Failure) → first_like (seen f) (all_seen fs) ≡ option_map seen (front (filter (ties is_less f) fs))
  first-front f [] = refl
  first-front f (g ∷ fs) =
      pick (is_eq (order_of (seen f) (seen g))) (first-front f fs)
      ∙ ap (λ b. option_map seen (front (cond b (g ∷ filter (ties is_less f) fs) (filter (ties is_less f) fs)))) (sym (ties-is f g))
    where
      pick : (b : Bool) → first_like (seen f) (all_seen fs) ≡ option_map seen (front (filter (ties is_less f) fs))
          → cond b (Some (seen g)) (first_like (seen f) (all_seen fs))
          ≡ option_map seen (front (cond b (g ∷ filter (ties is_less f) fs) (filter (ties is_less f) fs)))
      pick true rest = refl
      pick false rest = rest

  -- one of them is one with this, or none is
  search_like : (h : meaning.Failure) (fs : List Failure) → ((f : Failure) × (order_of h (seen f) ≡ Equal)) ⊎ (first_like h (all_seen fs) ≡ None)
  search_like h [] = inr refl
  search_like h (f ∷ fs) = found_by (order_of h (seen f)) refl (search_like h fs)
    where
      passed : (o : Ordering) → order_of h (seen f) ≡ o → is_eq o ≡ false
          → ((g : Failure) × (order_of h (seen g) ≡ Equal)) ⊎ (first_like h (all_seen fs) ≡ None)
          → ((g : Failure) × (order_of h (seen g) ≡ Equal)) ⊎ (first_like h (all_seen (f ∷ fs)) ≡ None)
      passed o e other (inl found) = inl found
      passed o e other (inr none) = inr (ap (λ b. cond b (Some (seen f)) (first_like h (all_seen fs))) (ap is_eq e ∙ other) ∙ none)

      found_by : (o : Ordering) → order_of h (seen f) ≡ o
          → ((g : Failure) × (order_of h (seen g) ≡ Equal)) ⊎ (first_like h (all_seen fs) ≡ None)
          → ((g : Failure) × (order_of h (seen g) ≡ Equal)) ⊎ (first_like h (all_seen (f ∷ fs)) ≡ None)
      found_by Less e rest = passed Less e refl rest
      found_by Equal e rest = inl (f, e)
      found_by Greater e rest = passed Greater e refl rest

  stable-like : (found sorted : List Failure) (h : meaning.Failure) (f : Failure) → IsStableBy is_less found sorted → order_of h (seen f) ≡ Equal
      → first_like h (all_seen sorted) ≡ first_like h (all_seen found)
  stable-like found sorted h f stable e =
      like-one h (seen f) (all_seen sorted) e ∙ first-front f sorted ∙ ap (λ fs. option_map seen (front fs)) (stable f)
      ∙ sym (first-front f found) ∙ sym (like-one h (seen f) (all_seen found) e)

  stable-same : (found sorted : List Failure) (h : meaning.Failure) → IsStableBy is_less found sorted
      → first_like h (all_seen sorted) ≡ first_like h (all_seen found)
  stable-same found sorted h stable = same_by (search_like h found) (search_like h sorted)
    where
      same_by : ((f : Failure) × (order_of h (seen f) ≡ Equal)) ⊎ (first_like h (all_seen found) ≡ None)
          → ((f : Failure) × (order_of h (seen f) ≡ Equal)) ⊎ (first_like h (all_seen sorted) ≡ None)
          → first_like h (all_seen sorted) ≡ first_like h (all_seen found)
      same_by (inl is) other = stable-like found sorted h is.0 stable is.1
      same_by (inr none) (inl is) = stable-like found sorted h is.0 stable is.1
      same_by (inr none) (inr neither) = neither ∙ sym none

  kept-lists : (found sorted : List Failure) → IsSorted rank_order sorted → IsStableBy is_less found sorted
      → IsListing (all_seen found) (all_seen (kept_behind None sorted))
  kept-lists found [] sorted stable = record { ordered = tt; same = λ h. stable-same found [] h stable }
  kept-lists found (f ∷ fs) sorted stable =
      let up = up_from_sorted (f ∷ fs) sorted in
      let kept = keeps f fs up.0 up.1 in
      record { ordered = (kept.behind, kept.ordered); same = λ h. kept.same h ∙ stable-same found (f ∷ fs) h stable }

  -- what is sorted and kept lists what was found
  pub lists : (found sorted kept : List Failure) → IsSorted rank_order sorted → IsStableBy is_less found sorted → kept ≡ kept_behind None sorted
      → IsListing (all_seen found) (all_seen kept)
  lists found sorted kept up stable is = rw is (kept-lists found sorted up stable)
