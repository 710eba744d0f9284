-- What counts that are spread over blocks do to all of them.
use Rattle.std.proofs.Common.{◌≡◌, ◌≢◌, ◌⊎◌, inl, inr, ℕ, zero, suc, ◌+◌, ◌*◌, ◌<◌, ◌≤◌, ℤ, Bool, true, false, Option, Some, None, List, [], ◌∷◌, ◌++◌, length, set, if◌then◌else◌, refl, sym, ap, ◌∙◌, subst, arith, length-append}
use Rattle.std.specs.Ordering.{int_eq}
use Rattle.std.proofs.lemmas.Bool.{cases_eq}
use Rattle.std.proofs.lemmas.Bool.Decides.{Decides-int_eq, not_from_Decides}
use Rattle.std.proofs.lemmas.List.{get_or-set_same, get_or-set_other, length-set}
use Rattle.meaning_paths.specs.Walks.{IsIn}
use Rattle.step_counts.specs.declared.counts.Counts.{Counts}
use Rattle.step_counts.specs.declared.counts.Counts.TheVariants.{Never, One, Several}
use Rattle.step_counts.specs.Counts.{counts_at, grown}
use Rattle.context_walk.specs.Spread.{AllBelow, noted, put, spread_counts, spread_worklist}

-- One number

-- what is spread over a number and others, by what is known at it
pub spread-step : (comes known : Counts) (found : Option Counts) (to : ℕ) (left all : List ℕ) (counts : List Counts) (worklist : List ℕ) → all ≡ to ∷ left → known ≡ counts_at counts to → found ≡ grown known comes
    → (spread_counts comes left (put found to counts) ≡ spread_counts comes all counts)
    × (spread_worklist comes left (put found to counts) (noted found to worklist) ≡ spread_worklist comes all counts worklist)
spread-step comes known found to left all counts worklist split is grows =
    let more = grows ∙ ap (λ (there : Counts). grown there comes) is in (
      ap (λ (put_there : Option Counts). spread_counts comes left (put put_there to counts)) more ∙ ap (λ (numbers : List ℕ). spread_counts comes numbers counts) (sym split),
      ap (λ (put_there : Option Counts). spread_worklist comes left (put put_there to counts) (noted put_there to worklist)) more ∙ ap (λ (numbers : List ℕ). spread_worklist comes numbers counts worklist) (sym split),
    )

-- Lists

pub in-append_left : {X : Type 0} (x : X) (xs ys : List X) → IsIn x xs → IsIn x (xs ++ ys)
in-append_left x [] ys there = absurd there
in-append_left x (y ∷ xs) ys (inl here) = inl here
in-append_left x (y ∷ xs) ys (inr there) = inr (in-append_left x xs ys there)

pub in-append_right : {X : Type 0} (x : X) (xs ys : List X) → IsIn x ys → IsIn x (xs ++ ys)
in-append_right x [] ys there = there
in-append_right x (y ∷ xs) ys there = inr (in-append_right x xs ys there)

pub in-append_cases : {X : Type 0} (x : X) (xs ys : List X) → IsIn x (xs ++ ys) → IsIn x xs ⊎ IsIn x ys
in-append_cases x [] ys there = inr there
in-append_cases x (y ∷ xs) ys (inl here) = inl (inl here)
in-append_cases x (y ∷ xs) ys (inr there) = elim (in-append_cases x xs ys there) [ inl front ↦ inl (inr front) | inr back ↦ inr back ]

-- The order of what is known

-- never is less than one count, and that than several
abbrev pub IsAtMost : Counts → Counts → Type 0
IsAtMost Never more = Unit {0}
IsAtMost (One count) Never = ⊥
IsAtMost (One count) (One other) = count ≡ other
IsAtMost (One count) Several = Unit {0}
IsAtMost Several Never = ⊥
IsAtMost Several (One count) = ⊥
IsAtMost Several Several = Unit {0}

pub at_most-refl : (counts : Counts) → IsAtMost counts counts
at_most-refl Never = tt
at_most-refl (One count) = refl
at_most-refl Several = tt

pub at_most-trans : (a b c : Counts) → IsAtMost a b → IsAtMost b c → IsAtMost a c
at_most-trans Never b c low high = tt
at_most-trans (One x) Never c low high = absurd low
at_most-trans (One x) (One y) Never low high = absurd high
at_most-trans (One x) (One y) (One z) low high = low ∙ high
at_most-trans (One x) (One y) Several low high = tt
at_most-trans (One x) Several Never low high = absurd high
at_most-trans (One x) Several (One z) low high = absurd high
at_most-trans (One x) Several Several low high = tt
at_most-trans Several Never c low high = absurd low
at_most-trans Several (One y) c low high = absurd low
at_most-trans Several Several c low high = high

-- One place

-- what stands behind a growth, or without one
abbrev pub or_else : Option Counts → Counts → Counts
or_else None old = old
or_else (Some more) old = more

abbrev pub joined : (old comes : Counts) → Counts
joined old comes = or_else (grown old comes) old

-- A fact of one count that another one joins: it is the same, or there are several.
joins_one : (P : Option Counts → Type 0) (count other : ℤ) → (count ≡ other → P None) → (count ≢ other → P (Some Several)) → P (grown (One count) (One other))
joins_one P count other same apart = by (int_eq count other) refl
  where
    by : (test : Bool) → int_eq count other ≡ test → P (if test then None else Some Several)
    by true e = same ((Decides-int_eq count other).0 e)
    by false e = apart (not_from_Decides (int_eq count other) (Decides-int_eq count other) e)

-- one count grows to several alone
pub more-several : (count other : ℤ) (x : Counts) → grown (One count) (One other) ≡ Some x → Several ≡ x
more-several count other x is = joins_one (λ more. more ≡ Some x → Several ≡ x) count other (λ same none. absurd (cc)) (λ apart some. cc) is

joined-left : (old comes : Counts) → IsAtMost old (joined old comes)
joined-left Never comes = tt
joined-left (One count) Never = refl
joined-left (One count) (One other) = joins_one (λ more. IsAtMost (One count) (or_else more (One count))) count other (λ same. refl) (λ apart. tt)
joined-left (One count) Several = tt
joined-left Several comes = tt

joined-right : (old comes : Counts) → IsAtMost comes (joined old comes)
joined-right Never Never = tt
joined-right Never (One other) = refl
joined-right Never Several = tt
joined-right (One count) Never = tt
joined-right (One count) (One other) = joins_one (λ more. IsAtMost (One other) (or_else more (One count))) count other (λ same. sym same) (λ apart. tt)
joined-right (One count) Several = tt
joined-right Several Never = tt
joined-right Several (One other) = tt
joined-right Several Several = tt

-- what holds of both, and of several where two counts differ, holds of the join
joined-kept : (P : Counts → Type 0) → ((count other : ℤ) → P (One count) → P (One other) → count ≢ other → P Several) → (old comes : Counts) → P old → P comes → P (joined old comes)
joined-kept P both Never Never is is_comes = is
joined-kept P both Never (One other) is is_comes = is_comes
joined-kept P both Never Several is is_comes = is_comes
joined-kept P both (One count) Never is is_comes = is
joined-kept P both (One count) (One other) is is_comes = joins_one (λ more. P (or_else more (One count))) count other (λ same. is) (λ apart. both count other is is_comes apart)
joined-kept P both (One count) Several is is_comes = is_comes
joined-kept P both Several comes is is_comes = is

-- The place in a list

pub put-length : (more : Option Counts) (n : ℕ) (counts : List Counts) → length (put more n counts) ≡ length counts
put-length None n counts = refl
put-length (Some more) n counts = length-set counts n more

pub put-same : (more : Option Counts) (n : ℕ) (counts : List Counts) → n < length counts → counts_at (put more n counts) n ≡ or_else more (counts_at counts n)
put-same None n counts below = refl
put-same (Some more) n counts below = get_or-set_same counts n more Never below

pub put-other : (more : Option Counts) (n k : ℕ) (counts : List Counts) → k ≢ n → counts_at (put more n counts) k ≡ counts_at counts k
put-other None n k counts apart = refl
put-other (Some more) n k counts apart = get_or-set_other counts n k more Never apart

noted-keeps : (more : Option Counts) (n k : ℕ) (worklist : List ℕ) → IsIn k worklist → IsIn k (noted more n worklist)
noted-keeps None n k worklist there = there
noted-keeps (Some more) n k worklist there = in-append_left k worklist (n ∷ []) there

noted-below : (more : Option Counts) (bound n : ℕ) (worklist : List ℕ) → n < bound → AllBelow bound worklist → AllBelow bound (noted more n worklist)
noted-below None bound n worklist below all = all
noted-below (Some more) bound n [] below all = (below, tt)
noted-below (Some more) bound n (k ∷ worklist) below all = (all.0, noted-below (Some more) bound n worklist below all.1)

module _ (comes : Counts) (n : ℕ) (counts : List Counts) where
  abbrev pub more : Option Counts
  more = grown (counts_at counts n) comes

  abbrev pub one : List Counts
  one = put more n counts

  -- each place has at least what it had
  one-grows : n < length counts → (k : ℕ) → IsAtMost (counts_at counts k) (counts_at one k)
  one-grows below k =
      elim (cases_eq k n) [
        | inl same ↦ subst (λ j. IsAtMost (counts_at counts j) (counts_at one j)) (sym same) (subst (IsAtMost (counts_at counts n)) (sym (put-same more n counts below)) (joined-left (counts_at counts n) comes))
        | inr apart ↦ subst (IsAtMost (counts_at counts k)) (sym (put-other more n k counts apart)) (at_most-refl (counts_at counts k))
      ]

  one-covers : n < length counts → IsAtMost comes (counts_at one n)
  one-covers below = subst (IsAtMost comes) (sym (put-same more n counts below)) (joined-right (counts_at counts n) comes)

  -- a place is noted, or has what it had
  one-noted : (worklist : List ℕ) (k : ℕ) → IsIn k (noted more n worklist) ⊎ (counts_at one k ≡ counts_at counts k)
  one-noted worklist k = by more
    where
      by : (g : Option Counts) → IsIn k (noted g n worklist) ⊎ (counts_at (put g n counts) k ≡ counts_at counts k)
      by None = inr refl
      by (Some g) =
          elim (cases_eq k n) [
            | inl same ↦ inl (in-append_right k worklist (n ∷ []) (inl same))
            | inr apart ↦ inr (put-other (Some g) n k counts apart)
          ]

  one-kept : (P : ℕ → Counts → Type 0) → ((k : ℕ) (count other : ℤ) → P k (One count) → P k (One other) → count ≢ other → P k Several)
      → n < length counts → P n comes → ((k : ℕ) → P k (counts_at counts k)) → (k : ℕ) → P k (counts_at one k)
  one-kept P both below is_comes are k =
      elim (cases_eq k n) [
        | inl same ↦ subst (λ j. P j (counts_at one j)) (sym same) (subst (P n) (sym (put-same more n counts below)) (joined-kept (P n) (both n) (counts_at counts n) comes (are n) is_comes))
        | inr apart ↦ subst (P k) (sym (put-other more n k counts apart)) (are k)
      ]

-- All places

pub all-length : (comes : Counts) (ns : List ℕ) (counts : List Counts) → length (spread_counts comes ns counts) ≡ length counts
all-length comes [] counts = refl
all-length comes (n ∷ ns) counts = all-length comes ns (one comes n counts) ∙ put-length (more comes n counts) n counts

still_below : (comes : Counts) (n : ℕ) (ns : List ℕ) (counts : List Counts) → AllBelow (length counts) ns → AllBelow (length (one comes n counts)) ns
still_below comes n ns counts below = subst (λ bound. AllBelow bound ns) (sym (put-length (more comes n counts) n counts)) below

pub all-grow : (comes : Counts) (ns : List ℕ) (counts : List Counts) → AllBelow (length counts) ns → (k : ℕ) → IsAtMost (counts_at counts k) (counts_at (spread_counts comes ns counts) k)
all-grow comes [] counts below k = at_most-refl (counts_at counts k)
all-grow comes (n ∷ ns) counts below k =
    at_most-trans (counts_at counts k) (counts_at (one comes n counts) k) (counts_at (spread_counts comes ns (one comes n counts)) k)
    (one-grows comes n counts below.0 k)
    (all-grow comes ns (one comes n counts) (still_below comes n ns counts below.1) k)

pub all-cover : (comes : Counts) (ns : List ℕ) (counts : List Counts) → AllBelow (length counts) ns → (k : ℕ) → IsIn k ns → IsAtMost comes (counts_at (spread_counts comes ns counts) k)
all-cover comes [] counts below k there = absurd there
all-cover comes (n ∷ ns) counts below k (inl here) =
    subst (λ j. IsAtMost comes (counts_at (spread_counts comes ns (one comes n counts)) j)) (sym here)
    (at_most-trans comes (counts_at (one comes n counts) n) (counts_at (spread_counts comes ns (one comes n counts)) n)
    (one-covers comes n counts below.0)
    (all-grow comes ns (one comes n counts) (still_below comes n ns counts below.1) n))
all-cover comes (n ∷ ns) counts below k (inr there) = all-cover comes ns (one comes n counts) (still_below comes n ns counts below.1) k there

pub worklist-keeps : (comes : Counts) (ns : List ℕ) (counts : List Counts) (worklist : List ℕ) (k : ℕ) → IsIn k worklist → IsIn k (spread_worklist comes ns counts worklist)
worklist-keeps comes [] counts worklist k there = there
worklist-keeps comes (n ∷ ns) counts worklist k there =
    worklist-keeps comes ns (one comes n counts) (noted (more comes n counts) n worklist) k (noted-keeps (more comes n counts) n k worklist there)

pub all-noted : (comes : Counts) (ns : List ℕ) (counts : List Counts) (worklist : List ℕ) (k : ℕ)
    → IsIn k (spread_worklist comes ns counts worklist) ⊎ (counts_at (spread_counts comes ns counts) k ≡ counts_at counts k)
all-noted comes [] counts worklist k = inr refl
all-noted comes (n ∷ ns) counts worklist k =
    elim (one-noted comes n counts worklist k) [
      | inl here ↦ inl (worklist-keeps comes ns (one comes n counts) (noted (more comes n counts) n worklist) k here)
      | inr same ↦ elim (all-noted comes ns (one comes n counts) (noted (more comes n counts) n worklist) k) [
        | inl there ↦ inl there
        | inr still ↦ inr (still ∙ same)
      ]
    ]

pub all-below : (comes : Counts) (bound : ℕ) (ns : List ℕ) (counts : List Counts) (worklist : List ℕ) → AllBelow bound ns → AllBelow bound worklist → AllBelow bound (spread_worklist comes ns counts worklist)
all-below comes bound [] counts worklist below all = all
all-below comes bound (n ∷ ns) counts worklist below all =
    all-below comes bound ns (one comes n counts) (noted (more comes n counts) n worklist) below.1 (noted-below (more comes n counts) bound n worklist below.0 all)

pub all-kept : (P : ℕ → Counts → Type 0) → ((k : ℕ) (count other : ℤ) → P k (One count) → P k (One other) → count ≢ other → P k Several)
    → (comes : Counts) (ns : List ℕ) (counts : List Counts) → AllBelow (length counts) ns → ((n : ℕ) → IsIn n ns → P n comes) → ((k : ℕ) → P k (counts_at counts k))
    → (k : ℕ) → P k (counts_at (spread_counts comes ns counts) k)
all-kept P both comes [] counts below each are k = are k
all-kept P both comes (n ∷ ns) counts below each are k =
    all-kept P both comes ns (one comes n counts) (still_below comes n ns counts below.1) (λ other there. each other (inr there))
    (one-kept comes n counts P both below.0 (each n (inl refl)) are) k

-- How much they can grow

-- how often what is known can grow
abbrev pub room : Counts → ℕ
room Never = 2
room (One count) = 1
room Several = 0

abbrev pub room_of_all : List Counts → ℕ
room_of_all [] = 0
room_of_all (x ∷ xs) = room x + room_of_all xs

room-set : (counts : List Counts) (n : ℕ) (x : Counts) → n < length counts → room_of_all (set counts n x) + room (counts_at counts n) ≡ room_of_all counts + room x
room-set [] n x below = absurd (omega arith)
room-set (y ∷ counts) zero x below = omega arith
room-set (y ∷ counts) (suc n) x below = let rest = room-set counts n x (omega arith) in omega (arith, rest)

-- what grows has less room
room-grown : (old comes more : Counts) → grown old comes ≡ Some more → room more + 1 ≤ room old
room-grown Never Never more is = absurd (cc)
room-grown Never (One other) more is = let same : One other ≡ more = cc in subst (λ now. room now + 1 ≤ 2) same (omega arith)
room-grown Never Several more is = let same : Several ≡ more = cc in subst (λ now. room now + 1 ≤ 2) same (omega arith)
room-grown (One count) Never more is = absurd (cc)
room-grown (One count) (One other) more is =
    joins_one (λ g. g ≡ Some more → room more + 1 ≤ 1) count other (λ same none. absurd (cc)) (λ apart some. let same : Several ≡ more = cc in subst (λ now. room now + 1 ≤ 1) same (omega arith)) is
room-grown (One count) Several more is = let same : Several ≡ more = cc in subst (λ now. room now + 1 ≤ 1) same (omega arith)
room-grown Several comes more is = absurd (cc)

one-room : (comes : Counts) (n : ℕ) (counts : List Counts) (worklist : List ℕ) → n < length counts
    → 2 * room_of_all (one comes n counts) + length (noted (more comes n counts) n worklist) ≤ 2 * room_of_all counts + length worklist
one-room comes n counts worklist below = by (more comes n counts) refl
  where
    by : (g : Option Counts) → more comes n counts ≡ g → 2 * room_of_all (put g n counts) + length (noted g n worklist) ≤ 2 * room_of_all counts + length worklist
    by None is = omega arith
    by (Some x) is =
        let less = room-grown (counts_at counts n) comes x is in
        let moved = room-set counts n x below in
        let longer = length-append worklist (n ∷ []) in
        omega (arith, less, moved, longer)

pub all-room : (comes : Counts) (ns : List ℕ) (counts : List Counts) (worklist : List ℕ) → AllBelow (length counts) ns
    → 2 * room_of_all (spread_counts comes ns counts) + length (spread_worklist comes ns counts worklist) ≤ 2 * room_of_all counts + length worklist
all-room comes [] counts worklist below = omega arith
all-room comes (n ∷ ns) counts worklist below =
    let here = one-room comes n counts worklist below.0 in
    let rest = all-room comes ns (one comes n counts) (noted (more comes n counts) n worklist) (still_below comes n ns counts below.1) in
    omega (arith, here, rest)
