-- The fixpoint: what each turn keeps, how far counts can go, and what holds when nothing waits.
use Rattle.std.proofs.Common.{◌≡◌, ◌≢◌, ◌⊎◌, inl, inr, ℕ, zero, suc, ◌+◌, ◌<◌, ◌≤◌, ℤ, ◌+ℤ◌, Option, Some, None, List, [], ◌∷◌, ◌++◌, length, set, replicate, unsigned_abs, refl, sym, ap, ◌∙◌, subst, arith}
use Rattle.std.proofs.lemmas.Bool.{cases_eq, cases_lt}
use Rattle.std.proofs.lemmas.List.{get_or-set_same, get_or-set_other, get_or-replicate, get_or_past, length-set, length-replicate}
use Rattle.std.proofs.lemmas.Int.{ints}
use Rattle.meaning_paths.specs.Walks.{IsIn}
use Rattle.meaning_paths.specs.Graphs.{BasicBlock, steps_at, successors_at, size_of_steps, size_of_graph}
use Rattle.step_counts.specs.declared.counts.Counts.{Counts}
use Rattle.step_counts.specs.declared.counts.Counts.TheVariants.{Never, One, Several}
use Rattle.step_counts.specs.Counts.{IsWithin, counts_at, grown, shifted, total}
use Rattle.context_walk.specs.Spread.{AllBelow, put, spread_counts, spread_worklist}
use Rattle.context_walk.specs.Reached.{Arrives, first, next, Covers, IsExact, IsShown}
use Rattle.step_counts.proofs.CountLemmas.{abs_of_size, total_of_size, within-shifted, within-weaker}
use Rattle.context_walk.proofs.SpreadLemmas.{IsAtMost, all-below, all-cover, all-grow, all-kept, all-length, all-noted, at_most-trans, in-append_cases, more, more-several, one, put-length, put-other, put-same, worklist-keeps}

-- what comes from a block goes to its successors
abbrev pub goes_from : List BasicBlock → (key : ℕ) → List Counts → ℕ → Counts
goes_from graph key counts number = shifted (counts_at counts number) (total key (steps_at graph number))

-- the successors of a block have what comes from it
abbrev pub IsDone : List BasicBlock → (key : ℕ) → List Counts → ℕ → Type 0
IsDone graph key counts number = (other : ℕ) → IsIn other (successors_at graph number) → IsAtMost (goes_from graph key counts number) (counts_at counts other)

-- what each turn keeps
pub record Keeps (graph : List BasicBlock) (key : ℕ) (start : ℤ) (counts : List Counts) (worklist : List ℕ) : Type 0 where
  pub len : length counts ≡ length graph
  pub shown : (number : ℕ) → IsShown graph key start number (counts_at counts number)
  pub begun : IsAtMost (One start) (counts_at counts 0)
  -- a block waits, or its successors have what comes from it
  pub done : (number : ℕ) → IsIn number worklist ⊎ IsDone graph key counts number
  pub below : AllBelow (length graph) worklist

-- One turn

pub below-append : (bound : ℕ) (xs ys : List ℕ) → AllBelow bound (xs ++ ys) → AllBelow bound xs × AllBelow bound ys
below-append bound [] ys all = (tt, all)
below-append bound (x ∷ xs) ys all = let rest = below-append bound xs ys all.1 in ((all.0, rest.0), rest.1)

below-in : (bound : ℕ) (ns : List ℕ) → ((n : ℕ) → IsIn n ns → n < bound) → AllBelow bound ns
below-in bound [] each = tt
below-in bound (n ∷ ns) each = (each n (inl refl), below-in bound ns (λ other there. each other (inr there)))

module _ (graph : List BasicBlock) (key : ℕ) (start : ℤ) where
  -- what is shown of a block shows what comes from it
  shown-shift : (number other : ℕ) (counts : Counts) → IsIn other (successors_at graph number) → IsShown graph key start number counts
      → IsShown graph key start other (shifted counts (total key (steps_at graph number)))
  shown-shift number other Never there is = tt
  shown-shift number other (One count) there is = next is there refl
  shown-shift number other Several there (x, y, arrives, arrives_too, apart) = (
    x +ℤ total key (steps_at graph number),
    y +ℤ total key (steps_at graph number),
    next arrives there refl,
    next arrives_too there refl,
    λ equal. apart (omega (arith, ints, equal)),
  )

  both-shown : (number : ℕ) (count other : ℤ) → IsShown graph key start number (One count) → IsShown graph key start number (One other) → count ≢ other → IsShown graph key start number Several
  both-shown number count other arrives arrives_too apart = (count, other, arrives, arrives_too, apart)

  module _ (closed : (number other : ℕ) → IsIn other (successors_at graph number) → other < length graph) (counts : List Counts) (worklist : List ℕ) (number : ℕ) where
    abbrev comes : Counts
    comes = goes_from graph key counts number

    abbrev ns : List ℕ
    ns = successors_at graph number

    abbrev after : List Counts
    after = spread_counts comes ns counts

    pub successors-below : length counts ≡ length graph → AllBelow (length counts) ns
    successors-below len = subst (λ bound. AllBelow bound ns) (sym len) (below-in (length graph) ns (closed number))

    still_done : (kept : Keeps graph key start counts (worklist ++ number ∷ [])) (k : ℕ) → counts_at after k ≡ counts_at counts k → IsDone graph key counts k → IsDone graph key after k
    still_done kept k same done other there =
        subst (λ now. IsAtMost (shifted now (total key (steps_at graph k))) (counts_at after other)) (sym same)
        (at_most-trans (goes_from graph key counts k) (counts_at counts other) (counts_at after other) (done other there)
        (all-grow comes ns counts (successors-below kept.len) other))

    now_done : (kept : Keeps graph key start counts (worklist ++ number ∷ [])) → counts_at after number ≡ counts_at counts number → IsDone graph key after number
    now_done kept same other there =
        subst (λ now. IsAtMost (shifted now (total key (steps_at graph number))) (counts_at after other)) (sym same)
        (all-cover comes ns counts (successors-below kept.len) other there)

    done_after : Keeps graph key start counts (worklist ++ number ∷ []) → (k : ℕ) → IsIn k (spread_worklist comes ns counts worklist) ⊎ IsDone graph key after k
    done_after kept k =
        elim (all-noted comes ns counts worklist k) [
          | inl waits ↦ inl waits
          | inr same ↦ elim (kept.done k) [
            | inl waited ↦ elim (in-append_cases k worklist (number ∷ []) waited) [
              | inl still ↦ inl (worklist-keeps comes ns counts worklist k still)
              | inr taken ↦ elim taken [
                | inl here ↦ inr (subst (IsDone graph key after) (sym here) (now_done kept (subst (λ j. counts_at after j ≡ counts_at counts j) here same)))
                | inr never ↦ absurd never
              ]
            ]
            | inr done ↦ inr (still_done kept k same done)
          ]
        ]

    -- a turn keeps it
    pub turn-keeps : Keeps graph key start counts (worklist ++ number ∷ []) → Keeps graph key start after (spread_worklist comes ns counts worklist)
    turn-keeps kept = record {
      len = all-length comes ns counts ∙ kept.len;
      shown =
          all-kept (IsShown graph key start) both-shown comes ns counts (successors-below kept.len)
          (λ other there. shown-shift number other (counts_at counts number) there (kept.shown number)) kept.shown;
      begun = at_most-trans (One start) (counts_at counts 0) (counts_at after 0) kept.begun (all-grow comes ns counts (successors-below kept.len) 0);
      done = done_after kept;
      below = all-below comes (length graph) ns counts worklist (below-in (length graph) ns (closed number)) (below-append (length graph) worklist (number ∷ []) kept.below).0;
    }

-- At the end

covers-at_most : (a b : Counts) (count : ℤ) → IsAtMost a b → Covers a count → Covers b count
covers-at_most Never b count low covers = absurd covers
covers-at_most (One x) Never count low covers = absurd low
covers-at_most (One x) (One y) count low covers = sym low ∙ covers
covers-at_most (One x) Several count low covers = tt
covers-at_most Several Never count low covers = absurd low
covers-at_most Several (One y) count low covers = absurd low
covers-at_most Several Several count low covers = tt

pub covers-shifted : (counts : Counts) (count by : ℤ) → Covers counts count → Covers (shifted counts by) (count +ℤ by)
covers-shifted Never count by covers = covers
covers-shifted (One x) count by covers = ap (λ now. now +ℤ by) covers
covers-shifted Several count by covers = tt

-- where nothing waits, whatever arrives is told
pub kept-exact : (graph : List BasicBlock) (key : ℕ) (start : ℤ) (counts : List Counts) → Keeps graph key start counts [] → IsExact graph key start counts
kept-exact graph key start counts kept = record { len = kept.len; shown = kept.shown; covers = covers }
  where
    done : (number : ℕ) → IsDone graph key counts number
    done number = elim (kept.done number) [ inl never ↦ absurd never | inr is ↦ is ]

    covers : (number : ℕ) (comes : ℤ) → Arrives graph key start number comes → Covers (counts_at counts number) comes
    covers number arrived first = covers-at_most (One start) (counts_at counts 0) start kept.begun refl
    covers number arrived (next {number = from} {comes = before} arrives there e) =
        covers-at_most (goes_from graph key counts from) (counts_at counts number) arrived (done from number there)
        (subst (Covers (goes_from graph key counts from)) (sym e) (covers-shifted (counts_at counts from) before (total key (steps_at graph from)) (covers from before arrives)))

-- At the beginning

-- one block was reached
abbrev pub begun_counts : (blocks : ℕ) → ℤ → List Counts
begun_counts blocks start = set (replicate blocks Never) 0 (One start)

begun-at_0 : (blocks : ℕ) (start : ℤ) → 0 < blocks → counts_at (begun_counts blocks start) 0 ≡ One start
begun-at_0 blocks start some = get_or-set_same (replicate blocks Never) 0 (One start) Never (omega (arith, length-replicate blocks Never))

begun-at : (blocks : ℕ) (start : ℤ) (k : ℕ) → k ≢ 0 → counts_at (begun_counts blocks start) k ≡ Never
begun-at blocks start k apart =
    get_or-set_other (replicate blocks Never) 0 k (One start) Never apart
    ∙ elim (cases_lt k blocks) [
      | inl below ↦ get_or-replicate blocks k Never Never below
      | inr past ↦ get_or_past (replicate blocks Never) k Never (omega (arith, length-replicate blocks Never))
    ]

pub begun-length : (blocks : ℕ) (start : ℤ) → length (begun_counts blocks start) ≡ blocks
begun-length blocks start = length-set (replicate blocks Never) 0 (One start) ∙ length-replicate blocks Never

pub begun-keeps : (graph : List BasicBlock) (key : ℕ) (start : ℤ) → 0 < length graph → Keeps graph key start (begun_counts (length graph) start) (0 ∷ [])
begun-keeps graph key start some = record {
  len = begun-length (length graph) start;
  shown = λ number.
      elim (cases_eq number 0) [
        | inl here ↦ subst (λ k. IsShown graph key start k (counts_at (begun_counts (length graph) start) k)) (sym here) (subst (IsShown graph key start 0) (sym (begun-at_0 (length graph) start some)) first)
        | inr apart ↦ subst (IsShown graph key start number) (sym (begun-at (length graph) start number apart)) tt
      ];
  begun = subst (IsAtMost (One start)) (sym (begun-at_0 (length graph) start some)) refl;
  done = λ number.
      elim (cases_eq number 0) [
        | inl here ↦ inl (inl here)
        | inr apart ↦ inr (λ other there. subst (λ now. IsAtMost (shifted now (total key (steps_at graph number))) (counts_at (begun_counts (length graph) start) other)) (sym (begun-at (length graph) start number apart)) tt)
      ];
  below = (some, tt);
}

-- Bounds

-- the numbers of a block that was reached
abbrev pub spent_at : Counts → ℕ → ℕ
spent_at Never own = 0
spent_at (One count) own = own
spent_at Several own = own

-- the numbers of all blocks that were reached
abbrev pub spent : List Counts → List BasicBlock → ℕ
spent [] graph = 0
spent (x ∷ xs) [] = 0
spent (x ∷ xs) (block ∷ blocks) = spent_at x (size_of_steps block.steps) + spent xs blocks

abbrev pub size_at : List BasicBlock → ℕ → ℕ
size_at graph number = size_of_steps (steps_at graph number)

spent_at-le : (x : Counts) (own : ℕ) → spent_at x own ≤ own
spent_at-le Never own = omega arith
spent_at-le (One count) own = omega arith
spent_at-le Several own = omega arith

pub spent-le : (counts : List Counts) (graph : List BasicBlock) → spent counts graph ≤ size_of_graph graph
spent-le [] graph = omega arith
spent-le (x ∷ xs) [] = omega arith
spent-le (x ∷ xs) (block ∷ blocks) =
    let here = spent_at-le x (size_of_steps block.steps) in
    let rest = spent-le xs blocks in
    omega (arith, here, rest)

pub size_at-le : (graph : List BasicBlock) (number : ℕ) → size_at graph number ≤ size_of_graph graph
size_at-le [] number = omega arith
size_at-le (block ∷ blocks) zero = omega arith
size_at-le (block ∷ blocks) (suc number) = let rest = size_at-le blocks number in omega (arith, rest)

spent-set : (counts : List Counts) (graph : List BasicBlock) (n : ℕ) (x : Counts) → n < length counts → length counts ≡ length graph
    → spent (set counts n x) graph + spent_at (counts_at counts n) (size_at graph n) ≡ spent counts graph + spent_at x (size_at graph n)
spent-set [] graph n x below len = absurd (omega arith)
spent-set (y ∷ counts) [] n x below len = absurd (omega (arith, len))
spent-set (y ∷ counts) (block ∷ blocks) zero x below len = omega arith
spent-set (y ∷ counts) (block ∷ blocks) (suc n) x below len = let rest = spent-set counts blocks n x (omega arith) (omega (arith, len)) in omega (arith, rest)

module _ (graph : List BasicBlock) (enters : ℕ) where
  -- how far counts can be from 0 now
  abbrev pub reach_of : List Counts → ℕ
  reach_of counts = enters + spent counts graph

  abbrev pub AllWithin : List Counts → Type 0
  AllWithin counts = (k : ℕ) → IsWithin (reach_of counts) (size_at graph k) (counts_at counts k)

  -- A block that is reached first pays for its count by its own numbers; where it was reached there is no number more.
  grown-within : (bound now own : ℕ) (old comes x : Counts) → IsWithin bound 0 comes → grown old comes ≡ Some x → now + spent_at old own ≡ bound + spent_at x own
      → IsWithin now own x × (bound ≤ now)
  grown-within bound now own Never Never x within is moved = absurd (cc)
  grown-within bound now own Never (One other) x within is moved =
      let same : One other ≡ x = cc in
      subst (λ y. now + spent_at Never own ≡ bound + spent_at y own → IsWithin now own y × (bound ≤ now)) same
      (λ sum. ((omega (arith, ints, within.0, sum), omega (arith, ints, within.1, sum)), omega (arith, sum))) moved
  grown-within bound now own Never Several x within is moved =
      let same : Several ≡ x = cc in
      subst (λ y. now + spent_at Never own ≡ bound + spent_at y own → IsWithin now own y × (bound ≤ now)) same (λ sum. (tt, omega (arith, sum))) moved
  grown-within bound now own (One count) Never x within is moved = absurd (cc)
  grown-within bound now own (One count) (One other) x within is moved =
      let same : Several ≡ x = more-several count other x is in
      subst (λ y. now + spent_at (One count) own ≡ bound + spent_at y own → IsWithin now own y × (bound ≤ now)) same (λ sum. (tt, omega (arith, sum))) moved
  grown-within bound now own (One count) Several x within is moved =
      let same : Several ≡ x = cc in
      subst (λ y. now + spent_at (One count) own ≡ bound + spent_at y own → IsWithin now own y × (bound ≤ now)) same (λ sum. (tt, omega (arith, sum))) moved
  grown-within bound now own Several comes x within is moved = absurd (cc)

  one-within : (comes : Counts) (bound n : ℕ) (counts : List Counts) → n < length counts → length counts ≡ length graph → bound ≤ reach_of counts → IsWithin bound 0 comes → AllWithin counts
      → (reach_of counts ≤ reach_of (one comes n counts)) × AllWithin (one comes n counts)
  one-within comes bound n counts below len room within all = by (more comes n counts) refl
    where
      by : (g : Option Counts) → more comes n counts ≡ g → (reach_of counts ≤ reach_of (put g n counts)) × AllWithin (put g n counts)
      by None is = (omega arith, all)
      by (Some x) is =
          let sum = spent-set counts graph n x below len in
          let grew =
          grown-within (reach_of counts) (reach_of (set counts n x)) (size_at graph n) (counts_at counts n) comes x
          (within-weaker bound (reach_of counts) 0 0 comes room (omega arith) within) is (omega (arith, sum))
          in (
            grew.1,
            λ k.
                elim (cases_eq k n) [
                  | inl same ↦ subst (λ j. IsWithin (reach_of (set counts n x)) (size_at graph j) (counts_at (set counts n x) j)) (sym same)
                      (subst (IsWithin (reach_of (set counts n x)) (size_at graph n)) (sym (put-same (Some x) n counts below)) grew.0)
                  | inr apart ↦ subst (IsWithin (reach_of (set counts n x)) (size_at graph k)) (sym (put-other (Some x) n k counts apart))
                      (within-weaker (reach_of counts) (reach_of (set counts n x)) (size_at graph k) (size_at graph k) (counts_at counts k) grew.1 (omega arith) (all k))
                ],
          )

  pub all-within : (comes : Counts) (bound : ℕ) (ns : List ℕ) (counts : List Counts) → AllBelow (length counts) ns → length counts ≡ length graph → bound ≤ reach_of counts → IsWithin bound 0 comes → AllWithin counts
      → AllWithin (spread_counts comes ns counts)
  all-within comes bound [] counts below len room within all = all
  all-within comes bound (n ∷ ns) counts below len room within all =
      let here = one-within comes bound n counts below.0 len room within all in
      let same = put-length (more comes n counts) n counts in
      all-within comes bound ns (one comes n counts) (subst (λ size. AllBelow size ns) (sym same) below.1) (same ∙ len) (omega (arith, room, here.0)) within here.1

  -- what comes from a block that is within its bound has used its own numbers up
  pub turn-within : (key number : ℕ) (counts : List Counts) → AllBelow (length counts) (successors_at graph number) → length counts ≡ length graph → AllWithin counts
      → AllWithin (spread_counts (goes_from graph key counts number) (successors_at graph number) counts)
  turn-within key number counts below len all =
      all-within (goes_from graph key counts number) (reach_of counts) (successors_at graph number) counts below len (omega arith)
      (within-shifted (reach_of counts) (size_at graph number) 0 (counts_at counts number) (total key (steps_at graph number)) (total_of_size key (steps_at graph number))
      (subst (λ own. IsWithin (reach_of counts) own (counts_at counts number)) (omega arith) (all number)))
      all

  pub widest : (counts : List Counts) (bound : ℕ) → enters + size_of_graph graph ≤ bound → AllWithin counts → (k : ℕ) → IsWithin bound (size_at graph k) (counts_at counts k)
  widest counts bound few all k =
      within-weaker (reach_of counts) bound (size_at graph k) (size_at graph k) (counts_at counts k) (let most = spent-le counts graph in omega (arith, most, few)) (omega arith) (all k)

pub begun-within : (graph : List BasicBlock) (start : ℤ) → 0 < length graph → AllWithin graph (unsigned_abs start) (begun_counts (length graph) start)
begun-within graph start some k =
    let zero_at = begun-at_0 (length graph) start some in
    elim (cases_eq k 0) [
      | inl here ↦ subst (λ j. IsWithin (reach_of graph (unsigned_abs start) (begun_counts (length graph) start)) (size_at graph j) (counts_at (begun_counts (length graph) start) j)) (sym here)
          (subst (IsWithin (reach_of graph (unsigned_abs start) (begun_counts (length graph) start)) (size_at graph 0)) (sym zero_at) by_own)
      | inr apart ↦ subst (IsWithin (reach_of graph (unsigned_abs start) (begun_counts (length graph) start)) (size_at graph k)) (sym (begun-at (length graph) start k apart)) tt
    ]
  where
    by_own : IsWithin (reach_of graph (unsigned_abs start) (begun_counts (length graph) start)) (size_at graph 0) (One start)
    by_own =
        let size = abs_of_size start in
        let sum = spent-set (replicate (length graph) Never) graph 0 (One start) (omega (arith, length-replicate (length graph) Never, some)) (length-replicate (length graph) Never) in
        let never : counts_at (replicate (length graph) Never) 0 ≡ Never = get_or-replicate (length graph) 0 Never Never some in
        let before = ap (λ x. spent_at x (size_at graph 0)) never in
        (omega (arith, ints, size.high, size.low, sum, before), omega (arith, ints, size.high, size.low, sum, before))
