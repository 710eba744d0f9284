-- From arrivals at blocks to walks and back, and what the list of passed steps tells.
use Rattle.std.proofs.Common.{◌≡◌, ◌≢◌, inl, inr, ℕ, zero, suc, Bool, ℤ, pos, ◌+ℤ◌, List, [], ◌∷◌, ◌++◌, length, append_assoc, append-nil, refl, sym, ap, ◌∙◌, subst, arith}
use Rattle.std.proofs.lemmas.Int.{ints}
use Rattle.meaning_paths.specs.Steps.{Step, Point, Add, Call, End, change, count}
use Rattle.meaning_paths.specs.Walks.{IsIn, Walk, begins, passes, turns}
use Rattle.meaning_paths.specs.Graphs.{BasicBlock, BeginsWithPoint, EachBeginsWithPoint, IsPathOf, steps_at, successors_at}
use Rattle.meaning_paths.specs.ContextRules.{Comes}
use Rattle.meaning_paths.proofs.WalkLemmas.{walk-before}
use Rattle.step_counts.specs.declared.counts.Counts.{Counts}
use Rattle.step_counts.specs.declared.counts.Counts.TheVariants.{Never, One, Several}
use Rattle.step_counts.specs.Counts.{counts_at, shifted, total}
use Rattle.context_walk.specs.Reached.{Arrives, first, next, Covers, IsExact, IsShown}
use Rattle.context_walk.specs.Passed.{Has, Passed, passed_from, passed_of}
use Rattle.context_walk.proofs.SpreadLemmas.{in-append_cases, in-append_left, in-append_right}
use Rattle.context_walk.proofs.ReachLemmas.{covers-shifted}

-- Sums

total-append : (key : ℕ) (xs ys : List Step) → total key (xs ++ ys) ≡ total key xs +ℤ total key ys
total-append key [] ys = omega (arith, ints)
total-append key (x ∷ xs) ys = let rest = total-append key xs ys in omega (arith, ints, rest)

shifted-zero : (counts : Counts) → shifted counts (pos 0) ≡ counts
shifted-zero Never = refl
shifted-zero (One x) = ap One (omega (arith, ints))
shifted-zero Several = refl

shifted-twice : (counts : Counts) (by more : ℤ) → shifted (shifted counts by) more ≡ shifted counts (by +ℤ more)
shifted-twice Never by more = refl
shifted-twice (One x) by more = ap One (omega (arith, ints))
shifted-twice Several by more = refl

-- Walks

module _ (graph : List BasicBlock) (key : ℕ) (start : ℤ) where
  abbrev Goes : List Step → ℕ → List Step → Type 0
  Goes path place rest = Walk (steps_at graph) (successors_at graph) 0 path place rest

  -- a walk passes a front of what is left of its block
  pass_all : (done rest path : List Step) (place : ℕ) → Goes path place (done ++ rest)
      → (all : List Step) × Goes all place rest × (count key start all ≡ count key start path +ℤ total key done)
  pass_all [] rest path place walk = (path, walk, omega (arith, ints))
  pass_all (step ∷ done) rest path place walk =
      let (all, further, counted) = pass_all done rest (step ∷ path) place (passes walk) in
      (all, further, omega (arith, ints, counted))

  -- an arrival has a walk that stands before the block's own steps
  arrives-walk : (number : ℕ) (comes : ℤ) → Arrives graph key start number comes → (path : List Step) × Goes path number (steps_at graph number) × (count key start path ≡ comes)
  arrives-walk number comes first = ([], begins refl, refl)
  arrives-walk number comes (next {number = from} {comes = before} arrives there e) =
      let (path, walk, counted) = arrives-walk from before arrives in
      let (all, further, sum) =
      pass_all (steps_at graph from) [] path from (subst (Goes path from) (sym (append-nil (steps_at graph from))) walk)
      in
      (all, turns further there refl, sum ∙ ap (λ now. now +ℤ total key (steps_at graph from)) counted ∙ sym e)

  -- a walk is inside its block
  record Inside (path : List Step) (place : ℕ) (rest : List Step) : Type 0 where
    pub came : ℤ
    pub done : List Step
    pub arrives : Arrives graph key start place came
    pub split : steps_at graph place ≡ done ++ rest
    pub sum : count key start path ≡ came +ℤ total key done

  walk-inside : (path : List Step) (place : ℕ) (rest : List Step) → Goes path place rest → Inside path place rest
  walk-inside path place rest (begins e) = record { came = start; done = []; arrives = first; split = sym e; sum = omega (arith, ints) }
  walk-inside path place rest (passes {path = front} {step = step} walk) =
      let inside = walk-inside front place (step ∷ rest) walk in
      let more = total-append key inside.done (step ∷ []) in
      let sum = inside.sum in
      record {
        came = inside.came;
        done = inside.done ++ step ∷ [];
        arrives = inside.arrives;
        split = inside.split ∙ sym (append_assoc inside.done (step ∷ []) rest);
        sum = omega (arith, ints, more, sum);
      }
  walk-inside path place rest (turns {place = from} walk there e) =
      let inside = walk-inside path from [] walk in
      let whole : steps_at graph from ≡ inside.done = inside.split ∙ append-nil inside.done in
      record {
        came = count key start path;
        done = [];
        arrives = next inside.arrives there (inside.sum ∙ ap (λ steps. inside.came +ℤ total key steps) (sym whole));
        split = sym e;
        sum = omega (arith, ints);
      }

  -- a path comes to each step of a block where one arrives at the block
  comes-there : (number : ℕ) (comes : ℤ) (done : List Step) (step : Step) (rest : List Step) → Arrives graph key start number comes → steps_at graph number ≡ done ++ step ∷ rest
      → Comes (IsPathOf graph) key start step (comes +ℤ total key done)
  comes-there number comes done step rest arrives split =
      let (path, walk, counted) = arrives-walk number comes arrives in
      let (all, further, sum) = pass_all done (step ∷ rest) path number (subst (Goes path number) split walk) in
      (all, (number, rest, passes further), sum ∙ ap (λ now. now +ℤ total key done) counted)

-- The steps of one block

has-split : (key : ℕ) (comes : Counts) (steps : List Step) (step : Step) (x : Counts) → Has (passed_from key comes steps) step x
    → (done rest : List Step) × (steps ≡ done ++ step ∷ rest) × (x ≡ shifted comes (total key done))
has-split key comes [] step x there = absurd there
has-split key comes (s ∷ steps) step x (inl here) =
    let same : step ≡ s = ap (λ (entry : Passed). entry.step) here in
    let counts : x ≡ comes = ap (λ (entry : Passed). entry.comes) here in
    ([], steps, ap (λ now. now ∷ steps) (sym same), counts ∙ sym (shifted-zero comes))
has-split key comes (s ∷ steps) step x (inr there) =
    let (done, rest, split, is) = has-split key (shifted comes (change key s)) steps step x there in
    (s ∷ done, rest, ap (λ now. s ∷ now) split, is ∙ shifted-twice comes (change key s) (total key done))

split-has : (key : ℕ) (comes : Counts) (done : List Step) (step : Step) (rest : List Step) → Has (passed_from key comes (done ++ step ∷ rest)) step (shifted comes (total key done))
split-has key comes [] step rest = inl (ap (λ now. record { step = step; comes = now }) (shifted-zero comes))
split-has key comes (s ∷ done) step rest =
    inr (subst (Has (passed_from key (shifted comes (change key s)) (done ++ step ∷ rest)) step) (shifted-twice comes (change key s) (total key done)) (split-has key (shifted comes (change key s)) done step rest))

-- The steps of all blocks

has-block : (key : ℕ) (counts : List Counts) (graph : List BasicBlock) (entry : Passed) → IsIn entry (passed_of key counts graph)
    → (number : ℕ) × IsIn entry (passed_from key (counts_at counts number) (steps_at graph number))
has-block key counts [] entry there = absurd there
has-block key [] (block ∷ graph) entry there = absurd there
has-block key (x ∷ counts) (block ∷ graph) entry there =
    elim (in-append_cases entry (passed_from key x block.steps) (passed_of key counts graph) there) [
      | inl here ↦ (0, here)
      | inr later ↦ let (number, found) = has-block key counts graph entry later in (suc number, found)
    ]

block-has : (key : ℕ) (counts : List Counts) (graph : List BasicBlock) (number : ℕ) (entry : Passed) → length counts ≡ length graph
    → IsIn entry (passed_from key (counts_at counts number) (steps_at graph number)) → IsIn entry (passed_of key counts graph)
block-has key counts [] number entry len there = absurd there
block-has key [] (block ∷ graph) number entry len there = absurd (omega (arith, len))
block-has key (x ∷ counts) (block ∷ graph) zero entry len there = in-append_left entry (passed_from key x block.steps) (passed_of key counts graph) there
block-has key (x ∷ counts) (block ∷ graph) (suc number) entry len there =
    in-append_right entry (passed_from key x block.steps) (passed_of key counts graph) (block-has key counts graph number entry (omega (arith, len)) there)

-- What the list tells

-- a step that is passed with one count is shown by one path, with several by two
abbrev pub IsShownStep : List BasicBlock → (key : ℕ) → (start : ℤ) → Step → Counts → Type 0
IsShownStep graph key start step Never = Unit {0}
IsShownStep graph key start step (One comes) = Comes (IsPathOf graph) key start step comes
IsShownStep graph key start step Several = (one other : ℤ) × Comes (IsPathOf graph) key start step one × Comes (IsPathOf graph) key start step other × (one ≢ other)

pub record Tells (graph : List BasicBlock) (key : ℕ) (start : ℤ) (passed : List Passed) : Type 0 where
  pub shown : (step : Step) (counts : Counts) → Has passed step counts → IsShownStep graph key start step counts
  pub covers : (step : Step) (comes : ℤ) → Comes (IsPathOf graph) key start step comes → (counts : Counts) × Has passed step counts × Covers counts comes
  -- whoever has several at a step has several at the point with which its block begins
  pub points : (step : Step) → Has passed step Several → (token : ℕ) × (moment : Bool) × Has passed (Point token moment) Several

module _ (graph : List BasicBlock) (key : ℕ) (start : ℤ) (counts : List Counts) (exact : IsExact graph key start counts) where
  abbrev passed : List Passed
  passed = passed_of key counts graph

  shown-step : (number : ℕ) (x : Counts) (done : List Step) (step : Step) (rest : List Step) → IsShown graph key start number x → steps_at graph number ≡ done ++ step ∷ rest
      → IsShownStep graph key start step (shifted x (total key done))
  shown-step number Never done step rest is split = tt
  shown-step number (One count) done step rest is split = comes-there graph key start number count done step rest is split
  shown-step number Several done step rest (one, other, arrives, arrives_too, apart) split = (
    one +ℤ total key done,
    other +ℤ total key done,
    comes-there graph key start number one done step rest arrives split,
    comes-there graph key start number other done step rest arrives_too split,
    λ equal. apart (omega (arith, ints, equal)),
  )

  tells-shown : (step : Step) (x : Counts) → Has passed step x → IsShownStep graph key start step x
  tells-shown step x there =
      let (number, found) = has-block key counts graph (record { step = step; comes = x }) there in
      let (done, rest, split, is) = has-split key (counts_at counts number) (steps_at graph number) step x found in
      subst (IsShownStep graph key start step) (sym is) (shown-step number (counts_at counts number) done step rest (exact.shown number) split)

  tells-covers : (step : Step) (comes : ℤ) → Comes (IsPathOf graph) key start step comes → (x : Counts) × Has passed step x × Covers x comes
  tells-covers step comes (path, (place, after, walk), counted) =
      let (number, rest, before) = walk-before (steps_at graph) (successors_at graph) 0 step path (step ∷ path) place after refl walk in
      let inside = walk-inside graph key start path number (step ∷ rest) before in
      let here = exact.covers number inside.came inside.arrives in
      let entry : Has (passed_from key (counts_at counts number) (steps_at graph number)) step (shifted (counts_at counts number) (total key inside.done)) =
      subst (λ steps. Has (passed_from key (counts_at counts number) steps) step (shifted (counts_at counts number) (total key inside.done))) (sym inside.split)
      (split-has key (counts_at counts number) inside.done step rest)
      in (
        shifted (counts_at counts number) (total key inside.done),
        block-has key counts graph number (record { step = step; comes = shifted (counts_at counts number) (total key inside.done) }) exact.len entry,
        subst (Covers (shifted (counts_at counts number) (total key inside.done))) (sym inside.sum ∙ counted)
            (covers-shifted (counts_at counts number) inside.came (total key inside.done) here),
      )

  -- several behind a change are several before it
  shifted-several : (x : Counts) (by : ℤ) → Several ≡ shifted x by → x ≡ Several
  shifted-several Never by is = absurd (cc)
  shifted-several (One count) by is = absurd (cc)
  shifted-several Several by is = refl

  first-point : (steps done : List Step) (step : Step) (rest : List Step) → steps ≡ done ++ step ∷ rest → BeginsWithPoint steps
      → (token : ℕ) × (moment : Bool) × Has (passed_from key Several steps) (Point token moment) Several
  first-point [] [] step rest split begins_so = absurd (cc)
  first-point [] (x ∷ done) step rest split begins_so = absurd (cc)
  first-point (Point token moment ∷ steps) done step rest split begins_so = (token, moment, inl refl)
  first-point (Add token other by ∷ steps) done step rest split begins_so = absurd begins_so
  first-point (Call token other enters leaves ∷ steps) done step rest split begins_so = absurd begins_so
  first-point (End token ∷ steps) done step rest split begins_so = absurd begins_so

  tells-points : EachBeginsWithPoint graph → (step : Step) → Has passed step Several → (token : ℕ) × (moment : Bool) × Has passed (Point token moment) Several
  tells-points begin_so step there =
      let (number, found) = has-block key counts graph (record { step = step; comes = Several }) there in
      let (done, rest, split, is) = has-split key (counts_at counts number) (steps_at graph number) step Several found in
      let several = shifted-several (counts_at counts number) (total key done) is in
      let (token, moment, point) = first-point (steps_at graph number) done step rest split (begin_so number) in (
        token,
        moment,
        block-has key counts graph number (record { step = Point token moment; comes = Several }) exact.len
            (subst (λ x. Has (passed_from key x (steps_at graph number)) (Point token moment) Several) (sym several) point),
      )

  pub exact-tells : EachBeginsWithPoint graph → Tells graph key start passed
  exact-tells begin_so = record { shown = tells-shown; covers = tells-covers; points = tells-points begin_so }
