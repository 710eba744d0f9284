-- The first block waits; a turn keeps what is kept; where none waits, all is told.
use Rattle.std.proofs.Common.{◌≡◌, ℕ, ◌-◌, ◌<◌, ◌^◌, List, [], ◌∷◌, ◌++◌, length, get_or, map, set, replicate, unsigned_abs, of_z, to_z, sym, ap, ◌∙◌, subst, arith, length-append}
use Rattle.std.specs.Int.{w64}
use Rattle.std.proofs.lemmas.Int.{to_z-of_z}
use Rattle.std.proofs.lemmas.List.{get_or_default, nil_from_length}
use Rattle.meaning_paths.specs.Graphs.{BasicBlock, size_of_steps, steps_at, successors_at}
use Rattle.control_flow.specs.declared.flow.Block.{Block}
use Rattle.control_flow.specs.declared.step.Step.{Step}
use Rattle.control_flow.specs.Seen.{graph_of_blocks, step_of, the_key}
use Rattle.step_counts.specs.declared.counts.Counts.{Counts}
use Rattle.step_counts.specs.declared.counts.Counts.TheVariants.{Never, One}
use Rattle.step_counts.specs.Counts.{IsWithin, counts_at, shifted, total}
use Rattle.context_walk.specs.Reached.{IsExact}
use Rattle.context_walk.specs.Spread.{AllBelow, spread_counts, spread_worklist}
use Rattle.context_walk.proofs.FlowLemmas.{length-graph, slice-read, successors-read}
use Rattle.context_walk.proofs.ReachLemmas.{AllWithin, Keeps, begun-keeps, begun-within, below-append, goes_from, kept-exact, size_at-le, successors-below, turn-keeps, turn-within, widest}
use Rattle.context_walk.proofs.SpreadLemmas.{all-room, room_of_all}
use Rattle.context_walk.proofs.reach.reach.Goals as goal

-- the block that is taken, and those that wait on
taken_below : (graph : List BasicBlock) (all front : List ℕ) (number : ℕ) → all ≡ front ++ number ∷ [] → AllBelow (length graph) all → AllBelow (length graph) front × (number < length graph)
taken_below graph all front number is below =
    let parts = below-append (length graph) front (number ∷ []) (subst (AllBelow (length graph)) is below) in
    (parts.0, parts.1.0)

steps_read : (blocks : List Block) (number : ℕ) (block : Block) (slice : List Step) → number < length blocks → block ≡ get_or blocks number block → slice ≡ block.steps
    → map step_of slice ≡ steps_at (graph_of_blocks blocks) number
steps_read blocks number block slice below is read = slice-read blocks number block slice below is (read ∙ ap (λ (found : Block). found.steps) is)

known_at : (counts : List Counts) (number : ℕ) (found : Counts) → number < length counts → found ≡ get_or counts number found → found ≡ counts_at counts number
known_at counts number found below is = is ∙ get_or_default counts number found Never below

pub turns-init : goal.turns-init
turns-init c =
    let graph = graph_of_blocks c.args.blocks.now in
    let start = to_z w64 (of_z w64 c.args.enters) in
    let some : 0 < length graph = omega (arith, c.requires.begins, length-graph c.args.blocks.now) in
    let all : c.in_ok-counts.counts.items ≡ replicate (length graph) Never =
    c.in_ok-counts.ensures.items_if_clones_equal (λ y e. e) ∙ ap (λ n. replicate n Never) (sym (length-graph c.args.blocks.now))
    in
    let waits : c.push.new.self.items ≡ 0 ∷ [] = c.in_ok-push.ensures.items ∙ ap (λ (items : List ℕ). items ++ 0 ∷ []) c.new-worklist.ensures.items in
    record {
      keeps =
          subst (λ items. Keeps graph the_key start (set items 0 (One start)) c.push.new.self.items) (sym all)
          (subst (Keeps graph the_key start (set (replicate (length graph) Never) 0 (One start))) (sym waits) (begun-keeps graph the_key start some));
      within = subst (λ items. AllWithin graph (unsigned_abs start) (set items 0 (One start))) (sym all) (begun-within graph start some);
    }

pub bounds-blocks-number : goal.bounds-blocks-number
bounds-blocks-number c =
    let below = taken_below (graph_of_blocks c.args.blocks.now) c.turns.worklist.items c.pop.new.self.items c.in-Some.number c.in-Some.ensures.items c.turns.invariant.keeps.below in
    omega (arith, below.1, length-graph c.args.blocks.now)

pub index-requires : goal.index-requires
index-requires c =
    let below = taken_below (graph_of_blocks c.args.blocks.now) c.turns.worklist.items c.pop.new.self.items c.in-Some.number c.in-Some.ensures.items c.turns.invariant.keeps.below in
    let lower : c.in-Some.number < length c.turns.counts.items = omega (arith, below.1, c.turns.invariant.keeps.len) in
    omega arith

pub behind-comes-requires-clause-small : goal.behind-comes-requires-clause-small
behind-comes-requires-clause-small c =
    let below = taken_below (graph_of_blocks c.args.blocks.now) c.turns.worklist.items c.pop.new.self.items c.in-Some.number c.in-Some.ensures.items c.turns.invariant.keeps.below in
    let inside : c.in-Some.number < length c.args.blocks.now = omega (arith, below.1, length-graph c.args.blocks.now) in
    let read = steps_read c.args.blocks.now c.in-Some.number c.index-blocks-number.result c.as_slice.result.now inside c.index-blocks-number.is c.as_slice.ensures in
    omega (arith, size_at-le (graph_of_blocks c.args.blocks.now) c.in-Some.number, ap size_of_steps read, c.requires.small)

pub behind-comes-requires-clause-within : goal.behind-comes-requires-clause-within
behind-comes-requires-clause-within c =
    let graph = graph_of_blocks c.args.blocks.now in
    let below = taken_below graph c.turns.worklist.items c.pop.new.self.items c.in-Some.number c.in-Some.ensures.items c.turns.invariant.keeps.below in
    let inside : c.in-Some.number < length c.args.blocks.now = omega (arith, below.1, length-graph c.args.blocks.now) in
    let lower : c.in-Some.number < length c.turns.counts.items = omega (arith, below.1, c.turns.invariant.keeps.len) in
    let read = steps_read c.args.blocks.now c.in-Some.number c.index-blocks-number.result c.as_slice.result.now inside c.index-blocks-number.is c.as_slice.ensures in
    let known = known_at c.turns.counts.items c.in-Some.number c.index.result.now lower c.index.ensures in
    let same = ap unsigned_abs (to_z-of_z w64 c.args.enters c.ranges.enters) in
    subst (λ counts. IsWithin (2 ^ 63 - 1) (size_of_steps (map step_of c.as_slice.result.now)) counts) (sym known)
    (subst (λ own. IsWithin (2 ^ 63 - 1) own (counts_at c.turns.counts.items c.in-Some.number)) (sym (ap size_of_steps read))
    (widest graph (unsigned_abs (to_z w64 (of_z w64 c.args.enters))) c.turns.counts.items (2 ^ 63 - 1) (omega (arith, c.requires.small, same)) c.turns.invariant.within c.in-Some.number))

pub spread-requires : goal.spread-requires
spread-requires c =
    let graph = graph_of_blocks c.args.blocks.now in
    let below = taken_below graph c.turns.worklist.items c.pop.new.self.items c.in-Some.number c.in-Some.ensures.items c.turns.invariant.keeps.below in
    let inside : c.in-Some.number < length c.args.blocks.now = omega (arith, below.1, length-graph c.args.blocks.now) in
    subst (AllBelow (length c.turns.counts.items)) (successors-read c.args.blocks.now c.in-Some.number c.index-blocks-number.result inside c.index-blocks-number.is)
    (successors-below graph the_key (to_z w64 (of_z w64 c.args.enters)) c.requires.closed c.turns.counts.items c.pop.new.self.items c.in-Some.number c.turns.invariant.keeps.len)

-- what a turn leaves is what spreading leaves
turned : (c : goal.In_ok-spread)
    → (c.spread.new.counts.items ≡ spread_counts (goes_from (graph_of_blocks c.args.blocks.now) the_key c.turns.counts.items c.in-Some.number) (successors_at (graph_of_blocks c.args.blocks.now) c.in-Some.number) c.turns.counts.items)
    × (c.spread.new.worklist.items
    ≡ spread_worklist (goes_from (graph_of_blocks c.args.blocks.now) the_key c.turns.counts.items c.in-Some.number) (successors_at (graph_of_blocks c.args.blocks.now) c.in-Some.number) c.turns.counts.items c.pop.new.self.items)
turned c =
    let graph = graph_of_blocks c.args.blocks.now in
    let below = taken_below graph c.turns.worklist.items c.pop.new.self.items c.in-Some.number c.in-Some.ensures.items c.turns.invariant.keeps.below in
    let inside : c.in-Some.number < length c.args.blocks.now = omega (arith, below.1, length-graph c.args.blocks.now) in
    let lower : c.in-Some.number < length c.turns.counts.items = omega (arith, below.1, c.turns.invariant.keeps.len) in
    let read = steps_read c.args.blocks.now c.in-Some.number c.index-blocks-number.result c.as_slice.result.now inside c.index-blocks-number.is c.as_slice.ensures in
    let known = known_at c.turns.counts.items c.in-Some.number c.index.result.now lower c.index.ensures in
    let goes : c.behind-comes.result ≡ goes_from graph the_key c.turns.counts.items c.in-Some.number =
    c.behind-comes.ensures ∙ (λ i. shifted (known i) (total the_key (read i)))
    in
    let next = sym (successors-read c.args.blocks.now c.in-Some.number c.index-blocks-number.result inside c.index-blocks-number.is) in (
      c.in_ok-spread.ensures.counts ∙ (λ i. spread_counts (goes i) (next i) c.turns.counts.items),
      c.in_ok-spread.ensures.worklist ∙ (λ i. spread_worklist (goes i) (next i) c.turns.counts.items c.pop.new.self.items),
    )

pub turns-smaller : goal.turns-smaller
turns-smaller c =
    let graph = graph_of_blocks c.args.blocks.now in
    let comes = goes_from graph the_key c.turns.counts.items c.in-Some.number in
    let left =
    all-room comes (successors_at graph c.in-Some.number) c.turns.counts.items c.pop.new.self.items
    (successors-below graph the_key (to_z w64 (of_z w64 c.args.enters)) c.requires.closed c.turns.counts.items c.pop.new.self.items c.in-Some.number c.turns.invariant.keeps.len)
    in
    let after = turned c in
    omega (
      arith,
      left,
      ap room_of_all after.0,
      ap (λ (items : List ℕ). length items) after.1,
      ap (λ (items : List ℕ). length items) c.in-Some.ensures.items,
      length-append c.pop.new.self.items (c.in-Some.number ∷ []),
    )

pub turns-preserved : goal.turns-preserved
turns-preserved c =
    let graph = graph_of_blocks c.args.blocks.now in
    let start = to_z w64 (of_z w64 c.args.enters) in
    let number = c.in-Some.number in
    let counts = c.turns.counts.items in
    let popped = c.pop.new.self.items in
    let taken : Keeps graph the_key start counts (popped ++ number ∷ []) = subst (Keeps graph the_key start counts) c.in-Some.ensures.items c.turns.invariant.keeps in
    let after = turned c in
    record {
      keeps =
          subst (λ items. Keeps graph the_key start items c.spread.new.worklist.items) (sym after.0)
          (subst (Keeps graph the_key start (spread_counts (goes_from graph the_key counts number) (successors_at graph number) counts)) (sym after.1)
          (turn-keeps graph the_key start c.requires.closed counts popped number taken));
      within =
          subst (AllWithin graph (unsigned_abs start)) (sym after.0)
          (turn-within graph (unsigned_abs start) the_key number counts (successors-below graph the_key start c.requires.closed counts popped number c.turns.invariant.keeps.len) c.turns.invariant.keeps.len c.turns.invariant.within);
    }

pub returns-clause-exact : goal.returns-clause-exact
returns-clause-exact c =
    let graph = graph_of_blocks c.args.blocks.now in
    let start = to_z w64 (of_z w64 c.args.enters) in
    let none = nil_from_length c.turns.worklist.items (omega (arith, c.in_default.ensures.cases.0)) in
    subst (λ from. IsExact graph the_key from c.turns.counts.items) (to_z-of_z w64 c.args.enters c.ranges.enters)
    (kept-exact graph the_key start c.turns.counts.items (subst (Keeps graph the_key start c.turns.counts.items) none c.turns.invariant.keeps))

pub returns-clause-within : goal.returns-clause-within
returns-clause-within c number =
    let graph = graph_of_blocks c.args.blocks.now in
    let same = ap unsigned_abs (to_z-of_z w64 c.args.enters c.ranges.enters) in
    widest graph (unsigned_abs (to_z w64 (of_z w64 c.args.enters))) c.turns.counts.items (2 ^ 63 - 1) (omega (arith, c.requires.small, same)) c.turns.invariant.within number
