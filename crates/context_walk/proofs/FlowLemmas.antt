-- What the code reads of a block is what the graph has.
use Rattle.std.proofs.Common.{◌≡◌, ℕ, suc, ◌+◌, ◌<◌, List, [], ◌∷◌, ◌++◌, length, get_or, drop, map, add-one, append_assoc, drop-cons, refl, sym, ap, ◌∙◌}
use Rattle.std.proofs.lemmas.List.{get_or-map, map-append}
use Rattle.meaning_paths.specs.Steps.{change}
use Rattle.meaning_paths.specs.Graphs.{BasicBlock, empty_block, steps_at, successors_at}
use Rattle.control_flow.specs.declared.step.Step.{Step}
use Rattle.control_flow.specs.declared.flow.Block.{Block}
use Rattle.control_flow.specs.Seen.{block_of, graph_of_blocks, step_of, targets, the_key}
use Rattle.step_counts.specs.declared.counts.Counts.{Counts}
use Rattle.step_counts.specs.declared.counts.Counts.TheVariants.{Never}
use Rattle.context_walk.specs.declared.passed.PassedStep.{PassedStep}
use Rattle.step_counts.specs.Counts.{counts_at, shifted}
use Rattle.context_walk.specs.Passed.{Passed, passed_as, passed_from, passed_of, passed_seen}

pub block-read : (blocks : List Block) (number : ℕ) (block : Block) → number < length blocks → block ≡ get_or blocks number block → get_or (graph_of_blocks blocks) number empty_block ≡ block_of block
block-read blocks number block below is = get_or-map block_of blocks number block empty_block below ∙ ap block_of (sym is)

pub steps-read : (blocks : List Block) (number : ℕ) (block : Block) → number < length blocks → block ≡ get_or blocks number block → steps_at (graph_of_blocks blocks) number ≡ map step_of block.steps
steps-read blocks number block below is = ap (λ (found : BasicBlock). found.steps) (block-read blocks number block below is)

-- the steps that were read as a slice
pub slice-read : (blocks : List Block) (number : ℕ) (block : Block) (slice : List Step) → number < length blocks → block ≡ get_or blocks number block → slice ≡ (get_or blocks number block).steps
    → map step_of slice ≡ steps_at (graph_of_blocks blocks) number
slice-read blocks number block slice below is read =
    ap (map step_of) read ∙ ap (λ (found : Block). map step_of found.steps) (sym is) ∙ sym (steps-read blocks number block below is)

pub successors-read : (blocks : List Block) (number : ℕ) (block : Block) → number < length blocks → block ≡ get_or blocks number block → successors_at (graph_of_blocks blocks) number ≡ targets block.next
successors-read blocks number block below is = ap (λ (found : BasicBlock). found.successors) (block-read blocks number block below is)

pub length-graph : (blocks : List Block) → length (graph_of_blocks blocks) ≡ length blocks
length-graph [] = refl
length-graph (block ∷ blocks) = ap suc (length-graph blocks)

-- the steps of one block more
pub pass-one : (key : ℕ) (counts : List Counts) (graph : List BasicBlock) (number : ℕ) → number < length counts → number < length graph
    → passed_of key (drop number counts) (drop number graph) ≡ passed_from key (counts_at counts number) (steps_at graph number) ++ passed_of key (drop (number + 1) counts) (drop (number + 1) graph)
pass-one key counts graph number below below_too =
    (λ i. passed_of key (drop-cons counts number Never below i) (drop-cons graph number empty_block below_too i))
    ∙ ap (λ n. passed_from key (counts_at counts number) (steps_at graph number) ++ passed_of key (drop n counts) (drop n graph)) (sym (add-one number))

-- one step more is passed, and the rest comes with what is behind it
pub pass-step : (before : List PassedStep) (step : Step) (comes more : Counts) (rest others : List Step) → rest ≡ step ∷ others → more ≡ shifted comes (change the_key (step_of step))
    → passed_seen (before ++ record { step = step; comes = comes } ∷ []) ++ passed_from the_key more (map step_of others)
    ≡ passed_seen before ++ passed_from the_key comes (map step_of rest)
pass-step before step comes more rest others split is =
    let entry : PassedStep = record { step = step; comes = comes } in
    ap (λ (front : List Passed). front ++ passed_from the_key more (map step_of others)) (map-append passed_as before (entry ∷ []))
    ∙ append_assoc (passed_seen before) (passed_as entry ∷ []) (passed_from the_key more (map step_of others))
    ∙ ap (λ (counts : Counts). passed_seen before ++ passed_as entry ∷ passed_from the_key counts (map step_of others)) is
    ∙ ap (λ (steps : List Step). passed_seen before ++ passed_from the_key comes (map step_of steps)) (sym split)
