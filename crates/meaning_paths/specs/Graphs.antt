-- Control flow graphs: basic blocks by number, and the walks through them from block 0.
use Rattle.std.specs.Prelude.{ℕ, ◌+◌, ◌<◌, List, [], ◌∷◌, length, slice_index_or, unsigned_abs}
use Rattle.meaning_paths.specs.Steps.{Step, Point, Add, Call, End}
use Rattle.meaning_paths.specs.Walks.{IsIn, IsPath}

-- A basic block: its steps in order, and the numbers of its successors.
pub record BasicBlock : Type 0 where
  pub steps : List Step
  pub successors : List ℕ

-- a block that isn't there
abbrev pub empty_block : BasicBlock
empty_block = record { steps = []; successors = [] }

-- the steps of a block, of which one that isn't there has none
abbrev pub steps_at : List BasicBlock → ℕ → List Step
steps_at graph number = (slice_index_or graph number empty_block).steps

abbrev pub successors_at : List BasicBlock → ℕ → List ℕ
successors_at graph number = (slice_index_or graph number empty_block).successors

-- the paths of a graph
abbrev pub IsPathOf : List BasicBlock → List Step → Type 0
IsPathOf graph path = IsPath (steps_at graph) (successors_at graph) 0 path

-- each successor is the number of a block
abbrev pub IsClosed : List BasicBlock → Type 0
IsClosed graph = (number other : ℕ) → IsIn other (successors_at graph number) → other < length graph

-- the steps begin with a point, if there are any
abbrev pub BeginsWithPoint : List Step → Type 0
BeginsWithPoint [] = Unit {0}
BeginsWithPoint (Point token moment ∷ steps) = Unit {0}
BeginsWithPoint (step ∷ steps) = ⊥

abbrev pub EachBeginsWithPoint : List BasicBlock → Type 0
EachBeginsWithPoint graph = (number : ℕ) → BeginsWithPoint (steps_at graph number)

-- the numbers of a step, without their signs, whatever its key
abbrev pub size_of_step : Step → ℕ
size_of_step (Point token moment) = 0
size_of_step (Add token key by) = unsigned_abs by
size_of_step (Call token key enters leaves) = unsigned_abs enters + unsigned_abs leaves
size_of_step (End token) = 0

abbrev pub size_of_steps : List Step → ℕ
size_of_steps [] = 0
size_of_steps (step ∷ steps) = size_of_step step + size_of_steps steps

abbrev pub size_of_graph : List BasicBlock → ℕ
size_of_graph [] = 0
size_of_graph (block ∷ blocks) = size_of_steps block.steps + size_of_graph blocks
