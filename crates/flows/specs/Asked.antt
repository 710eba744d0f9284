-- What the walk asks for, of numbers and of graphs; and what a graph lacks of it.
use Rattle.std.specs.Prelude.{ℕ, ◌+◌, ◌-◌, ◌<◌, ◌^◌, ℤ, Bool, true, false, ◌&&◌, nat_eq, nat_le, nat_lt, Option, Some, None, List, [], ◌∷◌, length, unsigned_abs, if◌then◌else◌}
use Rattle.meaning_paths.specs.Steps.{Step, Point, Add, Call, End}
use Rattle.meaning_paths.specs.Graphs.{BasicBlock, EachBeginsWithPoint, IsClosed, size_of_graph, size_of_steps}
use Rattle.flows.specs.declared.wrong.Wrong.{Wrong}
use Rattle.flows.specs.declared.wrong.Wrong.TheVariants.{NoStep, NoPointFirst, NoSuchBlock, LargeSum}

pub record IsAsked (graph : List BasicBlock) (enters : ℤ) : Type 0 where
  pub begins : 0 < length graph
  pub closed : IsClosed graph
  pub points : EachBeginsWithPoint graph
  pub small : unsigned_abs enters + size_of_graph graph < 2 ^ 63

abbrev pub is_point : Step → Bool
is_point (Point token moment) = true
is_point (Add token key by) = false
is_point (Call token key enters leaves) = false
is_point (End token) = false

-- no steps, or a point first
abbrev pub begins_with_point : List Step → Bool
begins_with_point [] = true
begins_with_point (step ∷ steps) = is_point step

-- all of these are numbers of blocks
abbrev pub all_below : (blocks : ℕ) → List ℕ → Bool
all_below blocks [] = true
all_below blocks (number ∷ numbers) = nat_lt number blocks && all_below blocks numbers

-- What a block lacks, in this order, where so much is left of a sum for its numbers.
abbrev pub block_fault : (blocks left : ℕ) → BasicBlock → Option Wrong
block_fault blocks left block =
    if begins_with_point block.steps
    then
    if all_below blocks block.successors
    then if nat_le (size_of_steps block.steps) left then None else Some LargeSum
    else Some NoSuchBlock
    else Some NoPointFirst

-- what is wrong with the block of this number, or else with those behind it
abbrev pub fault_or : (number : ℕ) → Option Wrong → Option (ℕ × Wrong) → Option (ℕ × Wrong)
fault_or number None later = later
fault_or number (Some wrong) later = Some (number, wrong)

-- the first block that lacks something, and what, from the block of this number on
abbrev pub fault_from : (blocks left number : ℕ) → List BasicBlock → Option (ℕ × Wrong)
fault_from blocks left number [] = None
fault_from blocks left number (block ∷ rest) =
    fault_or number (block_fault blocks left block) (fault_from blocks (left - size_of_steps block.steps) (number + 1) rest)

-- The first block of a graph that lacks something, and what. The sum begins with the count to enter with.
abbrev pub asked_fault : List BasicBlock → (enters : ℤ) → Option (ℕ × Wrong)
asked_fault graph enters =
    if nat_eq (length graph) 0 then Some (0, NoStep)
    else if nat_le (unsigned_abs enters) (2 ^ 63 - 1) then fault_from (length graph) ((2 ^ 63 - 1) - unsigned_abs enters) 0 graph
    else Some (0, LargeSum)
