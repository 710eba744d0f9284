-- What is still to be dropped leads to the same list as all of it did at the start.
use Rattle.std.proofs.Common.{◌≡◌, ◌-◌, ◌≤◌, length, take}
use Rattle.chunk_list.specs.Chunks.{AllFilled, contents, items_of}
use Rattle.chunk_list.proofs.chunks.Chunks.shed.Given as goal

abbrev pub invariant-loop-left : goal.invariant-loop-left
invariant-loop-left g l =
    (l.left ≤ length (contents items_of l.self.list)) ×
    AllFilled items_of l.self.list ×
    (take (length (contents items_of l.self.list) - l.left) (contents items_of l.self.list) ≡ take (length (contents items_of l.fn.self.list) - l.surplus) (contents items_of l.fn.self.list))

abbrev pub decreases-loop-left : goal.decreases-loop-left
decreases-loop-left g l = l.left
