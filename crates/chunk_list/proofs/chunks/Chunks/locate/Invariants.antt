-- The place so far is one of what is left, behind as many vectors as the index says.
use Rattle.std.proofs.Common.{◌≡◌, ◌+◌, ◌<◌, ◌^◌, length, take, drop}
use Rattle.chunk_list.specs.Chunks.{contents, items_of}
use Rattle.chunk_list.proofs.chunks.Chunks.locate.Given as goal

abbrev pub invariant-loop-index : goal.invariant-loop-index
invariant-loop-index g l =
    (goal.iterator-loop-index g).can_next l.chunk-iterator ×
    (goal.iterator-loop-index g).is_finite l.chunk-iterator ×
    (l.index + length l.chunk-iterator ≡ length l.self.list) ×
    (length l.self.list < 2 ^ 63) ×
    (drop l.index l.self.list ≡ l.chunk-iterator) ×
    (l.place ≡ length (contents items_of (take l.index l.self.list)) + l.within) ×
    (l.within < length (contents items_of l.chunk-iterator))
