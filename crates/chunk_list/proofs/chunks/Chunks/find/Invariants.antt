-- The place so far is one of what is left, and says the same there.
use Rattle.std.proofs.Common.{◌≡◌, ◌+◌, length}
use Rattle.std.specs.List.{slice_get}
use Rattle.chunk_list.specs.Chunks.{contents, items_of}
use Rattle.chunk_list.proofs.chunks.Chunks.find.Given as goal

abbrev pub invariant-loop-chunk : goal.invariant-loop-chunk
invariant-loop-chunk g l =
    (goal.iterator-loop-chunk g).can_next l.chunk-iterator ×
    (goal.iterator-loop-chunk g).is_finite l.chunk-iterator ×
    (length (contents items_of l.self.list) + l.beyond ≡ l.place + length (contents items_of l.chunk-iterator)) ×
    (slice_get (contents items_of l.self.list) l.place ≡ slice_get (contents items_of l.chunk-iterator) l.beyond)
