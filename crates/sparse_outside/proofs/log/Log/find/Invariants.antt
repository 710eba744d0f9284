use Rattle.std.proofs.Common.{◌≡◌, map}
use Rattle.std.specs.Ordering.{nat_cmp}
use Rattle.std.specs.Cmp.Lexicographic.{slice_cmp}
use Rattle.std.specs.FinMap.{get, find}
use Rattle.std.specs.VecDeque.Iter.{deque_iter_rest}
use Rattle.sparse_outside.specs.Log.{entry_of}
use Rattle.sparse_outside.proofs.log.Log.find.Given as goal

abbrev pub invariant-loop-file : goal.invariant-loop-file
invariant-loop-file l =
    get l.self l.path ≡ find (slice_cmp nat_cmp) l.path (map entry_of (deque_iter_rest l.file-iterator))
