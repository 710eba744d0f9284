use Rattle.std.proofs.Common.{◌≡◌, ◌+◌, ◌≤◌, length}
use Rattle.c_directives.specs.Headers.{end_from}
use Rattle.c_directives.proofs.search.directory_length.Given as goal

abbrev pub invariant-bytes : goal.invariant-bytes
invariant-bytes l =
    record {
      same : end_from l.count l.end l.left ≡ end_from 0 0 l.path;
      all : l.count + length l.left ≡ length l.path;
      within : l.end ≤ l.count;
    }

abbrev pub decreases-bytes : goal.decreases-bytes
decreases-bytes l = length l.left
