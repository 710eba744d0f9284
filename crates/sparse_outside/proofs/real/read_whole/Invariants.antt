use Rattle.std.proofs.Common.{◌≤◌, ◌+◌, ◌-◌, vec_len}
use Rattle.std.specs.Io.KnownBytes.{Consumes}
use Rattle.sparse_outside.proofs.real.read_whole.Given as goal

abbrev pub invariant-loop-buffer : goal.invariant-loop-buffer
invariant-loop-buffer g l =
    record {
      most : vec_len l.into ≤ l.max + 1;
      bytes : Consumes (g.F.Read.remaining l.fn.file) (g.F.Read.remaining l.file) l.into.items;
    }

abbrev pub decreases-loop-buffer : goal.decreases-loop-buffer
decreases-loop-buffer g l = l.max + 1 - vec_len l.into
