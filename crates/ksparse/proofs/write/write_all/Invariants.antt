use Rattle.std.proofs.Common.{◌≡◌, ◌≤◌, ◌-◌, ◌++◌, length, take}
use Rattle.ksparse.specs.Sinks.{TellsWhatItTook}
use Rattle.ksparse.proofs.write.write_all.Given as goal

abbrev pub invariant-loop-done : goal.invariant-loop-done
invariant-loop-done g l =
    record {
      within : l.done ≤ length l.text;
      taken : g.S.Sink.taken l.sink ≡ g.S.Sink.taken l.fn.sink ++ take l.done l.text;
      told : TellsWhatItTook (g.S.Sink.written l.fn.sink) (g.S.Sink.written l.sink) (g.S.Sink.taken l.fn.sink) (g.S.Sink.taken l.sink);
      count : g.S.Sink.faults l.sink ≡ g.S.Sink.faults l.fn.sink;
    }

abbrev pub decreases-loop-done : goal.decreases-loop-done
decreases-loop-done g l = length l.text - l.done
