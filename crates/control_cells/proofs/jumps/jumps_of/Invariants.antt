-- Each `goto` so far is known, and those below the cells so far go to their labels.
use Rattle.control_cells.specs.Jumps.{AreGotos, AreJumps, kinds_of}
use Rattle.control_cells.specs.Labels.{rows}
use Rattle.control_cells.proofs.jumps.jumps_of.Given as goal

abbrev pub invariant-loop-number : goal.invariant-loop-number
invariant-loop-number l =
    record {
      gotos : AreGotos (kinds_of l.cells) l.number l.gotos;
      jumps : AreJumps (kinds_of l.cells) l.firsts (rows l.labels) l.number (rows l.jumps.items);
    }
