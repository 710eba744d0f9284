-- What stands above the nodes from the next one on is kept.
use Rattle.std.proofs.Common.{◌≡◌, length}
use Rattle.decl_judge.specs.Units.{nodes_of}
use Rattle.node_surroundings.specs.Seen.{surroundings_seen}
use Rattle.statement_judge.proofs.EnclosingLemmas.{AreFrom}
use Rattle.statement_judge.proofs.pass.enclosings_of.Given as goal

abbrev pub invariant-loop-handle : goal.invariant-loop-handle
invariant-loop-handle l =
    record {
      are : AreFrom (nodes_of l.unit) (surroundings_seen l.surroundings) l.handle l.enclosings;
      all : length l.enclosings ≡ l.count;
    }
