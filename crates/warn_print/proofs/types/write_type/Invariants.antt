use Rattle.std.proofs.Common.{◌≡◌, ◌++◌}
use Rattle.c_types.specs.Table.{type_at}
use Rattle.warn_print.specs.Pieces.{AreKnownPieces, spelled_in, stack_text, stack_weight}
use Rattle.warn_print.proofs.types.write_type.Given as goal

abbrev pub invariant-pieces : goal.invariant-pieces
invariant-pieces l =
    record {
      known : AreKnownPieces l.types l.stack.items;
      written : l.text.items ++ stack_text l.names l.types l.stack.items ≡ l.fn.text.items ++ spelled_in l.names l.types (type_at l.types l.fn.t);
    }

abbrev pub decreases-pieces : goal.decreases-pieces
decreases-pieces l = stack_weight l.types l.stack.items
