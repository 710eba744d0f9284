-- So far all were lists of attributes.
use Rattle.std.proofs.Common.{◌≡◌, ◌+◌}
use Rattle.decl_judge.specs.Units.{nodes_of}
use Rattle.declaration_rows.specs.Completed.{first_from}
use Rattle.declaration_rows.proofs.completed.initializer_after.Given as goal

abbrev pub invariant-loop-next : goal.invariant-loop-next
invariant-loop-next l =
    first_from (nodes_of l.unit) l.otherwise l.children l.next ≡ first_from (nodes_of l.unit) l.otherwise l.children (l.fn.place + 1)
