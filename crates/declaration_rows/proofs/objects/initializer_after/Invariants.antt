-- So far all were lists of attributes.
use Rattle.std.proofs.Common.{◌≡◌, ◌+◌}
use Rattle.decl_judge.specs.Units.{nodes_of}
use Rattle.declaration_rows.specs.Objects.{initializer_from}
use Rattle.declaration_rows.proofs.objects.initializer_after.Given as goal

abbrev pub invariant-loop-next : goal.invariant-loop-next
invariant-loop-next l = initializer_from (nodes_of l.unit) l.children l.next ≡ initializer_from (nodes_of l.unit) l.children (l.fn.place + 1)
