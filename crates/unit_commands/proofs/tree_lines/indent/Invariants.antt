use Rattle.std.proofs.Common.{◌≡◌, ◌++◌}
use Rattle.unit_commands.specs.TreeLines.{indentation}
use Rattle.unit_commands.proofs.tree_lines.indent.Given as goal

abbrev pub invariant-loop-level : goal.invariant-loop-level
invariant-loop-level l = l.text.items ≡ l.initial.text.items ++ indentation l._level
