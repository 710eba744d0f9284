-- The lines of the nodes so far.
use Rattle.linear_code.specs.Known.{judged_unit}
use Rattle.judged_control.specs.Judged.{known_of_nodes}
use Rattle.unit_commands.specs.FlowLines.{AreLinesBefore}
use Rattle.unit_commands.proofs.functions.all_lines.Given as goal

abbrev pub invariant-loop-handle : goal.invariant-loop-handle
invariant-loop-handle l = AreLinesBefore (judged_unit l.unit (known_of_nodes l.facts)) l.handle l.text.items
