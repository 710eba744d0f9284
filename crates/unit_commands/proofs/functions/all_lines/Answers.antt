-- The line of one node more.
use Rattle.std.proofs.Common.{◌+◌, arith}
use Rattle.linear_code.specs.Known.{judged_unit}
use Rattle.judged_control.specs.Judged.{known_of_nodes}
use Rattle.unit_commands.proofs.FlowLemmas.{lines_more}
use Rattle.unit_commands.proofs.functions.all_lines.Goals as goal

pub loop-handle-preserved : goal.loop-handle-preserved
loop-handle-preserved c =
    lines_more (judged_unit c.args.unit.now (known_of_nodes c.args.facts.now)) c.loop-handle.handle (c.loop-handle.handle + 1)
    c.loop-handle.text.items c.write_node.new.text.items (omega arith) c.loop-handle.invariant c.in_ok-write_node.ensures
