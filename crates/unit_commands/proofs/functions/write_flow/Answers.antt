-- The line of its flow, with the counts of its declarator.
use Rattle.control_flow.specs.Seen.{graph_of}
use Rattle.linear_code.specs.Known.{judged_unit}
use Rattle.judged_control.specs.Judged.{known_of_nodes}
use Rattle.unit_commands.proofs.FlowLemmas.{function_appended}
use Rattle.unit_commands.proofs.functions.write_flow.Goals as goal

pub returns : goal.returns
returns c =
    function_appended (judged_unit c.args.unit.now (known_of_nodes c.args.facts.now)) c.args.function c.child_at-declarator.result
    c.note_at-note.result (graph_of c.in_ok-flow.flow) c.args.text.now.items c.push_line.new.text.items c.push.new.self.items
    c.in_ok-flow.ensures.paths c.child_at-declarator.ensures c.note_at-note.ensures c.in_ok-push_line.ensures c.in_ok-push.ensures.items
