-- It has one, by its test.
use Rattle.judged_control.specs.Judged.{known_of_nodes}
use Rattle.unit_commands.proofs.functions.write_function.Goals as goal

pub write_flow-requires-clause-body : goal.write_flow-requires-clause-body
write_flow-requires-clause-body c = (c.has_body.ensures (known_of_nodes c.args.facts.now)).0 c.if-has_body.true
