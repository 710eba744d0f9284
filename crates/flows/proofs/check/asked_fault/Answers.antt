-- A flow in which nothing is wrong has all that the walk asks for.
use Rattle.std.proofs.Common.{ap, ◌∙◌}
use Rattle.std.specs.Int.{w64}
use Rattle.std.proofs.lemmas.Int.{to_z-of_z}
use Rattle.control_flow.specs.Seen.{graph_of_blocks}
use Rattle.flows.specs.Asked.{asked_fault}
use Rattle.flows.proofs.AskedLemmas.{asked-if}
use Rattle.flows.proofs.check.asked_fault.Goals as goal

pub returns-clause-asked : goal.returns-clause-asked
returns-clause-asked c =
    let graph = graph_of_blocks c.args.blocks.now in
    asked-if graph c.args.enters c.whole_fault.result (c.whole_fault.ensures ∙ ap (asked_fault graph) (to_z-of_z w64 c.args.enters c.ranges.enters))
