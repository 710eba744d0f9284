-- A flow in which nothing is wrong is one that the walk takes.
use Rattle.std.proofs.Common.{◌≡◌, List, subst}
use Rattle.meaning_paths.specs.Graphs.{IsClosed}
use Rattle.control_flow.specs.declared.flow.Block.{Block}
use Rattle.control_flow.specs.Seen.{graph_of_blocks}
use Rattle.flows.proofs.text.answer_flow.Goals as goal

pub walk-requires-clause-closed : goal.walk-requires-clause-closed
walk-requires-clause-closed c =
    let same : c.as_slice.result.now ≡ c.args.flow.now.blocks = cc in
    subst (λ (blocks : List Block). IsClosed (graph_of_blocks blocks)) same c.in_default.ensures.asked.closed
