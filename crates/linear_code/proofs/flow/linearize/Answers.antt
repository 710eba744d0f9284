-- What the flow of the cells has, the flow of the function has.
use Rattle.std.proofs.Common.{◌<◌, ◌∙◌, ◌^◌, ap, subst, sym, length, arith}
use Rattle.std.proofs.lemmas.Result.{IfOk-weaker}
use Rattle.meaning_typing.specs.Units.{node_at}
use Rattle.decl_judge.specs.Units.{nodes_of}
use Rattle.node_facts.specs.Facts.{name_seen}
use Rattle.control_flow.specs.Seen.{graph_of}
use Rattle.control_cells.specs.Flows.{HasPathsOf}
use Rattle.control_cells.specs.Seen.{cells_seen}
use Rattle.linear_code.specs.Known.{judged_unit}
use Rattle.linear_code.proofs.FlowLemmas.{names-apart, paths-of-function}
use Rattle.linear_code.proofs.SizeLemmas.{size-of-flow}
use Rattle.linear_code.proofs.flow.linearize.Goals as goal

pub kept_token-brace-requires-clause-token : goal.kept_token-brace-requires-clause-token
kept_token-brace-requires-clause-token g c =
    subst (λ handle. (node_at (nodes_of c.args.unit.now) handle).number < 2 ^ 32) (sym (c.body_of.ensures (g.J.ControlFacts.known c.args.facts.now))) c.requires.brace

pub returns-clause-paths : goal.returns-clause-paths
returns-clause-paths g c =
    let known = g.J.ControlFacts.known c.args.facts.now in
    IfOk-weaker c.flow_of.result _ _
    (λ flow have.
    paths-of-function (judged_unit c.args.unit.now known) c.args.function c.kept_token-brace.result (cells_seen name_seen c.in_ok-cells.cells.items) (graph_of flow)
    c.in_ok-cells.ensures.cells
    (c.kept_token-brace.ensures ∙ ap (λ handle. (node_at (nodes_of c.args.unit.now) handle).number) (c.body_of.ensures known))
    (subst (λ cells. HasPathsOf (cells_seen name_seen cells) c.kept_token-brace.result (graph_of flow)) c.as_slice.ensures.value (have name_seen names-apart)))
    c.flow_of.ensures.paths

pub returns-clause-small : goal.returns-clause-small
returns-clause-small g c =
    let known = g.J.ControlFacts.known c.args.facts.now in
    IfOk-weaker c.flow_of.result _ _
    (λ flow each most numbers.
    size-of-flow (judged_unit c.args.unit.now known) c.args.function most (length c.as_slice.result.now) (cells_seen name_seen c.as_slice.result.now) (graph_of flow)
    (ap (cells_seen name_seen) c.as_slice.ensures.value ∙ c.in_ok-cells.ensures.cells)
    (omega (arith, ap length c.as_slice.ensures.value, c.in_ok-cells.ensures.few))
    numbers (each name_seen names-apart most))
    c.flow_of.ensures.small
