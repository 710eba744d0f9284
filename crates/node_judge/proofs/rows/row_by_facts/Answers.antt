-- Rows over types alone: what is known stays.
use Rattle.std.proofs.Common.{sym, ap, ◌∙◌}
use Rattle.decl_judge.specs.Units.{nodes_of}
use Rattle.node_surroundings.specs.Seen.{surroundings_seen}
use Rattle.expr_judge.proofs.TellingLemmas.{told_as}
use Rattle.whole_judge.specs.Kinds.{is_of_unit}
use Rattle.whole_rows.specs.Rows.{is_for_value}
use Rattle.node_judge.specs.Known.{table_of}
use Rattle.node_judge.specs.Rows.{row_over}
use Rattle.node_judge.proofs.KindLemmas.{not_of_unit}
use Rattle.node_judge.proofs.RowLemmas.{keeps_types}
use Rattle.node_judge.proofs.rows.row_by_facts.Goals as goal

pub row_of_facts-requires-clause-ids : goal.row_of_facts-requires-clause-ids
row_of_facts-requires-clause-ids c = c.requires.known.kept.whole.ids

pub returns-then-is_of_facts-clause-keeps : goal.returns-then-is_of_facts-clause-keeps
returns-then-is_of_facts-clause-keeps c =
    let known = c.args.known.now in
    keeps_types (nodes_of c.args.unit.now) (surroundings_seen c.args.surroundings.now) c.args.handle known c.row_of_facts.new.types c.row_of_facts.result
    c.args.found.now c.row_of_facts.new.found _ c.requires.known c.row_of_facts.ensures

pub row_of_expression-requires-clause-unit : goal.row_of_expression-requires-clause-unit
row_of_expression-requires-clause-unit c =
    ap is_of_unit c.requires.kind
    ∙ not_of_unit c.args.kind c.requires.specifies c.requires.declares c.requires.ends (sym c.is_of_facts.ensures ∙ c.if-is_of_facts.false)

pub row_of_expression-requires-clause-names : goal.row_of_expression-requires-clause-names
row_of_expression-requires-clause-names c = λ is. c.requires.names (sym c.requires.kind ∙ is)

pub row_of_expression-requires-clause-ids : goal.row_of_expression-requires-clause-ids
row_of_expression-requires-clause-ids c = c.requires.known.kept.whole.ids

pub row_of_expression-requires-clause-bodies : goal.row_of_expression-requires-clause-bodies
row_of_expression-requires-clause-bodies c = c.requires.known.bodies.ids

pub row_of_expression-requires-clause-consts : goal.row_of_expression-requires-clause-consts
row_of_expression-requires-clause-consts c = c.requires.known.bodies.consts

pub returns-clause-says : goal.returns-clause-says
returns-clause-says c =
    let nodes = nodes_of c.args.unit.now in
    let surroundings = surroundings_seen c.args.surroundings.now in
    let known = c.args.known.now in
    let handle = c.args.handle in
    told_as (table_of known) c.row_of_expression.new.types c.row_of_expression.result _ _
    (ap (row_over nodes surroundings (table_of known) known.declarations.facts handle) c.requires.kind)
    c.args.found.now c.row_of_expression.new.found
    (c.row_of_expression.ensures surroundings (ap (λ at. is_for_value at.want) (sym c.get.ensures.seen) ∙ sym c.is_for_value-is_valued.ensures))

pub returns-clause-keeps : goal.returns-clause-keeps
returns-clause-keeps c =
    let nodes = nodes_of c.args.unit.now in
    let surroundings = surroundings_seen c.args.surroundings.now in
    let known = c.args.known.now in
    keeps_types nodes surroundings c.args.handle known c.row_of_expression.new.types c.row_of_expression.result
    c.args.found.now c.row_of_expression.new.found _ c.requires.known
    (c.row_of_expression.ensures surroundings (ap (λ at. is_for_value at.want) (sym c.get.ensures.seen) ∙ sym c.is_for_value-is_valued.ensures))
