-- What is answered of all nodes is what their lines go by, under the names that all tell.
use Rattle.std.proofs.Common.{List, length, sym, ap, subst, ◌∙◌}
use Rattle.std.proofs.lemmas.Result.{IfOk-weaker}
use Rattle.sparse_model.specs.declared.ids.NameId.{NameId}
use Rattle.c_types.specs.declared.bodies.Named.{Named}
use Rattle.c_types.specs.Table.{TypeTable}
use Rattle.decl_judge.specs.Units.{nodes_of}
use Rattle.expr_judge.proofs.NodeLemmas.{length-nodes}
use Rattle.node_surroundings.specs.Seen.{surroundings_seen}
use Rattle.node_judge.specs.Known.{table_of}
use Rattle.node_judge.specs.NamedTypes.{names_told}
use Rattle.unit_commands.specs.Types.{AreLines}
use Rattle.unit_commands.proofs.AnswerLemmas.{answers_known, answers_named}
use Rattle.unit_commands.proofs.types.known_lines.Goals as goal

pub node_lines-requires-clause-ids : goal.node_lines-requires-clause-ids
node_lines-requires-clause-ids c =
    let nodes = nodes_of c.args.unit.now in
    let surroundings = surroundings_seen c.args.surroundings.now in
    answers_known c.name_types.new.types nodes surroundings c.in_ok-answers.answers
    (answers_named (table_of c.answer_nodes.new.known) c.name_types.new.types (names_told nodes surroundings (length c.args.unit.now.nodes))
    c.in_ok-answers.ensures.unnamed c.in_ok-name_types.ensures nodes surroundings c.in_ok-answers.answers c.in_ok-answers.ensures.each)

pub returns : goal.returns
returns c =
    let unit = c.args.unit.now in
    let nodes = nodes_of unit in
    let surroundings = surroundings_seen c.args.surroundings.now in
    let told = ap (λ (table : TypeTable). table.names) c.in_ok-name_types.ensures ∙ ap (names_told nodes surroundings) (sym (length-nodes unit c.requires.whole)) in
    IfOk-weaker c.node_lines.result _ _
    (λ text lines.
    subst (λ (names : List (Named × NameId)). AreLines nodes surroundings
    (record { names = c.args.names.now; toks = c.args.toks.now; told = names }) (length nodes) text.items)
    told lines)
    (c.node_lines.ensures surroundings
    (answers_named (table_of c.answer_nodes.new.known) c.name_types.new.types (names_told nodes surroundings (length unit.nodes))
    c.in_ok-answers.ensures.unnamed c.in_ok-name_types.ensures nodes surroundings c.in_ok-answers.answers c.in_ok-answers.ensures.each))
