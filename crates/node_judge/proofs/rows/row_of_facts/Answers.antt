-- The rows of nodes that ask no more than types and what is known.
use Rattle.std.proofs.Common.{sym, ap, subst, ◌∙◌}
use Rattle.decl_judge.specs.Units.{nodes_of}
use Rattle.node_facts.proofs.GrowthLemmas.{joins_none}
use Rattle.node_surroundings.specs.Seen.{surroundings_seen}
use Rattle.expr_judge.specs.Rows.{Tells}
use Rattle.expr_judge.proofs.TellingLemmas.{tells_only, told_as, told_only}
use Rattle.node_judge.specs.Rows.{row_over}
use Rattle.node_judge.proofs.RowLemmas.{array_told, assertion_told, list_told, parameter_told}
use Rattle.node_judge.proofs.rows.row_of_facts.Goals as goal

pub returns-in-ArrayDeclarator : goal.returns-in-ArrayDeclarator
returns-in-ArrayDeclarator c =
    let nodes = nodes_of c.args.unit.now in
    let surroundings = surroundings_seen c.args.surroundings.now in
    let table = c.args.types.now in
    let list = c.args.facts.now in
    let found = c.args.found.now in
    let handle = c.args.handle in
    let row = c.array_declarator.result in
    subst (Tells table table found found row)
    (array_told nodes surroundings table list handle ∙ ap (row_over nodes surroundings table list handle) (sym c.in-ArrayDeclarator.is))
    (tells_only table table found row _ c.array_declarator.ensures (joins_none table))

pub returns-in-FunctionDeclarator : goal.returns-in-FunctionDeclarator
returns-in-FunctionDeclarator c =
    let nodes = nodes_of c.args.unit.now in
    let surroundings = surroundings_seen c.args.surroundings.now in
    let table = c.args.types.now in
    let list = c.args.facts.now in
    let handle = c.args.handle in
    told_as table table c.function_declarator.result _ _
    (list_told nodes surroundings table list handle ∙ ap (row_over nodes surroundings table list handle) (sym c.in-FunctionDeclarator.is))
    c.args.found.now c.function_declarator.new.found (c.function_declarator.ensures table)

pub returns-in-Parameter : goal.returns-in-Parameter
returns-in-Parameter c =
    let nodes = nodes_of c.args.unit.now in
    let surroundings = surroundings_seen c.args.surroundings.now in
    let table = c.args.types.now in
    let list = c.args.facts.now in
    let handle = c.args.handle in
    told_only table c.parameter.new.types c.parameter.result _ _
    (parameter_told nodes surroundings table list handle ∙ ap (row_over nodes surroundings table list handle) (sym c.in-Parameter.is))
    c.args.found.now c.parameter.ensures.says c.parameter.ensures.keeps

pub bit_field-requires-clause-kind : goal.bit_field-requires-clause-kind
bit_field-requires-clause-kind c = c.requires.kind ∙ c.in-BitFieldWidth.is

pub returns-in-BitFieldWidth : goal.returns-in-BitFieldWidth
returns-in-BitFieldWidth c =
    let nodes = nodes_of c.args.unit.now in
    let surroundings = surroundings_seen c.args.surroundings.now in
    let table = c.args.types.now in
    let list = c.args.facts.now in
    let handle = c.args.handle in
    told_as table table c.bit_field.result _ _ (ap (row_over nodes surroundings table list handle) (sym c.in-BitFieldWidth.is)) c.args.found.now c.bit_field.new.found
    c.bit_field.ensures

pub returns-in-StaticAssertion : goal.returns-in-StaticAssertion
returns-in-StaticAssertion c =
    let nodes = nodes_of c.args.unit.now in
    let surroundings = surroundings_seen c.args.surroundings.now in
    let table = c.args.types.now in
    let list = c.args.facts.now in
    let found = c.args.found.now in
    let handle = c.args.handle in
    let row = c.static_assertion.result in
    subst (Tells table table found found row)
    (assertion_told nodes surroundings table list handle ∙ ap (row_over nodes surroundings table list handle) (sym c.in-StaticAssertion.is))
    (tells_only table table found row _ c.static_assertion.ensures (joins_none table))

pub returns-in-ReturnStatement : goal.returns-in-ReturnStatement
returns-in-ReturnStatement c =
    let nodes = nodes_of c.args.unit.now in
    let surroundings = surroundings_seen c.args.surroundings.now in
    let table = c.args.types.now in
    let list = c.args.facts.now in
    let handle = c.args.handle in
    told_as table c.return_statement.new.types c.return_statement.result _ _
    (ap (row_over nodes surroundings table list handle) (sym c.in-ReturnStatement.is)) c.args.found.now c.return_statement.new.found c.return_statement.ensures
