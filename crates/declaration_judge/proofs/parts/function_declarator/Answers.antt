use Rattle.std.proofs.Common.{◌∙◌}
use Rattle.meaning_typing.specs.DeclarationRows.{empty_list_failures}
use Rattle.meaning_typing.specs.Typing.{token_at}
use Rattle.meaning_typing.specs.Units.{children_at}
use Rattle.c_tree.specs.Seen.{node_of}
use Rattle.decl_judge.specs.Units.{nodes_of}
use Rattle.expr_judge.proofs.NodeLemmas.{children-are}
use Rattle.declaration_judge.proofs.RowLemmas.{appends_one, tells_failures}
use Rattle.declaration_judge.proofs.parts.function_declarator.Goals as goal

pub returns : goal.returns
returns c =
    let unit = c.args.unit.now in
    let nodes = nodes_of unit in
    let handle = c.args.handle in
    let before = c.args.found.now in
    let after = c.append.new.found in
    let failure = c.empty_list_failure-failure.result in
    let meant = empty_list_failures (token_at nodes handle) (children_at nodes handle) in
    λ table.
    tells_failures table before after c.known.result meant c.known.ensures
    (appends_one table before after failure meant c.in_ok-append.ensures
    (c.empty_list_failure-failure.ensures.listed table
    ∙ (λ i. empty_list_failures (c.token_at.ensures i) (children-are unit c.requires.whole handle (node_of c.node.result.now) c.node.ensures i)))
    (c.empty_list_failure-failure.ensures.known table))
