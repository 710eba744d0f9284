use Rattle.std.proofs.Common.{ap, ◌∙◌}
use Rattle.meaning_rules.specs.Rules.{least_broken}
use Rattle.meaning_typing.specs.DeclarationRows.{sizes_broken}
use Rattle.meaning_typing.specs.Units.{children_at}
use Rattle.c_tree.specs.Seen.{node_of}
use Rattle.decl_judge.specs.Units.{nodes_of}
use Rattle.node_facts.specs.Facts.{nodes_seen}
use Rattle.expr_judge.proofs.NodeLemmas.{children-are}
use Rattle.declaration_judge.proofs.RowLemmas.{says_broken}
use Rattle.declaration_judge.proofs.parts.array_declarator.Goals as goal

pub returns : goal.returns
returns c =
    let unit = c.args.unit.now in
    let nodes = nodes_of unit in
    let table = c.args.types.now in
    let facts = nodes_seen table c.args.facts.now in
    let handle = c.args.handle in
    says_broken table c.breaks.result c.sizes_broken.result (sizes_broken nodes facts (children_at nodes handle)) c.breaks.ensures
    (c.sizes_broken.ensures
    ∙ ap (λ children. least_broken (sizes_broken nodes facts children))
    (children-are unit c.requires.whole handle (node_of c.node.result.now) c.node.ensures))
