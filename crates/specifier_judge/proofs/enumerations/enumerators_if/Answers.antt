use Rattle.std.proofs.Common.{ℕ, List, sym, ap, ◌∙◌}
use Rattle.meaning_tree.specs.Nodes.{TreeNode}
use Rattle.meaning_typing.specs.EnumRows.{enumerators_among}
use Rattle.c_tree.specs.Seen.{node_of}
use Rattle.decl_judge.specs.Units.{handles_of, nodes_of}
use Rattle.decl_judge.proofs.NodeLemmas.{named_at}
use Rattle.node_facts.specs.Facts.{nodes_seen}
use Rattle.specifier_judge.proofs.PartLemmas.{among-none}
use Rattle.specifier_judge.proofs.enumerations.enumerators_if.Goals as goal

pub returns-else-has_enumerator-clause-none : goal.returns-else-has_enumerator-clause-none
returns-else-has_enumerator-clause-none c =
    let unit = c.args.unit.now in
    let nodes = nodes_of unit in
    let facts = nodes_seen c.args.types.now c.args.facts.now in
    sym (ap (λ (one : TreeNode (List ℕ)). enumerators_among nodes facts (handles_of one.children))
    (named_at unit c.args.handle (node_of c.node.result.now) c.requires.whole c.node.ensures))
    ∙ among-none nodes facts (handles_of c.node.result.now.children) (sym c.has_enumerator.ensures ∙ c.if-has_enumerator.false)
