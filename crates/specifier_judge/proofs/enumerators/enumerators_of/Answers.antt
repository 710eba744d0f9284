use Rattle.std.proofs.Common.{ℕ, List, subst}
use Rattle.meaning_tree.specs.Nodes.{TreeNode}
use Rattle.meaning_typing.specs.EnumRows.{enumerators_among}
use Rattle.c_tree.specs.Seen.{node_of}
use Rattle.decl_judge.specs.Units.{handles_of, nodes_of}
use Rattle.decl_judge.proofs.NodeLemmas.{named_at}
use Rattle.enum_rows.specs.Enumerations.{StandsFor}
use Rattle.node_facts.specs.Facts.{nodes_seen}
use Rattle.specifier_judge.proofs.enumerators.enumerators_of.Goals as goal

pub returns : goal.returns
returns c =
    let unit = c.args.unit.now in
    let nodes = nodes_of unit in
    let facts = nodes_seen c.args.types.now c.args.facts.now in
    subst (λ (one : TreeNode (List ℕ)). StandsFor c.enumerators_among.result (enumerators_among nodes facts (handles_of one.children)))
    (named_at unit c.args.handle (node_of c.node.result.now) c.requires.whole c.node.ensures) c.enumerators_among.ensures
