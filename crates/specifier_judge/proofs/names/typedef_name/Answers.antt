use Rattle.std.proofs.Common.{ℕ, List, sym, ap, subst, ◌∙◌}
use Rattle.meaning_tree.specs.Nodes.{TreeNode}
use Rattle.meaning_typing.specs.Declarators.{named_if, type_declared}
use Rattle.meaning_typing.specs.Facts.{fact_at}
use Rattle.meaning_typing.specs.Units.{node_at}
use Rattle.c_tree.specs.Seen.{node_of}
use Rattle.decl_judge.specs.Units.{nodes_of}
use Rattle.decl_judge.proofs.AskedLemmas.{known_at, seen_at}
use Rattle.decl_judge.proofs.NodeLemmas.{named_at}
use Rattle.node_facts.specs.Facts.{IsKnownNodeFact, node_seen, nodes_seen}
use Rattle.specifier_judge.proofs.RowLemmas.{says_known}
use Rattle.specifier_judge.proofs.names.typedef_name.Goals as goal

pub returns : goal.returns
returns c = λ table ids.
    let unit = c.args.unit.now in
    let kept = c.args.facts.now in
    let facts = nodes_seen table kept in
    let number = c.node.result.now.number in
    says_known table c.known.result c.declared_type.result (named_if (type_declared (fact_at facts (node_at (nodes_of unit) c.args.handle).number))) c.known.ensures
    (c.declared_type.ensures.seen table
    ∙ ap (λ fact. named_if (type_declared (node_seen table fact))) c.fact_numbered-named.ensures
    ∙ ap (λ fact. named_if (type_declared fact)) (seen_at table kept number)
    ∙ ap (λ (one : TreeNode (List ℕ)). named_if (type_declared (fact_at facts one.number)))
    (named_at unit c.args.handle (node_of c.node.result.now) c.requires.whole c.node.ensures))
    (c.declared_type.ensures.known table
    (subst (IsKnownNodeFact table) (sym c.fact_numbered-named.ensures) (known_at table kept number ids)))
