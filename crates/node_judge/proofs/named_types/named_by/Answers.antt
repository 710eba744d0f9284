-- What the name names, by the kind of the node.
use Rattle.std.proofs.Common.{ℕ, Some, ap, ◌∙◌}
use Rattle.std.proofs.lemmas.Result.{IfOk-weaker}
use Rattle.vocabulary.specs.declared.node_kind.NodeKind.TheVariants as kinds
use Rattle.meaning_typing.specs.Surroundings.{Surrounding}
use Rattle.meaning_typing.specs.Units.{node_at}
use Rattle.c_tree.specs.Seen.{node_of}
use Rattle.c_types.specs.declared.bodies.Named.TheVariants as told
use Rattle.decl_judge.specs.Units.{nodes_of}
use Rattle.node_surroundings.specs.Seen.{surroundings_seen}
use Rattle.node_judge.proofs.NamedTypeLemmas.{kind_names, none_named, tag_names}
use Rattle.node_judge.proofs.named_types.named_by.Goals as goal

pub returns-in-Declarator : goal.returns-in-Declarator
returns-in-Declarator c =
    let unit = c.args.unit.now in
    ap (λ (token : ℕ). Some (told.Identity (record { 0 = token })))
    (c.token_at-token.ensures ∙ ap (λ (surrounding : Surrounding). (node_at (nodes_of unit) surrounding.parent).token) c.get.ensures.seen)
    ∙ kind_names unit c.requires.whole (surroundings_seen c.args.surroundings.now) c.args.handle (node_of c.node-node.result.now) c.node-node.ensures
    kinds.Declarator c.in-Declarator.is

pub returns-in-StructSpecifier : goal.returns-in-StructSpecifier
returns-in-StructSpecifier c =
    let unit = c.args.unit.now in
    let surroundings = surroundings_seen c.args.surroundings.now in
    let node = node_of c.node-node.result.now in
    IfOk-weaker c.tagged.result _ _
    (λ what is. tag_names unit c.requires.whole surroundings c.args.handle node c.node-node.ensures what is
    ∙ kind_names unit c.requires.whole surroundings c.args.handle node c.node-node.ensures kinds.StructSpecifier c.in-StructSpecifier.is)
    c.tagged.ensures

pub returns-in-UnionSpecifier : goal.returns-in-UnionSpecifier
returns-in-UnionSpecifier c =
    let unit = c.args.unit.now in
    let surroundings = surroundings_seen c.args.surroundings.now in
    let node = node_of c.node-node.result.now in
    IfOk-weaker c.tagged-in-UnionSpecifier.result _ _
    (λ what is. tag_names unit c.requires.whole surroundings c.args.handle node c.node-node.ensures what is
    ∙ kind_names unit c.requires.whole surroundings c.args.handle node c.node-node.ensures kinds.UnionSpecifier c.in-UnionSpecifier.is)
    c.tagged-in-UnionSpecifier.ensures

pub returns-in_default : goal.returns-in_default
returns-in_default c =
    none_named c.args.unit.now c.requires.whole (surroundings_seen c.args.surroundings.now) c.args.handle (node_of c.node-node.result.now) c.node-node.ensures
    c.in_default.not-StructSpecifier c.in_default.not-UnionSpecifier c.in_default.not-Declarator
