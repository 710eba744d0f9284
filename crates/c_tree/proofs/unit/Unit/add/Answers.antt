use Rattle.std.proofs.Common.{◌<◌, ◌≤◌, All, sym, ap, subst, ◌∙◌}
use Rattle.meaning_tree.specs.Nodes.{end_of}
use Rattle.c_tree.proofs.Units.{IsUnitList-adds}
use Rattle.c_tree.proofs.unit.Unit.add.Goals as goal

pub invariant_of-self : goal.invariant_of-self
invariant_of-self c =
    IsUnitList-adds c.put.result c.self.inside.first c.self.inside.nodes _ c.args.node c.self.invariant
    (λ full. c.if-handle-eq-MAX_NODES.false (c.len-handle.ensures.value ∙ ap end_of (sym c.self.view_is) ∙ full))
    (subst (λ list. All (λ child. (list.first ≤ child.0) × (child.0 < end_of list)) c.args.node.children) (sym c.self.view_is) c.requires)
    c.put.ensures.ok c.put.ensures.err
