use Rattle.std.proofs.Common.{ℕ, ◌<◌, ◌≤◌, List, All, sym, subst, arith}
use Rattle.meaning_tree.specs.Nodes.{end_of}
use Rattle.parse_state.proofs.Sound.{all_small, children_stand}
use Rattle.parse_state.proofs.nodes.add_node.Goals as goal

pub take_children-requires-clause-small : goal.take_children-requires-clause-small
take_children-requires-clause-small c =
    let room = c.requires.room in
    all_small (end_of c.args.unit.now) (omega (arith, room)) c.args.values.now.items c.requires.known

pub add-requires : goal.add-requires
add-requires c =
    subst (λ (children : List (ℕ × ℕ)). All (λ (child : ℕ × ℕ). (c.args.unit.now.first ≤ child.0) × (child.0 < end_of c.args.unit.now)) children)
    (sym c.in_ok-children.ensures.children)
    (children_stand c.args.unit.now.first (end_of c.args.unit.now) c.requires.first c.args.values.now.items c.saturating_sub-from.result c.args.shape.now.sources.now c.requires.known)
