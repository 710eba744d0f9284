-- What the specifiers of a tree come to is told of its node's children.
use Rattle.std.proofs.Common.{◌≡◌, ℕ, List, length, reverse, slice_get, Some, None, refl, sym, ap, ◌∙◌, arith}
use Rattle.std.specs.List.{list_all}
use Rattle.meaning_tree.specs.Nodes.{end_of}
use Rattle.meaning_derivation.specs.Values.{value_at}
use Rattle.meaning_derivation.specs.Scoping.{parts_below}
use Rattle.meaning_derivation.specs.Specifiers.{nothing_specified, specified_by, specified_from}
use Rattle.parse_state.specs.Asking.{handle_in}
use Rattle.parse_state.specs.Giving.{is_below}
use Rattle.parse_state.specs.Seen.{Read, state_of, spelled_trees}
use Rattle.parse_state.specs.Specifying.{child_kinds}
use Rattle.parse_state.proofs.Parts.{handle_known, tree_seen, no_tree_seen}
use Rattle.parse_state.proofs.SpecifiedKinds.{children_known, node_specified-seen}
use Rattle.parse_state.proofs.state.ParseState.specified_tree.Goals as goal

pub children-requires-clause-below : goal.children-requires-clause-below
children-requires-clause-below c =
    let here : handle_in (slice_get (reverse c.self.inside.values.items) c.args.depth) ≡ Some c.in-Some.tree =
    sym (c.in-Some.ensures ∙ ap (λ stack. handle_in (slice_get (reverse stack) c.args.depth)) c.deref.ensures.value) in
    let below = handle_known (length c.self.inside.unit.nodes) c.self.inside.values.items c.args.depth c.in-Some.tree c.self.invariant.handles here in
    let first = c.self.invariant.first in
    omega (arith, below, first)

pub specified_children-requires-clause-below : goal.specified_children-requires-clause-below
specified_children-requires-clause-below c =
    let (node, has, are) = c.children.ensures in
    let first = c.self.invariant.first in
    let end : end_of c.self.inside.unit ≡ length c.self.inside.unit.nodes = omega (arith, first) in
    ap (λ (children : List (ℕ × ℕ)). list_all (is_below (end_of c.self.inside.unit)) children) (sym are)
    ∙ ap (λ (one : ℕ). list_all (is_below one) node.children) end
    ∙ children_known c.self.inside.names.now c.self.inside.unit c.self.invariant.first c.each_node_stands_for_one_tree.ensures.order c.in-Some.tree node has

pub returns-in-Some : goal.returns-in-Some
returns-in-Some c =
    let here : handle_in (slice_get (reverse c.self.inside.values.items) c.args.depth) ≡ Some c.in-Some.tree =
    sym (c.in-Some.ensures ∙ ap (λ stack. handle_in (slice_get (reverse stack) c.args.depth)) c.deref.ensures.value) in
    let (node, has, are) = c.children.ensures in
    c.specified_children.ensures
    ∙ ap (λ (children : List (ℕ × ℕ)). specified_from nothing_specified (child_kinds c.self.inside.unit children)) (sym are)
    ∙ sym (node_specified-seen c.self.inside.names.now c.self.inside.unit c.self.invariant.first c.each_node_stands_for_one_tree.ensures.order c.in-Some.tree node has)
    ∙ sym (ap (λ value. specified_by (parts_below value))
    (tree_seen c.self.inside.names.now (spelled_trees c.self.inside.names.now c.self.inside.unit) (reverse c.self.inside.values.items) c.args.depth c.in-Some.tree here))
    ∙ ap (λ (seen : Read). specified_by (parts_below (value_at (state_of seen).values c.args.depth))) c.self.view_is

pub returns-in-None : goal.returns-in-None
returns-in-None c =
    let none : handle_in (slice_get (reverse c.self.inside.values.items) c.args.depth) ≡ None =
    sym (c.in-None.ensures ∙ ap (λ stack. handle_in (slice_get (reverse stack) c.args.depth)) c.deref.ensures.value) in
    c.nothing.ensures
    ∙ sym (no_tree_seen c.self.inside.names.now (spelled_trees c.self.inside.names.now c.self.inside.unit) (λ value. specified_by (parts_below value)) nothing_specified
    (λ token text. refl) (λ parts. refl) (reverse c.self.inside.values.items) c.args.depth none)
    ∙ ap (λ (seen : Read). specified_by (parts_below (value_at (state_of seen).values c.args.depth))) c.self.view_is
