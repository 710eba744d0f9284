-- The first tree of a list stands where its node does.
use Rattle.std.proofs.Common.{◌≡◌, length, reverse, slice_get, Some, None, sym, ap, ◌∙◌, arith}
use Rattle.meaning_derivation.specs.Values.{parts_of, value_at}
use Rattle.meaning_derivation.specs.Lists.{first_tree_token}
use Rattle.parse_state.specs.Joining.{children_of, first_child}
use Rattle.parse_state.specs.Seen.{Read, state_of, spelled_trees}
use Rattle.parse_state.proofs.JoinedLists.{children_at, children_of-below, first_below, first_stands, none_stands}
use Rattle.parse_state.proofs.Parts.{stands_at-seen}
use Rattle.parse_state.proofs.state.ParseState.first_tree_token.Goals as goal

pub token-requires-clause-below : goal.token-requires-clause-below
token-requires-clause-below c =
    let here : first_child (children_of (slice_get (reverse c.self.inside.values.items) c.args.depth)) ≡ Some c.in-Some.first =
    sym (c.in-Some.ensures ∙ ap (λ stack. first_child (children_of (slice_get (reverse stack) c.args.depth))) c.deref.ensures.value) in
    let below = first_below (length c.self.inside.unit.nodes) (children_of (slice_get (reverse c.self.inside.values.items) c.args.depth)) c.in-Some.first
    (children_of-below (length c.self.inside.unit.nodes) c.self.inside.values.items c.args.depth c.self.invariant.handles) here in
    let first = c.self.invariant.first in
    omega (arith, below, first)

pub returns-in-Some : goal.returns-in-Some
returns-in-Some c =
    let stack = c.self.inside.values.items in
    let trees = spelled_trees c.self.inside.names.now c.self.inside.unit in
    let here : first_child (children_of (slice_get (reverse c.self.inside.values.items) c.args.depth)) ≡ Some c.in-Some.first =
    sym (c.in-Some.ensures ∙ ap (λ stack. first_child (children_of (slice_get (reverse stack) c.args.depth))) c.deref.ensures.value) in
    let (node, has, is) = c.token.ensures in
    sym is
    ∙ sym (stands_at-seen c.self.inside.names.now c.self.inside.unit c.self.invariant.first c.each_node_stands_for_one_tree.ensures.order c.in-Some.first node has)
    ∙ sym (first_stands trees (children_of (slice_get (reverse stack) c.args.depth)) c.in-Some.first here)
    ∙ sym (ap first_tree_token (children_at trees c.self.inside.names.now (reverse stack) c.args.depth))
    ∙ ap (λ (seen : Read). first_tree_token (parts_of (value_at (state_of seen).values c.args.depth))) c.self.view_is

pub returns-in-None : goal.returns-in-None
returns-in-None c =
    let stack = c.self.inside.values.items in
    let trees = spelled_trees c.self.inside.names.now c.self.inside.unit in
    let none : first_child (children_of (slice_get (reverse c.self.inside.values.items) c.args.depth)) ≡ None =
    sym (c.in-None.ensures ∙ ap (λ stack. first_child (children_of (slice_get (reverse stack) c.args.depth))) c.deref.ensures.value) in
    sym (none_stands trees (children_of (slice_get (reverse stack) c.args.depth)) none)
    ∙ sym (ap first_tree_token (children_at trees c.self.inside.names.now (reverse stack) c.args.depth))
    ∙ ap (λ (seen : Read). first_tree_token (parts_of (value_at (state_of seen).values c.args.depth))) c.self.view_is
