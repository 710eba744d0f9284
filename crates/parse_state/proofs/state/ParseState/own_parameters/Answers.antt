-- The last part of a tree is that of its node's last child.
use Rattle.std.proofs.Common.{◌≡◌, length, reverse, slice_get, Some, None, refl, sym, ap, ◌∙◌, arith}
use Rattle.meaning_derivation.specs.Values.{value_at}
use Rattle.meaning_derivation.specs.Scoping.{own_parameters, parts_below}
use Rattle.parse_state.specs.Asking.{handle_in}
use Rattle.parse_state.specs.Seen.{Read, state_of, spelled_trees}
use Rattle.parse_state.proofs.Parts.{handle_known, tree_seen, no_tree_seen, node_parameters-seen}
use Rattle.parse_state.proofs.state.ParseState.own_parameters.Goals as goal

pub parameters_of-requires-clause-below : goal.parameters_of-requires-clause-below
parameters_of-requires-clause-below c =
    let here : handle_in (slice_get (reverse c.self.inside.values.items) c.args.depth) ≡ Some c.in-Some.declarator =
    sym (c.in-Some.ensures ∙ ap (λ stack. handle_in (slice_get (reverse stack) c.args.depth)) c.deref.ensures.value) in
    let below = handle_known (length c.self.inside.unit.nodes) c.self.inside.values.items c.args.depth c.in-Some.declarator c.self.invariant.handles here in
    let first = c.self.invariant.first in
    omega (arith, below, first)

pub returns-in-Some : goal.returns-in-Some
returns-in-Some c =
    let here : handle_in (slice_get (reverse c.self.inside.values.items) c.args.depth) ≡ Some c.in-Some.declarator =
    sym (c.in-Some.ensures ∙ ap (λ stack. handle_in (slice_get (reverse stack) c.args.depth)) c.deref.ensures.value) in
    let (node, has, is) = c.parameters_of.ensures in
    is
    ∙ sym (node_parameters-seen c.self.inside.names.now c.self.inside.unit c.self.invariant.first c.each_node_stands_for_one_tree.ensures.order c.in-Some.declarator node has)
    ∙ sym (ap (λ value. own_parameters (parts_below value))
    (tree_seen c.self.inside.names.now (spelled_trees c.self.inside.names.now c.self.inside.unit) (reverse c.self.inside.values.items) c.args.depth c.in-Some.declarator here))
    ∙ ap (λ (seen : Read). own_parameters (parts_below (value_at (state_of seen).values c.args.depth))) c.self.view_is

pub returns-in-None : goal.returns-in-None
returns-in-None c =
    let none : handle_in (slice_get (reverse c.self.inside.values.items) c.args.depth) ≡ None =
    sym (c.in-None.ensures ∙ ap (λ stack. handle_in (slice_get (reverse stack) c.args.depth)) c.deref.ensures.value) in
    sym (no_tree_seen c.self.inside.names.now (spelled_trees c.self.inside.names.now c.self.inside.unit) (λ value. own_parameters (parts_below value)) None (λ token text. refl)
    (λ parts. refl) (reverse c.self.inside.values.items) c.args.depth none)
    ∙ ap (λ (seen : Read). own_parameters (parts_below (value_at (state_of seen).values c.args.depth))) c.self.view_is
