-- The class that a tree has the number of is the one of its node's number.
use Rattle.std.proofs.Common.{◌≡◌, length, reverse, slice_get, Some, None, refl, sym, ap, ◌∙◌, arith}
use Rattle.meaning_derivation.specs.Values.{value_at}
use Rattle.meaning_derivation.specs.Storage.{OtherClass, storage_of_number, noted_class}
use Rattle.c_tree.specs.Seen.{node_of}
use Rattle.parse_state.specs.Asking.{handle_in}
use Rattle.parse_state.specs.Seen.{Read, state_of, spelled_trees}
use Rattle.parse_state.proofs.Parts.{handle_known, tree_seen, no_tree_seen}
use Rattle.parse_state.proofs.DeclaredNames.{number-seen}
use Rattle.parse_state.proofs.state.ParseState.noted_class.Goals as goal

pub node-requires-clause-below : goal.node-requires-clause-below
node-requires-clause-below c =
    let here : handle_in (slice_get (reverse c.self.inside.values.items) c.args.depth) ≡ Some c.in-Some.tree =
    sym (c.in-Some.ensures ∙ ap (λ stack. handle_in (slice_get (reverse stack) c.args.depth)) c.deref.ensures.value) in
    let below = handle_known (length c.self.inside.unit.nodes) c.self.inside.values.items c.args.depth c.in-Some.tree c.self.invariant.handles here in
    let first = c.self.invariant.first in
    omega (arith, below, first)

pub returns-in-Some : goal.returns-in-Some
returns-in-Some c =
    let here : handle_in (slice_get (reverse c.self.inside.values.items) c.args.depth) ≡ Some c.in-Some.tree =
    sym (c.in-Some.ensures ∙ ap (λ stack. handle_in (slice_get (reverse stack) c.args.depth)) c.deref.ensures.value) in
    c.of_number.ensures
    ∙ ap storage_of_number
    (sym (number-seen c.self.inside.names.now c.self.inside.unit c.self.invariant.first c.each_node_stands_for_one_tree.ensures.order c.in-Some.tree (node_of c.node.result.now) c.node.ensures))
    ∙ sym (ap noted_class (tree_seen c.self.inside.names.now (spelled_trees c.self.inside.names.now c.self.inside.unit) (reverse c.self.inside.values.items) c.args.depth c.in-Some.tree here))
    ∙ ap (λ (seen : Read). noted_class (value_at (state_of seen).values c.args.depth)) c.self.view_is

pub returns-in-None : goal.returns-in-None
returns-in-None c =
    let none : handle_in (slice_get (reverse c.self.inside.values.items) c.args.depth) ≡ None =
    sym (c.in-None.ensures ∙ ap (λ stack. handle_in (slice_get (reverse stack) c.args.depth)) c.deref.ensures.value) in
    sym (no_tree_seen c.self.inside.names.now (spelled_trees c.self.inside.names.now c.self.inside.unit) noted_class OtherClass (λ token text. refl) (λ parts. refl)
    (reverse c.self.inside.values.items) c.args.depth none)
    ∙ ap (λ (seen : Read). noted_class (value_at (state_of seen).values c.args.depth)) c.self.view_is
