-- The name of the first tree of a list is that of its node.
use Rattle.std.proofs.Common.{◌≡◌, ◌<◌, length, reverse, slice_get, Some, None, sym, ap, subst, ◌∙◌, arith}
use Rattle.meaning_derivation.specs.Values.{parts_of, value_at}
use Rattle.sparse_model.specs.declared.ids.NameId.{NameId}
use Rattle.c_tokens.specs.Seen.{text_of}
use Rattle.parse_state.specs.Declaring.{first_in, first_name, name_and_token}
use Rattle.parse_state.specs.Seen.{Read, state_of, spelled_trees}
use Rattle.parse_state.proofs.DeclaredNames.{first_known, first_name-seen, no_name-seen, node_name_known}
use Rattle.parse_state.proofs.state.ParseState.first_name.Goals as goal

pub name_of_node-requires-clause-below : goal.name_of_node-requires-clause-below
name_of_node-requires-clause-below c =
    let here : first_in (slice_get (reverse c.self.inside.values.items) c.args.depth) ≡ Some c.in-Some.first =
    sym (c.in-Some.ensures ∙ ap (λ stack. first_in (slice_get (reverse stack) c.args.depth)) c.deref.ensures.value) in
    let below = first_known (length c.self.inside.unit.nodes) c.self.inside.values.items c.args.depth c.in-Some.first c.self.invariant.handles here in
    let first = c.self.invariant.first in
    omega (arith, below, first)

pub with_name-requires : goal.with_name-requires
with_name-requires c =
    let (node, has, is) = c.name_of_node.ensures in
    subst (λ (seen : Read). c.name_of_node.result.name.0 < length seen.names) c.self.view_is
    (subst (λ (id : NameId). id.0 < length c.self.inside.names.now) is.0
    (node_name_known c.self.inside.names.now c.self.inside.unit c.in-Some.first node c.self.invariant.node_names has))

pub returns-in-Some-clause-name : goal.returns-in-Some-clause-name
returns-in-Some-clause-name c =
    let here : first_in (slice_get (reverse c.self.inside.values.items) c.args.depth) ≡ Some c.in-Some.first =
    sym (c.in-Some.ensures ∙ ap (λ stack. first_in (slice_get (reverse stack) c.args.depth)) c.deref.ensures.value) in
    let (node, has, is) = c.name_of_node.ensures in
    c.with_name.ensures.name
    ∙ sym (ap (λ (seen : Read). name_and_token (text_of seen.names c.name_of_node.result.name) c.name_of_node.result.token) c.self.view_is)
    ∙ sym (cc (is.0, is.1))
    ∙ sym (first_name-seen c.self.inside.names.now c.self.inside.unit c.self.invariant.first c.each_node_stands_for_one_tree.ensures.order
    (reverse c.self.inside.values.items) c.args.depth c.in-Some.first node has here)
    ∙ ap (λ (seen : Read). first_name (parts_of (value_at (state_of seen).values c.args.depth))) c.self.view_is

pub returns-in-None-clause-name : goal.returns-in-None-clause-name
returns-in-None-clause-name c =
    let none : first_in (slice_get (reverse c.self.inside.values.items) c.args.depth) ≡ None =
    sym (c.in-None.ensures ∙ ap (λ stack. first_in (slice_get (reverse stack) c.args.depth)) c.deref.ensures.value) in
    sym (no_name-seen c.self.inside.names.now (spelled_trees c.self.inside.names.now c.self.inside.unit) (reverse c.self.inside.values.items) c.args.depth none)
    ∙ ap (λ (seen : Read). first_name (parts_of (value_at (state_of seen).values c.args.depth))) c.self.view_is
