-- The name of a tree is that of its node.
use Rattle.std.proofs.Common.{◌≡◌, ◌<◌, [], length, reverse, slice_get, Some, None, refl, sym, ap, subst, ◌∙◌, arith}
use Rattle.std.proofs.lemmas.Bool.{ltb-true}
use Rattle.meaning_derivation.specs.Values.{name_of, stands_at, value_at}
use Rattle.sparse_model.specs.declared.ids.NameId.{NameId}
use Rattle.c_tokens.specs.Seen.{text_of}
use Rattle.parse_state.specs.Asking.{handle_in, no_name}
use Rattle.parse_state.specs.Seen.{Read, state_of, spelled_trees}
use Rattle.parse_state.proofs.DeclaredNames.{name-seen, node_name_known}
use Rattle.parse_state.proofs.Parts.{handle_known, tree_seen, no_tree_seen, stands_at-seen}
use Rattle.parse_state.proofs.Seeing.{spelling_at-seen}
use Rattle.parse_state.proofs.Sound.{known_name}
use Rattle.parse_state.proofs.state.ParseState.declared_name.Goals as goal

pub name_of_node-requires-clause-below : goal.name_of_node-requires-clause-below
name_of_node-requires-clause-below c =
    let here : handle_in (slice_get (reverse c.self.inside.values.items) c.args.depth) ≡ Some c.in-Some.tree =
    sym (c.in-Some.ensures ∙ ap (λ stack. handle_in (slice_get (reverse stack) c.args.depth)) c.deref.ensures.value) in
    let below = handle_known (length c.self.inside.unit.nodes) c.self.inside.values.items c.args.depth c.in-Some.tree c.self.invariant.handles here in
    let first = c.self.invariant.first in
    omega (arith, below, first)

pub returns-in-Some-clause-known : goal.returns-in-Some-clause-known
returns-in-Some-clause-known c =
    let (node, has, is) = c.name_of_node.ensures in
    subst (λ (seen : Read). c.name_of_node.result.name.0 < length seen.names) c.self.view_is
    (subst (λ (id : NameId). id.0 < length c.self.inside.names.now) is.0
    (node_name_known c.self.inside.names.now c.self.inside.unit c.in-Some.tree node c.self.invariant.node_names has))

pub returns-in-Some-clause-name : goal.returns-in-Some-clause-name
returns-in-Some-clause-name c =
    let here : handle_in (slice_get (reverse c.self.inside.values.items) c.args.depth) ≡ Some c.in-Some.tree =
    sym (c.in-Some.ensures ∙ ap (λ stack. handle_in (slice_get (reverse stack) c.args.depth)) c.deref.ensures.value) in
    let (node, has, is) = c.name_of_node.ensures in
    sym (ap (λ (seen : Read). text_of seen.names c.name_of_node.result.name) c.self.view_is)
    ∙ ap (text_of c.self.inside.names.now) (sym is.0)
    ∙ sym (name-seen c.self.inside.names.now c.self.inside.unit c.self.invariant.first c.each_node_stands_for_one_tree.ensures.order c.in-Some.tree node has)
    ∙ sym (ap name_of (tree_seen c.self.inside.names.now (spelled_trees c.self.inside.names.now c.self.inside.unit) (reverse c.self.inside.values.items) c.args.depth c.in-Some.tree here))
    ∙ ap (λ (seen : Read). name_of (value_at (state_of seen).values c.args.depth)) c.self.view_is

pub returns-in-Some-clause-token : goal.returns-in-Some-clause-token
returns-in-Some-clause-token c =
    let here : handle_in (slice_get (reverse c.self.inside.values.items) c.args.depth) ≡ Some c.in-Some.tree =
    sym (c.in-Some.ensures ∙ ap (λ stack. handle_in (slice_get (reverse stack) c.args.depth)) c.deref.ensures.value) in
    let (node, has, is) = c.name_of_node.ensures in
    sym is.1
    ∙ sym (stands_at-seen c.self.inside.names.now c.self.inside.unit c.self.invariant.first c.each_node_stands_for_one_tree.ensures.order c.in-Some.tree node has)
    ∙ sym (ap stands_at (tree_seen c.self.inside.names.now (spelled_trees c.self.inside.names.now c.self.inside.unit) (reverse c.self.inside.values.items) c.args.depth c.in-Some.tree here))
    ∙ ap (λ (seen : Read). stands_at (value_at (state_of seen).values c.args.depth)) c.self.view_is

pub returns-in-None-clause-known : goal.returns-in-None-clause-known
returns-in-None-clause-known c =
    subst (λ (seen : Read). 0 < length seen.names) c.self.view_is
    (ltb-true 0 (length c.self.inside.names.now) (known_name c.self.inside.names.now c.apart.ensures.empty c.self.inside.values.items None c.self.invariant.words))

pub returns-in-None-clause-name : goal.returns-in-None-clause-name
returns-in-None-clause-name c =
    let none : handle_in (slice_get (reverse c.self.inside.values.items) c.args.depth) ≡ None =
    sym (c.in-None.ensures ∙ ap (λ stack. handle_in (slice_get (reverse stack) c.args.depth)) c.deref.ensures.value) in
    sym (ap (λ (seen : Read). text_of seen.names no_name) c.self.view_is)
    ∙ sym (spelling_at-seen c.self.inside.names.now (spelled_trees c.self.inside.names.now c.self.inside.unit) c.apart.ensures.empty (reverse c.self.inside.values.items) None)
    ∙ sym (no_tree_seen c.self.inside.names.now (spelled_trees c.self.inside.names.now c.self.inside.unit) name_of [] (λ token text. refl) (λ parts. refl)
    (reverse c.self.inside.values.items) c.args.depth none)
    ∙ ap (λ (seen : Read). name_of (value_at (state_of seen).values c.args.depth)) c.self.view_is

pub returns-in-None-clause-token : goal.returns-in-None-clause-token
returns-in-None-clause-token c =
    let none : handle_in (slice_get (reverse c.self.inside.values.items) c.args.depth) ≡ None =
    sym (c.in-None.ensures ∙ ap (λ stack. handle_in (slice_get (reverse stack) c.args.depth)) c.deref.ensures.value) in
    sym (no_tree_seen c.self.inside.names.now (spelled_trees c.self.inside.names.now c.self.inside.unit) stands_at 0 (λ token text. refl) (λ parts. refl)
    (reverse c.self.inside.values.items) c.args.depth none)
    ∙ ap (λ (seen : Read). stands_at (value_at (state_of seen).values c.args.depth)) c.self.view_is
