-- What the specifiers of a list come to is told of their nodes.
use Rattle.std.proofs.Common.{◌≡◌, ℕ, length, reverse, slice_get, Some, None, sym, ap, ◌∙◌, arith}
use Rattle.std.specs.List.{list_all}
use Rattle.meaning_tree.specs.Nodes.{end_of}
use Rattle.meaning_derivation.specs.Values.{parts_of, value_at}
use Rattle.meaning_derivation.specs.Specifiers.{specified_by}
use Rattle.parse_state.specs.Declaring.{list_in}
use Rattle.parse_state.specs.Giving.{is_below}
use Rattle.parse_state.specs.Seen.{Read, state_of, spelled_trees}
use Rattle.parse_state.proofs.SpecifiedKinds.{specified-seen}
use Rattle.parse_state.proofs.DeclaredNames.{list_known, list_seen, no_list_seen}
use Rattle.parse_state.proofs.state.ParseState.specified.Goals as goal

pub specified_children-requires-clause-below : goal.specified_children-requires-clause-below
specified_children-requires-clause-below c =
    let here : list_in (slice_get (reverse c.self.inside.values.items) c.args.depth) ≡ Some c.in-Some.parts.now =
    sym (c.in-Some.ensures ∙ ap (λ stack. list_in (slice_get (reverse stack) c.args.depth)) c.deref.ensures.value) in
    let first = c.self.invariant.first in
    let end : end_of c.self.inside.unit ≡ length c.self.inside.unit.nodes = omega (arith, first) in
    ap (λ (one : ℕ). list_all (is_below one) c.in-Some.parts.now) end
    ∙ list_known (length c.self.inside.unit.nodes) c.self.inside.values.items c.args.depth c.in-Some.parts.now c.self.invariant.handles here

pub returns-in-Some : goal.returns-in-Some
returns-in-Some c =
    let here : list_in (slice_get (reverse c.self.inside.values.items) c.args.depth) ≡ Some c.in-Some.parts.now =
    sym (c.in-Some.ensures ∙ ap (λ stack. list_in (slice_get (reverse stack) c.args.depth)) c.deref.ensures.value) in
    c.specified_children.ensures
    ∙ sym (specified-seen c.self.inside.names.now c.self.inside.unit c.self.invariant.first c.each_node_stands_for_one_tree.ensures.order c.in-Some.parts.now
    (list_known (length c.self.inside.unit.nodes) c.self.inside.values.items c.args.depth c.in-Some.parts.now c.self.invariant.handles here))
    ∙ sym (ap (λ value. specified_by (parts_of value))
    (list_seen c.self.inside.names.now (spelled_trees c.self.inside.names.now c.self.inside.unit) (reverse c.self.inside.values.items) c.args.depth c.in-Some.parts.now here))
    ∙ ap (λ (seen : Read). specified_by (parts_of (value_at (state_of seen).values c.args.depth))) c.self.view_is

pub returns-in-None : goal.returns-in-None
returns-in-None c =
    let none : list_in (slice_get (reverse c.self.inside.values.items) c.args.depth) ≡ None =
    sym (c.in-None.ensures ∙ ap (λ stack. list_in (slice_get (reverse stack) c.args.depth)) c.deref.ensures.value) in
    c.nothing.ensures
    ∙ sym (ap specified_by
    (no_list_seen c.self.inside.names.now (spelled_trees c.self.inside.names.now c.self.inside.unit) (reverse c.self.inside.values.items) c.args.depth none))
    ∙ ap (λ (seen : Read). specified_by (parts_of (value_at (state_of seen).values c.args.depth))) c.self.view_is
