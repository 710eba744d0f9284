-- The only specifier is the only child of the tree on top.
use Rattle.std.proofs.Common.{◌≡◌, ℕ, map, length, reverse, slice_get, Some, None, IfSome, IfNone, sym, ap, subst, ◌∙◌, arith}
use Rattle.meaning_derivation.specs.Values.{value_at}
use Rattle.meaning_derivation.specs.State.{Goes}
use Rattle.meaning_derivation.specs.Scoping.{tag_declared}
use Rattle.parse_state.specs.Asking.{handle_in}
use Rattle.parse_state.specs.OnlyTrees.{only_child}
use Rattle.parse_state.specs.Seen.{Read, closed_seen, state_of}
use Rattle.parse_state.specs.Tags.{IsLone}
use Rattle.parse_state.proofs.OwnKeywords.{no_tree, lone, not_lone}
use Rattle.parse_state.proofs.Parts.{handle_known}
use Rattle.parse_state.proofs.state.ParseState.lone_specifier.Goals as goal

pub children-requires-clause-below : goal.children-requires-clause-below
children-requires-clause-below c =
    let here : handle_in (slice_get (reverse c.self.inside.values.items) 0) ≡ Some c.in-Some.tree =
    sym (c.in-Some.ensures ∙ ap (λ stack. handle_in (slice_get (reverse stack) 0)) c.deref.ensures.value) in
    let below = handle_known (length c.self.inside.unit.nodes) c.self.inside.values.items 0 c.in-Some.tree c.self.invariant.handles here in
    let first = c.self.invariant.first in
    omega (arith, below, first)

pub returns-in-Some-clause-lone : goal.returns-in-Some-clause-lone
returns-in-Some-clause-lone c =
    let read : Read =
    record {
      names = c.self.inside.names.now;
      list = c.self.inside.unit;
      stack = c.self.inside.values.items;
      scopes = c.self.inside.scopes;
      taken = c.self.inside.taken;
      next_token = c.self.inside.next_token;
      last_token = c.self.inside.last_token;
      passed = c.self.inside.passed;
      held = c.self.inside.held;
      function_end = c.self.inside.function_end;
      closed = map closed_seen c.self.inside.closed.items;
      awaited = c.self.inside.awaited;
      tokens = c.self.inside.tokens.now;
    } in
    let here : handle_in (slice_get (reverse c.self.inside.values.items) 0) ≡ Some c.in-Some.tree =
    sym (c.in-Some.ensures ∙ ap (λ stack. handle_in (slice_get (reverse stack) 0)) c.deref.ensures.value) in
    let (node, has, are) = c.children.ensures in
    subst (λ (seen : Read). IfSome c.only_child.result (IsLone seen)) c.self.view_is
    (lone read c.self.invariant.first c.each_node_stands_for_one_tree.ensures.order c.in-Some.tree node here has c.only_child.result (c.only_child.ensures ∙ ap only_child (sym are)))

pub returns-in-Some-clause-none : goal.returns-in-Some-clause-none
returns-in-Some-clause-none c =
    let read : Read =
    record {
      names = c.self.inside.names.now;
      list = c.self.inside.unit;
      stack = c.self.inside.values.items;
      scopes = c.self.inside.scopes;
      taken = c.self.inside.taken;
      next_token = c.self.inside.next_token;
      last_token = c.self.inside.last_token;
      passed = c.self.inside.passed;
      held = c.self.inside.held;
      function_end = c.self.inside.function_end;
      closed = map closed_seen c.self.inside.closed.items;
      awaited = c.self.inside.awaited;
      tokens = c.self.inside.tokens.now;
    } in
    let here : handle_in (slice_get (reverse c.self.inside.values.items) 0) ≡ Some c.in-Some.tree =
    sym (c.in-Some.ensures ∙ ap (λ stack. handle_in (slice_get (reverse stack) 0)) c.deref.ensures.value) in
    let (node, has, are) = c.children.ensures in
    subst (λ (seen : Read). IfNone c.only_child.result (tag_declared (state_of seen) (value_at (state_of seen).values 0) ≡ Goes (state_of seen))) c.self.view_is
    (not_lone read c.self.invariant.first c.each_node_stands_for_one_tree.ensures.order c.in-Some.tree node here has c.only_child.result (c.only_child.ensures ∙ ap only_child (sym are)))

pub returns-in-None-clause-none : goal.returns-in-None-clause-none
returns-in-None-clause-none c =
    let read : Read =
    record {
      names = c.self.inside.names.now;
      list = c.self.inside.unit;
      stack = c.self.inside.values.items;
      scopes = c.self.inside.scopes;
      taken = c.self.inside.taken;
      next_token = c.self.inside.next_token;
      last_token = c.self.inside.last_token;
      passed = c.self.inside.passed;
      held = c.self.inside.held;
      function_end = c.self.inside.function_end;
      closed = map closed_seen c.self.inside.closed.items;
      awaited = c.self.inside.awaited;
      tokens = c.self.inside.tokens.now;
    } in
    let none : handle_in (slice_get (reverse c.self.inside.values.items) 0) ≡ None =
    sym (c.in-None.ensures ∙ ap (λ stack. handle_in (slice_get (reverse stack) 0)) c.deref.ensures.value) in
    subst (λ (seen : Read). tag_declared (state_of seen) (value_at (state_of seen).values 0) ≡ Goes (state_of seen)) c.self.view_is (no_tree read none)
