-- The node of the tree on top is the last one.
use Rattle.std.proofs.Common.{◌≡◌, map, reverse, slice_get, Some, None, sym, ap, subst, ◌∙◌}
use Rattle.meaning_tree.specs.Nodes.{NodeList}
use Rattle.meaning_derivation.specs.Values.{value_at}
use Rattle.meaning_derivation.specs.Scoping.{top_numbered}
use Rattle.sparse_model.specs.declared.ids.NameId.{NameId}
use Rattle.parse_state.specs.Declaring.{top_in}
use Rattle.parse_state.specs.Seen.{Read, closed_seen, state_of}
use Rattle.parse_state.specs.Soundness.{IsSound}
use Rattle.parse_state.proofs.HiddenNames.{nothing_numbered, numbered_top, top_below}
use Rattle.parse_state.proofs.Numbered.{sound_numbered}
use Rattle.parse_state.proofs.state.ParseState.number_top.Goals as goal

pub set_number-requires-clause-below : goal.set_number-requires-clause-below
set_number-requires-clause-below c =
    let read : Read =
    record {
      names = c.self.inside.names.now;
      list = c.self.inside.unit;
      stack = c.self.inside.values.items;
      scopes = c.self.inside.scopes;
      taken = c.self.inside.taken;
      next_token = c.self.inside.next_token;
      last_token = c.self.inside.last_token;
      passed = c.self.inside.passed;
      held = c.self.inside.held;
      function_end = c.self.inside.function_end;
      closed = map closed_seen c.self.inside.closed.items;
      awaited = c.self.inside.awaited;
      tokens = c.self.inside.tokens.now;
    } in
    let top : top_in (slice_get (reverse c.self.inside.values.items) 0) ≡ Some c.in-Some.tree =
    sym (ap (λ stack. top_in (slice_get (reverse stack) 0)) c.deref.ensures.value) ∙ sym c.top_tree.ensures ∙ c.in-Some.is in
    top_below read (map closed_seen c.self.inside.closed.items) c.self.invariant c.in-Some.tree top

pub invariant_of-self : goal.invariant_of-self
invariant_of-self c =
    let names = c.self.inside.names.now in
    let closed = map closed_seen c.self.inside.closed.items in
    subst (λ (list : NodeList NameId). IsSound names list c.self.inside.values.items c.self.inside.scopes closed) (sym c.set_number.ensures)
    (sound_numbered names c.self.inside.unit c.self.inside.values.items c.self.inside.scopes closed c.in-Some.tree c.args.number c.self.invariant)

pub returns-in-Some-clause-state : goal.returns-in-Some-clause-state
returns-in-Some-clause-state c =
    let read : Read =
    record {
      names = c.self.inside.names.now;
      list = c.self.inside.unit;
      stack = c.self.inside.values.items;
      scopes = c.self.inside.scopes;
      taken = c.self.inside.taken;
      next_token = c.self.inside.next_token;
      last_token = c.self.inside.last_token;
      passed = c.self.inside.passed;
      held = c.self.inside.held;
      function_end = c.self.inside.function_end;
      closed = map closed_seen c.self.inside.closed.items;
      awaited = c.self.inside.awaited;
      tokens = c.self.inside.tokens.now;
    } in
    let top : top_in (slice_get (reverse c.self.inside.values.items) 0) ≡ Some c.in-Some.tree =
    sym (ap (λ stack. top_in (slice_get (reverse stack) 0)) c.deref.ensures.value) ∙ sym c.top_tree.ensures ∙ c.in-Some.is in
    ap (λ (list : NodeList NameId). state_of (record read { list = list })) c.set_number.ensures
    ∙ numbered_top read (map closed_seen c.self.inside.closed.items) c.self.invariant c.in-Some.tree top c.args.number
    ∙ ap (λ (seen : Read). top_numbered (state_of seen) c.args.number (value_at (state_of seen).values 0)) c.self.view_is

pub returns-in-None-clause-state : goal.returns-in-None-clause-state
returns-in-None-clause-state c =
    let read : Read =
    record {
      names = c.self.inside.names.now;
      list = c.self.inside.unit;
      stack = c.self.inside.values.items;
      scopes = c.self.inside.scopes;
      taken = c.self.inside.taken;
      next_token = c.self.inside.next_token;
      last_token = c.self.inside.last_token;
      passed = c.self.inside.passed;
      held = c.self.inside.held;
      function_end = c.self.inside.function_end;
      closed = map closed_seen c.self.inside.closed.items;
      awaited = c.self.inside.awaited;
      tokens = c.self.inside.tokens.now;
    } in
    let top : top_in (slice_get (reverse c.self.inside.values.items) 0) ≡ None =
    sym (ap (λ stack. top_in (slice_get (reverse stack) 0)) c.deref.ensures.value) ∙ sym c.top_tree.ensures ∙ c.in-None.is in
    sym (ap state_of c.self.view_is)
    ∙ nothing_numbered read c.args.number top
    ∙ ap (λ (seen : Read). top_numbered (state_of seen) c.args.number (value_at (state_of seen).values 0)) c.self.view_is
