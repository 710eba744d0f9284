-- The tree of the list stands in its place.
use Rattle.std.proofs.Common.{◌≡◌, List, map, reverse, slice_get, Some, None, is_some, sym, ap, subst, ◌∙◌}
use Rattle.meaning_derivation.specs.Values.{parts_of, value_at}
use Rattle.parse_state.specs.declared.value.Value.{Value}
use Rattle.parse_state.specs.Looking.{only_tree, with_only}
use Rattle.parse_state.specs.OnlyTrees.{only_in}
use Rattle.parse_state.specs.Seen.{Read, closed_seen, state_of}
use Rattle.parse_state.specs.Lying.{AreWords}
use Rattle.parse_state.specs.Soundness.{IsSound}
use Rattle.parse_state.proofs.Making.{with_stack}
use Rattle.parse_state.proofs.OnlyTrees.{unwrapped_is, nothing_unwrapped, unwraps}
use Rattle.parse_state.proofs.Sound.{from_ok, sound_unwrapped}
use Rattle.parse_state.proofs.state.ParseState.keep_only_tree.Goals as goal

pub invariant_of-self-else-is_err : goal.invariant_of-self-else-is_err
invariant_of-self-else-is_err c =
    let here : only_in (slice_get (reverse c.self.inside.values.items) c.args.depth) ≡ Some c.in-Some.tree =
    sym (c.in-Some.ensures ∙ ap (λ stack. only_in (slice_get (reverse stack) c.args.depth)) c.deref.ensures.value) in
    let items_are = from_ok c.put_tree-put.result (sym c.is_err.ensures.value ∙ c.if-is_err.false) c.put_tree-put.ensures in
    let closed = map closed_seen c.self.inside.closed.items in
    subst (λ (stack : List Value). IsSound c.self.inside.names.now c.self.inside.unit stack c.self.inside.scopes closed) (sym items_are)
    (sound_unwrapped c.self.inside.names.now c.self.inside.unit c.self.inside.values.items c.self.inside.scopes closed c.self.invariant c.args.depth c.in-Some.tree
    (subst (λ (seen : Read). AreWords (state_of seen).values c.args.depth) (sym c.self.view_is) c.requires) here)

pub returns-in-None-clause-found : goal.returns-in-None-clause-found
returns-in-None-clause-found c =
    let read : Read =
    record {
      names = c.self.inside.names.now;
      list = c.self.inside.unit;
      stack = c.self.inside.values.items;
      scopes = c.self.inside.scopes;
      taken = c.self.inside.taken;
      next_token = c.self.inside.next_token;
      last_token = c.self.inside.last_token;
      passed = c.self.inside.passed;
      held = c.self.inside.held;
      function_end = c.self.inside.function_end;
      closed = map closed_seen c.self.inside.closed.items;
      awaited = c.self.inside.awaited;
      tokens = c.self.inside.tokens.now;
    } in
    let none : only_in (slice_get (reverse c.self.inside.values.items) c.args.depth) ≡ None =
    sym (c.in-None.ensures ∙ ap (λ stack. only_in (slice_get (reverse stack) c.args.depth)) c.deref.ensures.value) in
    sym (unwraps read c.args.depth None none)
    ∙ ap (λ (seen : Read). is_some (only_tree (parts_of (value_at (state_of seen).values c.args.depth)))) c.self.view_is

pub returns-in-None-clause-state : goal.returns-in-None-clause-state
returns-in-None-clause-state c =
    let read : Read =
    record {
      names = c.self.inside.names.now;
      list = c.self.inside.unit;
      stack = c.self.inside.values.items;
      scopes = c.self.inside.scopes;
      taken = c.self.inside.taken;
      next_token = c.self.inside.next_token;
      last_token = c.self.inside.last_token;
      passed = c.self.inside.passed;
      held = c.self.inside.held;
      function_end = c.self.inside.function_end;
      closed = map closed_seen c.self.inside.closed.items;
      awaited = c.self.inside.awaited;
      tokens = c.self.inside.tokens.now;
    } in
    let none : only_in (slice_get (reverse c.self.inside.values.items) c.args.depth) ≡ None =
    sym (c.in-None.ensures ∙ ap (λ stack. only_in (slice_get (reverse stack) c.args.depth)) c.deref.ensures.value) in
    subst (λ (seen : Read). state_of seen ≡ with_only (state_of seen) c.args.depth (only_tree (parts_of (value_at (state_of seen).values c.args.depth)))) c.self.view_is
    (nothing_unwrapped read c.args.depth none)

pub returns-else-is_err-clause-found : goal.returns-else-is_err-clause-found
returns-else-is_err-clause-found c =
    let read : Read =
    record {
      names = c.self.inside.names.now;
      list = c.self.inside.unit;
      stack = c.self.inside.values.items;
      scopes = c.self.inside.scopes;
      taken = c.self.inside.taken;
      next_token = c.self.inside.next_token;
      last_token = c.self.inside.last_token;
      passed = c.self.inside.passed;
      held = c.self.inside.held;
      function_end = c.self.inside.function_end;
      closed = map closed_seen c.self.inside.closed.items;
      awaited = c.self.inside.awaited;
      tokens = c.self.inside.tokens.now;
    } in
    let here : only_in (slice_get (reverse c.self.inside.values.items) c.args.depth) ≡ Some c.in-Some.tree =
    sym (c.in-Some.ensures ∙ ap (λ stack. only_in (slice_get (reverse stack) c.args.depth)) c.deref.ensures.value) in
    sym (unwraps read c.args.depth (Some c.in-Some.tree) here)
    ∙ ap (λ (seen : Read). is_some (only_tree (parts_of (value_at (state_of seen).values c.args.depth)))) c.self.view_is

pub returns-else-is_err-clause-state : goal.returns-else-is_err-clause-state
returns-else-is_err-clause-state c =
    let read : Read =
    record {
      names = c.self.inside.names.now;
      list = c.self.inside.unit;
      stack = c.self.inside.values.items;
      scopes = c.self.inside.scopes;
      taken = c.self.inside.taken;
      next_token = c.self.inside.next_token;
      last_token = c.self.inside.last_token;
      passed = c.self.inside.passed;
      held = c.self.inside.held;
      function_end = c.self.inside.function_end;
      closed = map closed_seen c.self.inside.closed.items;
      awaited = c.self.inside.awaited;
      tokens = c.self.inside.tokens.now;
    } in
    let here : only_in (slice_get (reverse c.self.inside.values.items) c.args.depth) ≡ Some c.in-Some.tree =
    sym (c.in-Some.ensures ∙ ap (λ stack. only_in (slice_get (reverse stack) c.args.depth)) c.deref.ensures.value) in
    let items_are = from_ok c.put_tree-put.result (sym c.is_err.ensures.value ∙ c.if-is_err.false) c.put_tree-put.ensures in
    ap (λ (stack : List Value). state_of (with_stack read stack)) items_are
    ∙ unwrapped_is read c.args.depth c.in-Some.tree here
    ∙ ap (λ (seen : Read). with_only (state_of seen) c.args.depth (only_tree (parts_of (value_at (state_of seen).values c.args.depth)))) c.self.view_is
