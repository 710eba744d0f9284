-- Scopes are left alike by ids and by spellings.
use Rattle.std.proofs.Common.{sym, ap, ◌∙◌, map}
use Rattle.meaning_scopes.specs.Scopes.{without_scope}
use Rattle.meaning_scopes.specs.laws.Scopes.{all_named}
use Rattle.meaning_derivation.specs.Scoping.{with_scopes}
use Rattle.parse_state.specs.Seen.{Read, closed_seen, state_of}
use Rattle.parse_state.specs.Soundness.{is_known}
use Rattle.parse_state.proofs.Naming.{left_is, without_scope-none, all_named-without}
use Rattle.parse_state.proofs.state.ParseState.leave_scope.Goals as goal

pub invariant_of-self : goal.invariant_of-self
invariant_of-self c = record {
  first = c.self.invariant.first;
  few = c.self.invariant.few;
  handles = c.self.invariant.handles;
  laid = c.self.invariant.laid;
  words = c.self.invariant.words;
  node_names = c.self.invariant.node_names;
  bound_names = ap (all_named (is_known c.self.inside.names.now)) c.leave.ensures ∙ all_named-without c.self.inside.names.now c.self.inside.scopes c.self.invariant.bound_names;
  closed_names = c.self.invariant.closed_names;
}

pub returns-then-is_open-clause-state : goal.returns-then-is_open-clause-state
returns-then-is_open-clause-state c =
    let read : Read =
    record {
      names = c.self.inside.names.now;
      list = c.self.inside.unit;
      stack = c.self.inside.values.items;
      scopes = c.self.inside.scopes;
      taken = c.self.inside.taken;
      next_token = c.self.inside.next_token;
      last_token = c.self.inside.last_token;
      passed = c.self.inside.passed;
      held = c.self.inside.held;
      function_end = c.self.inside.function_end;
      closed = map closed_seen c.self.inside.closed.items;
      awaited = c.self.inside.awaited;
      tokens = c.self.inside.tokens.now;
    } in
    left_is read c.leave.new.self c.leave.ensures ∙ ap (λ (seen : Read). with_scopes (state_of seen) (without_scope (state_of seen).scopes)) c.self.view_is

pub returns-else-is_open-clause-state : goal.returns-else-is_open-clause-state
returns-else-is_open-clause-state c =
    let read : Read =
    record {
      names = c.self.inside.names.now;
      list = c.self.inside.unit;
      stack = c.self.inside.values.items;
      scopes = c.self.inside.scopes;
      taken = c.self.inside.taken;
      next_token = c.self.inside.next_token;
      last_token = c.self.inside.last_token;
      passed = c.self.inside.passed;
      held = c.self.inside.held;
      function_end = c.self.inside.function_end;
      closed = map closed_seen c.self.inside.closed.items;
      awaited = c.self.inside.awaited;
      tokens = c.self.inside.tokens.now;
    } in
    left_is read c.new.result (c.new.ensures ∙ sym (without_scope-none c.self.inside.scopes (sym c.is_open.ensures ∙ c.if-is_open.false)))
    ∙ ap (λ (seen : Read). with_scopes (state_of seen) (without_scope (state_of seen).scopes)) c.self.view_is
