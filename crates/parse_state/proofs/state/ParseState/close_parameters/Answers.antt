-- A scope is left, and what it bound is kept if no other is open.
use Rattle.std.proofs.Common.{◌≡◌, false, List, reverse, map, refl, sym, ap, ◌∙◌}
use Rattle.std.specs.List.{list_all}
use Rattle.meaning_scopes.specs.Scopes.{innermost, is_open}
use Rattle.meaning_scopes.specs.laws.Scopes.{all_named}
use Rattle.meaning_derivation.specs.State.{ClosedList}
use Rattle.meaning_derivation.specs.Scoping.{parameters_closed}
use Rattle.sparse_model.specs.declared.ids.NameId.{NameId}
use Rattle.parse_state.specs.declared.marks.ClosedParameters.{ClosedParameters}
use Rattle.parse_state.specs.Seen.{Read, closed_seen, state_of}
use Rattle.parse_state.specs.Soundness.{is_known, has_known_entries}
use Rattle.parse_state.proofs.Naming.{without_scope-none, all_named-without}
use Rattle.parse_state.proofs.Bodies.{no_scope, more_scopes, last_scope, known-closed, closed_more, closed_within, closed_alone}
use Rattle.parse_state.proofs.Sound.{sound_bound}
use Rattle.parse_state.proofs.state.ParseState.close_parameters.Goals as goal

pub returns-then-not-is_open-clause-state : goal.returns-then-not-is_open-clause-state
returns-then-not-is_open-clause-state c =
    let read : Read =
    record {
      names = c.self.inside.names.now;
      list = c.self.inside.unit;
      stack = c.self.inside.values.items;
      scopes = c.self.inside.scopes;
      taken = c.self.inside.taken;
      next_token = c.self.inside.next_token;
      last_token = c.self.inside.last_token;
      passed = c.self.inside.passed;
      held = c.self.inside.held;
      function_end = c.self.inside.function_end;
      closed = map closed_seen c.self.inside.closed.items;
      awaited = c.self.inside.awaited;
      tokens = c.self.inside.tokens.now;
    } in
    let none : is_open c.self.inside.scopes ≡ false = sym c.is_open.ensures ∙ c.if-not-is_open.true in
    closed_within read c.args.token c.new.result (no_scope c.self.inside.scopes none) (c.new.ensures ∙ sym (without_scope-none c.self.inside.scopes none))
    ∙ ap (λ (seen : Read). parameters_closed (state_of seen) c.args.token) c.self.view_is

pub invariant_of-self-then-is_open : goal.invariant_of-self-then-is_open
invariant_of-self-then-is_open c =
    sound_bound c.self.inside.names.now c.self.inside.unit c.self.inside.values.items c.self.inside.scopes (map closed_seen c.self.inside.closed.items) c.self.invariant c.keep.new.self (map closed_seen c.self.inside.closed.items)
    (ap (all_named (is_known c.self.inside.names.now)) c.in_ok-bindings.ensures.ok ∙ all_named-without c.self.inside.names.now c.self.inside.scopes c.self.invariant.bound_names)
    c.self.invariant.closed_names

pub returns-then-is_open-clause-state : goal.returns-then-is_open-clause-state
returns-then-is_open-clause-state c =
    let read : Read =
    record {
      names = c.self.inside.names.now;
      list = c.self.inside.unit;
      stack = c.self.inside.values.items;
      scopes = c.self.inside.scopes;
      taken = c.self.inside.taken;
      next_token = c.self.inside.next_token;
      last_token = c.self.inside.last_token;
      passed = c.self.inside.passed;
      held = c.self.inside.held;
      function_end = c.self.inside.function_end;
      closed = map closed_seen c.self.inside.closed.items;
      awaited = c.self.inside.awaited;
      tokens = c.self.inside.tokens.now;
    } in
    closed_within read c.args.token c.keep.new.self
    (more_scopes c.self.inside.scopes (ap is_open (sym c.in_ok-bindings.ensures.ok) ∙ sym c.is_open-2.ensures ∙ c.if-is_open.true)) c.in_ok-bindings.ensures.ok
    ∙ ap (λ (seen : Read). parameters_closed (state_of seen) c.args.token) c.self.view_is

pub invariant_of-self-in_err-push : goal.invariant_of-self-in_err-push
invariant_of-self-in_err-push c =
    sound_bound c.self.inside.names.now c.self.inside.unit c.self.inside.values.items c.self.inside.scopes (map closed_seen c.self.inside.closed.items) c.self.invariant c.keep.new.self (map closed_seen c.push.new.self.items)
    (ap (all_named (is_known c.self.inside.names.now)) c.in_ok-bindings.ensures.ok ∙ all_named-without c.self.inside.names.now c.self.inside.scopes c.self.invariant.bound_names)
    (ap (λ (items : List ClosedParameters). list_all (λ (one : ClosedList NameId). has_known_entries c.self.inside.names.now one.entries) (map closed_seen items)) c.in_err-push.ensures.items
    ∙ c.self.invariant.closed_names)

pub invariant_of-self-2 : goal.invariant_of-self-2
invariant_of-self-2 c =
    sound_bound c.self.inside.names.now c.self.inside.unit c.self.inside.values.items c.self.inside.scopes (map closed_seen c.self.inside.closed.items) c.self.invariant c.keep.new.self (map closed_seen c.push.new.self.items)
    (ap (all_named (is_known c.self.inside.names.now)) c.in_ok-bindings.ensures.ok ∙ all_named-without c.self.inside.names.now c.self.inside.scopes c.self.invariant.bound_names)
    (ap (list_all (λ (one : ClosedList NameId). has_known_entries c.self.inside.names.now one.entries))
    (closed_more c.self.inside.closed.items c.push.new.self.items _ (reverse (innermost c.self.inside.scopes)) c.in_ok-push.ensures.items c.in_ok-bindings.ensures.kept)
    ∙ known-closed c.self.inside.names.now (map closed_seen c.self.inside.closed.items) c.self.inside.scopes c.args.token c.self.invariant.closed_names c.self.invariant.bound_names)

pub returns-clause-state : goal.returns-clause-state
returns-clause-state c =
    let read : Read =
    record {
      names = c.self.inside.names.now;
      list = c.self.inside.unit;
      stack = c.self.inside.values.items;
      scopes = c.self.inside.scopes;
      taken = c.self.inside.taken;
      next_token = c.self.inside.next_token;
      last_token = c.self.inside.last_token;
      passed = c.self.inside.passed;
      held = c.self.inside.held;
      function_end = c.self.inside.function_end;
      closed = map closed_seen c.self.inside.closed.items;
      awaited = c.self.inside.awaited;
      tokens = c.self.inside.tokens.now;
    } in
    ap (λ (closed : List (ClosedList NameId)). state_of (record read { scopes = c.keep.new.self; closed = closed }))
    (closed_more c.self.inside.closed.items c.push.new.self.items _ (reverse (innermost c.self.inside.scopes)) c.in_ok-push.ensures.items c.in_ok-bindings.ensures.kept)
    ∙ closed_alone read c.args.token c.keep.new.self (reverse (innermost c.self.inside.scopes))
    (last_scope c.self.inside.scopes (sym c.is_open.ensures ∙ c.if-not-is_open.false)
    (ap is_open (sym c.in_ok-bindings.ensures.ok) ∙ sym c.is_open-2.ensures ∙ c.if-is_open.false)) c.in_ok-bindings.ensures.ok refl
    ∙ ap (λ (seen : Read). parameters_closed (state_of seen) c.args.token) c.self.view_is
