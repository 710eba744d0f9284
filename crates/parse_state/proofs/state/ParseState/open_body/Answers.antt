-- What was kept is bound again.
use Rattle.std.proofs.Common.{◌≡◌, List, map, ◌∷◌, ap, ◌∙◌}
use Rattle.meaning_scopes.specs.Scopes.{Entry, Opened, with_entries}
use Rattle.meaning_scopes.specs.laws.Scopes.{all_named}
use Rattle.meaning_derivation.specs.Scoping.{awaited_entries, body_opened}
use Rattle.c_scope.specs.Seen.{entry_of}
use Rattle.sparse_model.specs.declared.ids.NameId.{NameId}
use Rattle.parse_state.specs.declared.marks.ClosedParameters.{ClosedParameters}
use Rattle.parse_state.specs.Seen.{Read, closed_seen, state_of}
use Rattle.parse_state.specs.Soundness.{is_known}
use Rattle.parse_state.proofs.Bodies.{known-with, known-awaited, opened_again}
use Rattle.parse_state.proofs.Sound.{sound_bound}
use Rattle.parse_state.proofs.state.ParseState.open_body.Goals as goal

pub invariant_of-self-2 : goal.invariant_of-self-2
invariant_of-self-2 c =
    let entries : List (Entry NameId) = awaited_entries (map closed_seen c.self.inside.closed.items) c.self.inside.awaited in
    let bound : map entry_of c.awaited_bindings.result.now ≡ entries =
    c.awaited_bindings.ensures ∙ ap (λ (items : List ClosedParameters). awaited_entries (map closed_seen items) c.self.inside.awaited) c.deref.ensures.value in
    let opened : c.reopen.new.self ≡ with_entries (Opened ∷ c.self.inside.scopes) entries =
    c.in_ok-reopen.ensures.ok ∙ ap (with_entries (Opened ∷ c.self.inside.scopes)) bound in
    sound_bound c.self.inside.names.now c.self.inside.unit c.self.inside.values.items c.self.inside.scopes (map closed_seen c.self.inside.closed.items) c.self.invariant c.reopen.new.self
    (map closed_seen c.self.inside.closed.items)
    (ap (all_named (is_known c.self.inside.names.now)) opened
    ∙ known-with c.self.inside.names.now (Opened ∷ c.self.inside.scopes) entries c.self.invariant.bound_names
    (known-awaited c.self.inside.names.now (map closed_seen c.self.inside.closed.items) c.self.inside.awaited c.self.invariant.closed_names))
    c.self.invariant.closed_names

pub returns-clause-state : goal.returns-clause-state
returns-clause-state c =
    let read : Read =
    record {
      names = c.self.inside.names.now;
      list = c.self.inside.unit;
      stack = c.self.inside.values.items;
      scopes = c.self.inside.scopes;
      taken = c.self.inside.taken;
      next_token = c.self.inside.next_token;
      last_token = c.self.inside.last_token;
      passed = c.self.inside.passed;
      held = c.self.inside.held;
      function_end = c.self.inside.function_end;
      closed = map closed_seen c.self.inside.closed.items;
      awaited = c.self.inside.awaited;
      tokens = c.self.inside.tokens.now;
    } in
    let entries : List (Entry NameId) = awaited_entries (map closed_seen c.self.inside.closed.items) c.self.inside.awaited in
    let bound : map entry_of c.awaited_bindings.result.now ≡ entries =
    c.awaited_bindings.ensures ∙ ap (λ (items : List ClosedParameters). awaited_entries (map closed_seen items) c.self.inside.awaited) c.deref.ensures.value in
    opened_again read c.reopen.new.self (c.in_ok-reopen.ensures.ok ∙ ap (with_entries (Opened ∷ c.self.inside.scopes)) bound)
    ∙ ap (λ (seen : Read). body_opened (state_of seen)) c.self.view_is
