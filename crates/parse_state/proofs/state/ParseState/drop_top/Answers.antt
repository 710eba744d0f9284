use Rattle.std.proofs.Common.{◌≡◌, ℕ, ◌-◌, List, drop, length, map, take, sym, ap, subst, ◌∙◌, arith}
use Rattle.meaning_derivation.specs.Values as values
use Rattle.meaning_derivation.specs.State.{with_values}
use Rattle.parse_state.specs.declared.value.Value.{Value}
use Rattle.parse_state.specs.Seen.{Read, closed_seen, state_of}
use Rattle.parse_state.specs.Lying.{AreWords}
use Rattle.parse_state.specs.Soundness.{IsSound}
use Rattle.parse_state.proofs.Making.{with_stack}
use Rattle.parse_state.proofs.Seeing.{values_of-below}
use Rattle.parse_state.proofs.Sound.{sound_dropped}
use Rattle.parse_state.proofs.state.ParseState.drop_top.Goals as goal

pub invariant_of-self : goal.invariant_of-self
invariant_of-self c =
    let from : c.saturating_sub.result ≡ length c.self.inside.values.items - 1 = omega arith in
    subst (λ (items : List Value). IsSound c.self.inside.names.now c.self.inside.unit items c.self.inside.scopes (map closed_seen c.self.inside.closed.items))
    (sym (c.truncate.ensures.items ∙ ap (λ (count : ℕ). take count c.self.inside.values.items) from))
    (sound_dropped c.self.inside.names.now c.self.inside.unit c.self.inside.values.items c.self.inside.scopes (map closed_seen c.self.inside.closed.items) c.self.invariant 1
    (subst (λ (seen : Read). AreWords (state_of seen).values 1) (sym c.self.view_is) c.requires))

pub returns-clause-state : goal.returns-clause-state
returns-clause-state c =
    let read : Read =
    record {
      names = c.self.inside.names.now;
      list = c.self.inside.unit;
      stack = c.self.inside.values.items;
      scopes = c.self.inside.scopes;
      taken = c.self.inside.taken;
      next_token = c.self.inside.next_token;
      last_token = c.self.inside.last_token;
      passed = c.self.inside.passed;
      held = c.self.inside.held;
      function_end = c.self.inside.function_end;
      closed = map closed_seen c.self.inside.closed.items;
      awaited = c.self.inside.awaited;
      tokens = c.self.inside.tokens.now;
    } in
    let from : c.saturating_sub.result ≡ length c.self.inside.values.items - 1 = omega arith in
    ap (λ (items : List Value). state_of (with_stack read items)) (c.truncate.ensures.items ∙ ap (λ (count : ℕ). take count c.self.inside.values.items) from)
    ∙ ap (λ (stacked : List values.Value). record (state_of read) { values = stacked }) (values_of-below c.self.inside.names.now c.self.inside.unit c.self.inside.values.items 1)
    ∙ ap (λ (seen : Read). with_values (state_of seen) (drop 1 (state_of seen).values)) c.self.view_is
