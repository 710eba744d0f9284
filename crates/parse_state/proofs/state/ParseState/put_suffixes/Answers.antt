use Rattle.std.proofs.Common.{List, map, sym, take, ap, subst, ◌∙◌}
use Rattle.std.proofs.lemmas.Result.{on_ok_weaker}
use Rattle.meaning_derivation.specs.Values.{sorts_of, value_at}
use Rattle.meaning_derivation.specs.State.{with_value}
use Rattle.meaning_derivation.specs.Lists.{suffixed}
use Rattle.parse_state.specs.declared.value.Value.{Value}
use Rattle.parse_state.specs.Joining.{EndsInLists}
use Rattle.parse_state.specs.Seen.{Read, closed_seen, state_of, values_of}
use Rattle.parse_state.specs.Soundness.{IsSound}
use Rattle.parse_state.proofs.Making.{with_stack}
use Rattle.parse_state.proofs.JoinedLists.{sound_turned, turned_is}
use Rattle.parse_state.proofs.Sound.{from_ok}
use Rattle.parse_state.proofs.state.ParseState.put_suffixes.Goals as goal

pub invariant_of-self-else-is_err : goal.invariant_of-self-else-is_err
invariant_of-self-else-is_err c =
    let lists : EndsInLists (values_of c.self.inside.names.now c.self.inside.unit c.self.inside.values.items) =
    ap (λ (seen : Read). take 2 (sorts_of (state_of seen).values)) c.self.view_is ∙ c.requires.lists in
    subst (λ (items : List Value). IsSound c.self.inside.names.now c.self.inside.unit items c.self.inside.scopes (map closed_seen c.self.inside.closed.items))
    (sym (from_ok c.turn_before-put.result (sym c.is_err.ensures.value ∙ c.if-is_err.false) c.turn_before-put.ensures))
    (sound_turned c.self.inside.names.now c.self.inside.unit c.self.inside.values.items c.self.inside.scopes (map closed_seen c.self.inside.closed.items) c.self.invariant lists)

pub returns-else-is_err-clause-list : goal.returns-else-is_err-clause-list
returns-else-is_err-clause-list c =
    let read : Read =
    record {
      names = c.self.inside.names.now;
      list = c.self.inside.unit;
      stack = c.self.inside.values.items;
      scopes = c.self.inside.scopes;
      taken = c.self.inside.taken;
      next_token = c.self.inside.next_token;
      last_token = c.self.inside.last_token;
      passed = c.self.inside.passed;
      held = c.self.inside.held;
      function_end = c.self.inside.function_end;
      closed = map closed_seen c.self.inside.closed.items;
      awaited = c.self.inside.awaited;
      tokens = c.self.inside.tokens.now;
    } in
    on_ok_weaker c.turn_before-put.result
    (λ items_are.
    ap (λ (items : List Value). state_of (with_stack read items)) items_are
    ∙ turned_is read
    ∙ ap (λ (seen : Read). with_value (state_of seen) 2 (suffixed (value_at (state_of seen).values 0) (value_at (state_of seen).values 1))) c.self.view_is)
    c.turn_before-put.ensures
