use Rattle.std.proofs.Common.{◌≡◌, ℕ, ◌-◌, List, ◌∷◌, [], ◌++◌, drop, take, length, reverse, sym, ap, subst, ◌∙◌, arith, map}
use Rattle.std.proofs.lemmas.Result.{on_ok_weaker}
use Rattle.meaning_derivation.specs.Values.{ListValue, sorts_of}
use Rattle.meaning_derivation.specs.State.{with_value}
use Rattle.parse_state.specs.declared.value.Value.{Value}
use Rattle.parse_state.specs.declared.value.Value.TheVariants as kinds
use Rattle.parse_state.specs.Seen.{Read, closed_seen, state_of}
use Rattle.parse_state.specs.Sources.{covers, parts_given}
use Rattle.parse_state.specs.Giving.{children_in}
use Rattle.parse_state.specs.Soundness.{IsSound}
use Rattle.parse_state.proofs.Making.{with_stack, collected_is}
use Rattle.parse_state.proofs.Sound.{all_small, from_ok, sound_collected}
use Rattle.parse_state.proofs.state.ParseState.collect.Goals as goal

pub put_list-collected-requires-clause-small : goal.put_list-collected-requires-clause-small
put_list-collected-requires-clause-small c =
    let few = c.self.invariant.few in
    all_small (length c.self.inside.unit.nodes) (omega (arith, few)) c.self.inside.values.items c.self.invariant.handles

pub invariant_of-self-else-is_err : goal.invariant_of-self-else-is_err
invariant_of-self-else-is_err c =
    subst (λ (items : List Value). IsSound c.self.inside.names.now c.self.inside.unit items c.self.inside.scopes (map closed_seen c.self.inside.closed.items))
    (sym (from_ok c.put_list-collected.result (sym c.is_err.ensures.value ∙ c.if-is_err.false) c.put_list-collected.ensures))
    (sound_collected c.self.inside.names.now c.self.inside.unit c.self.inside.values.items c.self.inside.scopes (map closed_seen c.self.inside.closed.items) c.self.invariant c.saturating_sub-from.result c.args.sources.now)

pub returns-else-is_err-clause-list : goal.returns-else-is_err-clause-list
returns-else-is_err-clause-list c =
    let read : Read =
    record {
      names = c.self.inside.names.now;
      list = c.self.inside.unit;
      stack = c.self.inside.values.items;
      scopes = c.self.inside.scopes;
      taken = c.self.inside.taken;
      next_token = c.self.inside.next_token;
      last_token = c.self.inside.last_token;
      passed = c.self.inside.passed;
      held = c.self.inside.held;
      function_end = c.self.inside.function_end;
      closed = map closed_seen c.self.inside.closed.items;
      awaited = c.self.inside.awaited;
      tokens = c.self.inside.tokens.now;
    } in
    let from : c.saturating_sub-from.result ≡ length c.self.inside.values.items - c.args.takes = omega arith in
    on_ok_weaker c.put_list-collected.result
    (λ items_are.
    ap (λ (items : List Value). state_of (with_stack read items)) items_are
    ∙ ap (λ (start : ℕ). state_of (with_stack read (take start read.stack ++ kinds.List (children_in (drop start read.stack) c.args.sources.now) ∷ []))) from
    ∙ collected_is read c.args.takes c.args.sources.now
    (ap (λ (seen : Read). covers (reverse (take c.args.takes (sorts_of (state_of seen).values))) c.args.sources.now) c.self.view_is ∙ c.requires.covers)
    ∙ ap (λ (seen : Read). with_value (state_of seen) c.args.takes (ListValue (parts_given (state_of seen).values c.args.sources.now))) c.self.view_is)
    c.put_list-collected.ensures
