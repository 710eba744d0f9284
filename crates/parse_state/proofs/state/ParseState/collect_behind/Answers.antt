-- A word that stays, and a list on it.
use Rattle.std.proofs.Common.{◌≡◌, ℕ, ◌-◌, List, ◌∷◌, [], ◌++◌, drop, take, length, reverse, slice_get, true, sym, ap, ap₂, subst, ◌∙◌, arith, map}
use Rattle.std.proofs.lemmas.Result.{on_ok_weaker}
use Rattle.meaning_derivation.specs.Values.{ListValue, sorts_of}
use Rattle.meaning_derivation.specs.State.{with_values}
use Rattle.sparse_model.specs.declared.ids.NameId.{NameId}
use Rattle.parse_state.specs.declared.value.Value.{Value}
use Rattle.parse_state.specs.declared.value.Value.TheVariants as kinds
use Rattle.parse_state.specs.Seen.{Read, closed_seen, state_of}
use Rattle.parse_state.specs.Sources.{covers, parts_given}
use Rattle.parse_state.specs.Giving.{children_in}
use Rattle.parse_state.specs.Asking.{token_in, name_in}
use Rattle.parse_state.specs.Joining.{word_at}
use Rattle.parse_state.specs.Soundness.{is_known, IsSound}
use Rattle.parse_state.proofs.Making.{with_stack}
use Rattle.parse_state.proofs.JoinedLists.{behind_is, sound_behind}
use Rattle.parse_state.proofs.Sound.{all_small, from_ok, known_at}
use Rattle.parse_state.proofs.state.ParseState.collect_behind.Goals as goal

pub put_behind-put-requires-clause-small : goal.put_behind-put-requires-clause-small
put_behind-put-requires-clause-small c =
    let few = c.self.invariant.few in
    all_small (length c.self.inside.unit.nodes) (omega (arith, few)) c.self.inside.values.items c.self.invariant.handles

pub invariant_of-self-else-is_err : goal.invariant_of-self-else-is_err
invariant_of-self-else-is_err c =
    let name : c.name_at-name.result ≡ name_in (slice_get (reverse c.self.inside.values.items) c.args.word) =
    c.name_at-name.ensures ∙ ap (λ stack. name_in (slice_get (reverse stack) c.args.word)) c.deref-2.ensures.value in
    let known : is_known c.self.inside.names.now c.name_at-name.result ≡ true =
    ap (is_known c.self.inside.names.now) name ∙ known_at c.self.inside.names.now c.apart.ensures.empty c.self.inside.values.items c.args.word c.self.invariant.words in
    subst (λ (items : List Value). IsSound c.self.inside.names.now c.self.inside.unit items c.self.inside.scopes (map closed_seen c.self.inside.closed.items))
    (sym (from_ok c.put_behind-put.result (sym c.is_err.ensures.value ∙ c.if-is_err.false) c.put_behind-put.ensures))
    (sound_behind c.self.inside.names.now c.self.inside.unit c.self.inside.values.items c.self.inside.scopes (map closed_seen c.self.inside.closed.items) c.self.invariant c.saturating_sub-from.result c.token_at-token.result c.name_at-name.result c.args.sources.now known)

pub returns-else-is_err-clause-list : goal.returns-else-is_err-clause-list
returns-else-is_err-clause-list c =
    let read : Read =
    record {
      names = c.self.inside.names.now;
      list = c.self.inside.unit;
      stack = c.self.inside.values.items;
      scopes = c.self.inside.scopes;
      taken = c.self.inside.taken;
      next_token = c.self.inside.next_token;
      last_token = c.self.inside.last_token;
      passed = c.self.inside.passed;
      held = c.self.inside.held;
      function_end = c.self.inside.function_end;
      closed = map closed_seen c.self.inside.closed.items;
      awaited = c.self.inside.awaited;
      tokens = c.self.inside.tokens.now;
    } in
    let token : c.token_at-token.result ≡ token_in (slice_get (reverse c.self.inside.values.items) c.args.word) =
    c.token_at-token.ensures ∙ ap (λ stack. token_in (slice_get (reverse stack) c.args.word)) c.deref.ensures.value in
    let name : c.name_at-name.result ≡ name_in (slice_get (reverse c.self.inside.values.items) c.args.word) =
    c.name_at-name.ensures ∙ ap (λ stack. name_in (slice_get (reverse stack) c.args.word)) c.deref-2.ensures.value in
    let from : c.saturating_sub-from.result ≡ length c.self.inside.values.items - c.args.takes = omega arith in
    on_ok_weaker c.put_behind-put.result
    (λ items_are.
    ap (λ (items : List Value). state_of (with_stack read items)) items_are
    ∙ ap (λ (start : ℕ). state_of (with_stack read ((take start read.stack ++ kinds.Word c.token_at-token.result c.name_at-name.result ∷ []) ++ kinds.List (children_in (drop start read.stack) c.args.sources.now) ∷ []))) from
    ∙ ap₂ (λ (at : ℕ) (id : NameId). state_of (with_stack read ((take (length read.stack - c.args.takes) read.stack ++ kinds.Word at id ∷ []) ++ kinds.List (children_in (drop (length read.stack - c.args.takes) read.stack) c.args.sources.now) ∷ []))) token name
    ∙ behind_is read c.args.takes c.args.word c.args.sources.now c.apart.ensures.empty
    (ap (λ (seen : Read). covers (reverse (take c.args.takes (sorts_of (state_of seen).values))) c.args.sources.now) c.self.view_is ∙ c.requires.covers)
    ∙ ap (λ (seen : Read). with_values (state_of seen) (ListValue (parts_given (state_of seen).values c.args.sources.now) ∷ word_at (state_of seen).values c.args.word ∷ drop c.args.takes (state_of seen).values)) c.self.view_is)
    c.put_behind-put.ensures
