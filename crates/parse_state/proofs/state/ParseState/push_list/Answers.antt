use Rattle.std.proofs.Common.{ℕ, List, [], ◌∷◌, ◌++◌, refl, sym, ap, subst, ◌∙◌, map}
use Rattle.meaning_tree.specs.Trees.{NoParts}
use Rattle.meaning_tree.specs.Nodes.{end_of}
use Rattle.meaning_tree.specs.Runs.{no_runs}
use Rattle.meaning_tree.specs.Listed.{parts_at}
use Rattle.meaning_derivation.specs.Values.{ListValue}
use Rattle.meaning_derivation.specs.State.{pushed}
use Rattle.parse_state.specs.declared.value.Value.{Value}
use Rattle.parse_state.specs.declared.value.Value.TheVariants as kinds
use Rattle.parse_state.specs.Seen.{Read, closed_seen, state_of, spelled_trees}
use Rattle.parse_state.specs.Soundness.{IsSound}
use Rattle.parse_state.proofs.Sound.{sound_pushed}
use Rattle.parse_state.proofs.Making.{with_stack, pushed_is}
use Rattle.parse_state.proofs.state.ParseState.push_list.Goals as goal

pub returns-clause-list : goal.returns-clause-list
returns-clause-list c =
    let read : Read =
    record {
      names = c.self.inside.names.now;
      list = c.self.inside.unit;
      stack = c.self.inside.values.items;
      scopes = c.self.inside.scopes;
      taken = c.self.inside.taken;
      next_token = c.self.inside.next_token;
      last_token = c.self.inside.last_token;
      passed = c.self.inside.passed;
      held = c.self.inside.held;
      function_end = c.self.inside.function_end;
      closed = map closed_seen c.self.inside.closed.items;
      awaited = c.self.inside.awaited;
      tokens = c.self.inside.tokens.now;
    } in
    ap (λ (items : List Value). state_of (with_stack read items)) c.in_ok-push.ensures.items
    ∙ pushed_is read (kinds.List c.new-list.result)
    ∙ ap (λ (children : List (ℕ × ℕ)). pushed (ListValue (parts_at (spelled_trees read.names read.list) children)) (state_of read)) c.new-list.ensures.empty
    ∙ ap (λ (seen : Read). pushed (ListValue NoParts) (state_of seen)) c.self.view_is

pub invariant_of-self-2 : goal.invariant_of-self-2
invariant_of-self-2 c =
    subst (λ (items : List Value). IsSound c.self.inside.names.now c.self.inside.unit items c.self.inside.scopes (map closed_seen c.self.inside.closed.items))
    (sym (c.in_ok-push.ensures.items ∙ ap (λ (children : List (ℕ × ℕ)). c.self.inside.values.items ++ kinds.List children ∷ []) c.new-list.ensures.empty))
    (sound_pushed c.self.inside.names.now c.self.inside.unit c.self.inside.values.items c.self.inside.scopes (map closed_seen c.self.inside.closed.items) c.self.invariant (kinds.List []) refl refl (end_of c.self.inside.unit, no_runs, refl))
