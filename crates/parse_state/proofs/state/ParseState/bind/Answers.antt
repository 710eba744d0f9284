-- A name is bound by its spelling as by its id.
use Rattle.std.proofs.Common.{◌≡◌, Bool, ◌&&◌, ◌∷◌, map, reverse, slice_get, sym, ap, ap₂, ◌∙◌}
use Rattle.meaning_scopes.specs.Scopes.{Binds, ScopeList}
use Rattle.meaning_scopes.specs.laws.Scopes.{all_named}
use Rattle.meaning_derivation.specs.Values.{value_at}
use Rattle.meaning_derivation.specs.Values as values
use Rattle.meaning_derivation.specs.Scoping.{bound}
use Rattle.sparse_model.specs.declared.ids.NameId.{NameId}
use Rattle.c_scope.specs.Seen.{entry_with}
use Rattle.parse_state.specs.Asking.{name_in}
use Rattle.parse_state.specs.Seen.{Read, closed_seen, state_of, spelled_trees}
use Rattle.parse_state.specs.Soundness.{is_known}
use Rattle.parse_state.proofs.Seeing.{text_at}
use Rattle.parse_state.proofs.Sound.{known_at, sound_bound}
use Rattle.parse_state.proofs.state.ParseState.bind.Goals as goal

pub invariant_of-self-2 : goal.invariant_of-self-2
invariant_of-self-2 c =
    let name : NameId = name_in (slice_get (reverse c.self.inside.values.items) c.args.depth) in
    let here : c.name_at-name.result ≡ name = c.name_at-name.ensures ∙ ap (λ stack. name_in (slice_get (reverse stack) c.args.depth)) c.deref.ensures.value in
    sound_bound c.self.inside.names.now c.self.inside.unit c.self.inside.values.items c.self.inside.scopes (map closed_seen c.self.inside.closed.items) c.self.invariant c.bind.new.self
    (map closed_seen c.self.inside.closed.items)
    (ap (all_named (is_known c.self.inside.names.now)) c.in_ok-bind.ensures.ok
    ∙ ap₂ (λ (one rest : Bool). one && rest)
    (ap (is_known c.self.inside.names.now) here ∙ known_at c.self.inside.names.now c.apart.ensures.empty c.self.inside.values.items c.args.depth c.self.invariant.words)
    c.self.invariant.bound_names)
    c.self.invariant.closed_names

pub returns-clause-ok : goal.returns-clause-ok
returns-clause-ok c =
    let read : Read =
    record {
      names = c.self.inside.names.now;
      list = c.self.inside.unit;
      stack = c.self.inside.values.items;
      scopes = c.self.inside.scopes;
      taken = c.self.inside.taken;
      next_token = c.self.inside.next_token;
      last_token = c.self.inside.last_token;
      passed = c.self.inside.passed;
      held = c.self.inside.held;
      function_end = c.self.inside.function_end;
      closed = map closed_seen c.self.inside.closed.items;
      awaited = c.self.inside.awaited;
      tokens = c.self.inside.tokens.now;
    } in
    let name : NameId = name_in (slice_get (reverse c.self.inside.values.items) c.args.depth) in
    let here : c.name_at-name.result ≡ name = c.name_at-name.ensures ∙ ap (λ stack. name_in (slice_get (reverse stack) c.args.depth)) c.deref.ensures.value in
    ap (λ (scopes : ScopeList NameId). state_of (record read { scopes = scopes }))
    (c.in_ok-bind.ensures.ok ∙ ap (λ (id : NameId). Binds (entry_with c.args.space id c.args.declaration c.args.kind) ∷ c.self.inside.scopes) here)
    ∙ ap (λ text. bound (state_of read) c.args.space text c.args.declaration c.args.kind)
    (sym (text_at c.self.inside.names.now (spelled_trees c.self.inside.names.now c.self.inside.unit) c.apart.ensures.empty (reverse c.self.inside.values.items) c.args.depth))
    ∙ ap (λ (seen : Read). bound (state_of seen) c.args.space (values.text_of (value_at (state_of seen).values c.args.depth)) c.args.declaration c.args.kind) c.self.view_is
