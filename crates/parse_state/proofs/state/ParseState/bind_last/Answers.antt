-- A name is bound by its spelling as by its id.
use Rattle.std.proofs.Common.{◌≡◌, ℕ, ◌-◌, Bool, true, ◌&&◌, ◌∷◌, map, length, ap, ap₂, ◌∙◌, arith}
use Rattle.std.proofs.lemmas.Bool.{lt-ltb}
use Rattle.vocabulary.specs.declared.scope.NameSpace.TheVariants.{Ordinary}
use Rattle.meaning_scopes.specs.Scopes.{Binds, ScopeList}
use Rattle.meaning_scopes.specs.laws.Scopes.{all_named}
use Rattle.meaning_derivation.specs.Scoping.{bound, last_handle}
use Rattle.sparse_model.specs.declared.ids.NameId.{NameId}
use Rattle.c_tokens.specs.Seen.{text_of}
use Rattle.c_scope.specs.Seen.{entry_with}
use Rattle.parse_state.specs.Seen.{Read, closed_seen, state_of}
use Rattle.parse_state.specs.Soundness.{is_known}
use Rattle.parse_state.proofs.Sound.{sound_bound}
use Rattle.parse_state.proofs.state.ParseState.bind_last.Goals as goal

pub invariant_of-self-2 : goal.invariant_of-self-2
invariant_of-self-2 c =
    let known : is_known c.self.inside.names.now c.args.name ≡ true =
    ap (λ (seen : Read). is_known seen.names c.args.name) c.self.view_is ∙ lt-ltb c.args.name.0 (length c.args.self.now.names) c.requires in
    sound_bound c.self.inside.names.now c.self.inside.unit c.self.inside.values.items c.self.inside.scopes (map closed_seen c.self.inside.closed.items) c.self.invariant c.bind.new.self
    (map closed_seen c.self.inside.closed.items)
    (ap (all_named (is_known c.self.inside.names.now)) c.in_ok-bind.ensures.ok ∙ ap₂ (λ (one rest : Bool). one && rest) known c.self.invariant.bound_names)
    c.self.invariant.closed_names

pub returns-clause-ok : goal.returns-clause-ok
returns-clause-ok c =
    let read : Read =
    record {
      names = c.self.inside.names.now;
      list = c.self.inside.unit;
      stack = c.self.inside.values.items;
      scopes = c.self.inside.scopes;
      taken = c.self.inside.taken;
      next_token = c.self.inside.next_token;
      last_token = c.self.inside.last_token;
      passed = c.self.inside.passed;
      held = c.self.inside.held;
      function_end = c.self.inside.function_end;
      closed = map closed_seen c.self.inside.closed.items;
      awaited = c.self.inside.awaited;
      tokens = c.self.inside.tokens.now;
    } in
    let first = c.self.invariant.first in
    let count = c.len.ensures.value in
    let less = c.saturating_sub-last.ensures in
    let last : c.saturating_sub-last.result ≡ length c.self.inside.unit.nodes - 1 = omega (arith, first, count, less) in
    ap (λ (scopes : ScopeList NameId). state_of (record read { scopes = scopes }))
    (c.in_ok-bind.ensures.ok ∙ ap (λ (handle : ℕ). Binds (entry_with Ordinary c.args.name handle c.args.kind) ∷ c.self.inside.scopes) last)
    ∙ ap (λ (seen : Read). bound (state_of seen) Ordinary (text_of seen.names c.args.name) (last_handle (state_of seen)) c.args.kind) c.self.view_is
