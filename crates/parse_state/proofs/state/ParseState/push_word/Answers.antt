use Rattle.std.proofs.Common.{List, map, length, refl, sym, subst}
use Rattle.std.proofs.lemmas.Bool.{lt-ltb}
use Rattle.c_tokens.specs.Seen.{IsKnown}
use Rattle.parse_state.specs.declared.value.Value.{Value}
use Rattle.parse_state.specs.declared.value.Value.TheVariants.{Word}
use Rattle.parse_state.specs.Seen.{Read, closed_seen}
use Rattle.parse_state.specs.Soundness.{IsSound}
use Rattle.parse_state.proofs.Sound.{sound_pushed}
use Rattle.parse_state.proofs.state.ParseState.push_word.Goals as goal

pub invariant_of-self-2 : goal.invariant_of-self-2
invariant_of-self-2 c =
    let known = lt-ltb c.args.name.0 (length c.self.inside.names.now) (subst (λ (seen : Read). IsKnown seen.names c.args.name) (sym c.self.view_is) c.requires) in
    subst (λ (items : List Value). IsSound c.self.inside.names.now c.self.inside.unit items c.self.inside.scopes (map closed_seen c.self.inside.closed.items)) (sym c.in_ok-push.ensures.items)
    (sound_pushed c.self.inside.names.now c.self.inside.unit c.self.inside.values.items c.self.inside.scopes (map closed_seen c.self.inside.closed.items) c.self.invariant (Word c.args.token c.args.name) refl known refl)
