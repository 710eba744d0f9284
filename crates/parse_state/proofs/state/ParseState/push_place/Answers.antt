use Rattle.std.proofs.Common.{List, map, refl, sym, subst}
use Rattle.parse_state.specs.declared.value.Value.{Value}
use Rattle.parse_state.specs.declared.value.Value.TheVariants.{Word}
use Rattle.parse_state.specs.Asking.{no_name}
use Rattle.parse_state.specs.Seen.{closed_seen}
use Rattle.parse_state.specs.Soundness.{IsSound}
use Rattle.parse_state.proofs.Sound.{no_name-known, sound_pushed}
use Rattle.parse_state.proofs.state.ParseState.push_place.Goals as goal

pub invariant_of-self-2 : goal.invariant_of-self-2
invariant_of-self-2 c =
    subst (λ (items : List Value). IsSound c.self.inside.names.now c.self.inside.unit items c.self.inside.scopes (map closed_seen c.self.inside.closed.items)) (sym c.in_ok-push.ensures.items)
    (sound_pushed c.self.inside.names.now c.self.inside.unit c.self.inside.values.items c.self.inside.scopes (map closed_seen c.self.inside.closed.items) c.self.invariant (Word c.args.token no_name) refl (no_name-known c.self.inside.names.now c.apart.ensures.empty) refl)
