-- What an action comes to, as its fault tells it.
use Rattle.std.specs.Prelude.{◌≡◌}
use Rattle.meaning_derivation.specs.State.{IsError, PassesLimit, ActionOutcome, Refuses}
use Rattle.parse_state.specs.declared.fault.ActionFault.{ActionFault}
use Rattle.parse_state.specs.declared.fault.ActionFault.TheVariants.{Refused, Limit, Memory}

-- the outcome of an action is this fault; of want of memory nothing is said
abbrev pub IsToldBy : ActionOutcome → ActionFault → Type 0
IsToldBy outcome (Refused kind token) = outcome ≡ Refuses (IsError kind) token
IsToldBy outcome (Limit limit token) = outcome ≡ Refuses (PassesLimit limit) token
IsToldBy outcome Memory = Unit {0}
