-- What a fault tells of an outcome.
use Rattle.std.specs.Prelude.{ℕ}
use Rattle.meaning_derivation.specs.State.{IsError, PassesLimit, Outcome, Fails}
use Rattle.parse_state.specs.declared.fault.ActionFault.{ActionFault}
use Rattle.parse_state.specs.declared.fault.ActionFault.TheVariants as actions
use Rattle.c_parse.specs.declared.fault.ParseFault.{ParseFault}
use Rattle.c_parse.specs.declared.fault.ParseFault.TheVariants.{Refused, Limit, Memory}

-- the outcome is this fault; of want of memory nothing is said
abbrev pub IsTold : (Outcome → Type 0) → ParseFault → Type 0
IsTold Is (Refused kind token) = (decided : ℕ) × Is (Fails (IsError kind) decided token)
IsTold Is (Limit limit token) = (decided : ℕ) × Is (Fails (PassesLimit limit) decided token)
IsTold Is Memory = Unit {0}

-- the fault of an action
abbrev pub fault_seen : ActionFault → ParseFault
fault_seen (actions.Refused kind token) = Refused kind token
fault_seen (actions.Limit limit token) = Limit limit token
fault_seen actions.Memory = Memory
