-- How a body takes the arguments of its parameters.
use Rattle.std.specs.Prelude.{ℕ, Bool, false, not, nat_eq, ◌&&◌, ◌||◌, List, [], ◌∷◌, if◌then◌else◌}
use Rattle.meaning_macros.specs.Bodies.{Chain, OwnToken, Argument, Stringized, CommaAndRest, stands_apart, stands_raw}
use Rattle.meaning_macros.specs.Bodies as bodies
use Rattle.c_macros.specs.declared.operand.ParameterUse.{ParameterUse}
use Rattle.c_macros.specs.Operands.{FlatOperand, begins_next}

-- how these chains take the argument of a parameter
abbrev pub use_in : ℕ → List Chain → ParameterUse
use_in k chains = record { apart = stands_apart k chains; raw = stands_raw k chains }

-- one more use, apart or raw
abbrev pub marked : (apart : Bool) → ParameterUse → ParameterUse
marked apart known = record { apart = known.apart || apart; raw = known.raw || not apart }

-- what is known of a parameter after a use of the one with this number
abbrev pub marked_at : (parameter : ℕ) (apart : Bool) → ℕ → ParameterUse → ParameterUse
marked_at parameter apart k known = if nat_eq parameter k then marked apart known else known

-- what is known of a parameter after an operand, which is a whole chain or not
abbrev pub noted : (alone : Bool) → bodies.Operand → ℕ → ParameterUse → ParameterUse
noted alone (OwnToken t) k known = known
noted alone (Argument space parameter) k known = marked_at parameter alone k known
noted alone (Stringized space parameter) k known = marked_at parameter false k known
noted alone (CommaAndRest comma space parameter) k known = marked_at parameter false k known

-- and after all operands of a flat list
abbrev pub noted_all : ℕ → List FlatOperand → ParameterUse → ParameterUse
noted_all k [] known = known
noted_all k (o ∷ os) known = noted_all k os (noted (o.begins && begins_next os) o.operand k known)
