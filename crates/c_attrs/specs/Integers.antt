-- Integer constants among tokens, by ids.
use Rattle.std.specs.Prelude.{ℕ, ◌+◌, List, [], ◌∷◌, ◌++◌, length, Option, Some, None, Result, Ok, Err}
use Rattle.std.specs.Borrow.{Bor}
use Rattle.sparse_model.specs.declared.int_const.IntConst.{IntConst}
use Rattle.meaning_literals.specs.Constants.{Constant, Fault}
use Rattle.meaning_attributes.specs.Integers.{PlacedConstant, constants_from}
use Rattle.c_literals.specs.Seen.{constant_seen}
use Rattle.c_tokens.specs.declared.token.Token.{Token}
use Rattle.c_tokens.specs.Seen.{toks_of}

-- a value, if a literal has one
abbrev pub value_of : Result Constant Fault → Option Constant
value_of (Ok constant) = Some constant
value_of (Err fault) = None

-- a constant at this index, if there is one, before others
abbrev pub before_others : Option IntConst → (index : ℕ) → List PlacedConstant → List PlacedConstant
before_others None index constants = constants
before_others (Some constant) index constants = record { index = index; constant = constant_seen constant } ∷ constants

-- what a last constant and the tokens before it make up, of which the first one has this index
abbrev pub up_to_last : List (List ℕ) → (start : ℕ) → Option (IntConst × Bor (List Token)) → List PlacedConstant
up_to_last names start None = []
up_to_last names start (Some (constant, before)) =
    constants_from start (toks_of names before.now) ++ record { index = start + length before.now; constant = constant_seen constant } ∷ []
