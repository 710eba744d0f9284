-- How the operands of a body are seen by the definitions of `meaning_macros`.
use Rattle.std.specs.Prelude.{ℕ, Bool, true, false, not, nat_eq, ◌+◌, List, [], ◌∷◌, Option, Some, None, if◌then◌else◌}
use Rattle.meaning_macros.specs.Bodies.{Chain, hung_before}
use Rattle.meaning_macros.specs.Bodies as bodies
use Rattle.c_macros.specs.declared.operand.Operand.{Operand}
use Rattle.c_macros.specs.declared.operand.Operand.TheVariants.{Own, Argument, Stringized, CommaAndRest}
use Rattle.c_macros.specs.declared.operand.Piece.{Piece}
use Rattle.c_macros.specs.declared.operand.Piece.TheVariants.{PasteSign, One}
use Rattle.c_macros.specs.declared.operand.Part.{Part}
use Rattle.c_macros.specs.Seen.{Spelling, token_by}

-- an operand of which the ids are spelled so
abbrev pub operand_by : Spelling → Operand → bodies.Operand
operand_by s (Own token) = bodies.OwnToken (token_by s token)
operand_by s (Argument space parameter) = bodies.Argument space parameter
operand_by s (Stringized space parameter) = bodies.Stringized space parameter
operand_by s (CommaAndRest comma space parameter) = bodies.CommaAndRest (token_by s comma) space parameter

abbrev pub piece_by : Spelling → Piece → bodies.BodyPiece
piece_by s PasteSign = bodies.PasteSign
piece_by s (One operand) = bodies.OneOperand (operand_by s operand)

-- an operand in a flat list of chains, and whether a chain begins with it
pub record FlatOperand : Type 0 where
  pub operand : bodies.Operand
  pub begins : Bool

abbrev pub part_by : Spelling → Part → FlatOperand
part_by s part = record { operand = operand_by s part.operand; begins = part.begins }

-- a chain begins here, or nothing is left
abbrev pub begins_next : List FlatOperand → Bool
begins_next [] = true
begins_next (o ∷ os) = o.begins

-- the chains of a flat list
abbrev pub grouped : List FlatOperand → List Chain
grouped [] = []
grouped (o ∷ os) = if begins_next os then (o.operand ∷ []) ∷ grouped os else hung_before o.operand (grouped os)

-- The flat list of pieces, from the left: whether an operand stands somewhere before them, and whether a `##` joins the
-- next one to it.
abbrev pub flat_from : (behind joined : Bool) → List bodies.BodyPiece → List FlatOperand
flat_from behind joined [] = []
flat_from behind joined (bodies.PasteSign ∷ pieces) = flat_from behind behind pieces
flat_from behind joined (bodies.OneOperand o ∷ pieces) = record { operand = o; begins = not joined } ∷ flat_from true false pieces

abbrev pub is_some_list : {X : Type 0} → List X → Bool
is_some_list [] = false
is_some_list (x ∷ xs) = true

-- `##` and the last of so many parameters at the front: the white space before it, its number, and what is behind it
abbrev pub pasted_rest_of : ℕ → List Piece → Option (Bool × (ℕ × List Piece))
pasted_rest_of count (PasteSign ∷ One (Argument space parameter) ∷ pieces) =
    if nat_eq (parameter + 1) count then Some (space, (parameter, pieces)) else None
pasted_rest_of count pieces = None
