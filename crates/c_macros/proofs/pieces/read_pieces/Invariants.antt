use Rattle.std.proofs.Common.{◌≡◌, ◌++◌, length, map}
use Rattle.meaning_macros.specs.Bodies.{pieces_of}
use Rattle.c_macros.specs.Operands.{piece_by}
use Rattle.c_macros.specs.Seen.{KeepsApart, Spelling, token_by}
use Rattle.c_macros.proofs.pieces.read_pieces.Given as goal

-- the pieces so far and those to come are all
abbrev pub invariant-loop-token : goal.invariant-loop-token
invariant-loop-token l = (s : Spelling) → KeepsApart s →
    map (piece_by s) l.pieces.items ++ pieces_of (map s l.parameters) (map (token_by s) l.rest) ≡ pieces_of (map s l.parameters) (map (token_by s) l.body)

abbrev pub decreases-loop-token : goal.decreases-loop-token
decreases-loop-token l = length l.rest
