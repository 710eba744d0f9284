use Rattle.std.proofs.Common.{◌≡◌, ◌++◌, length, map, false}
use Rattle.meaning_macros.specs.Bodies.{with_rests}
use Rattle.c_macros.specs.Operands.{flat_from, is_some_list, part_by, piece_by}
use Rattle.c_macros.specs.Seen.{Spelling}
use Rattle.c_macros.proofs.chains.read_parts.Given as goal

-- the operands so far and those to come are all
abbrev pub invariant-loop-first : goal.invariant-loop-first
invariant-loop-first l = (s : Spelling) →
    map (part_by s) l.parts.items ++ flat_from (is_some_list l.parts.items) l.joined (with_rests l.variadic l.count (map (piece_by s) l.rest))
    ≡ flat_from false false (with_rests l.variadic l.count (map (piece_by s) l.pieces))

abbrev pub decreases-loop-first : goal.decreases-loop-first
decreases-loop-first l = length l.rest
