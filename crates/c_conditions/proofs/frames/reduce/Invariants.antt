use Rattle.std.proofs.Common.{◌≡◌, vec_len}
use Rattle.meaning_conditions.specs.plain.Reading.{reduced, values}
use Rattle.c_conditions.specs.Seen.{operand_seen}
use Rattle.c_conditions.specs.Frames.{frames_seen}
use Rattle.c_conditions.proofs.frames.reduce.Given as goal

abbrev pub invariant-frames : goal.invariant-frames
invariant-frames l =
    reduced values l.least (frames_seen l.frames.items) (operand_seen l.operand)
    ≡ reduced values l.least (frames_seen l.fn.frames.items) (operand_seen l.fn.operand)

abbrev pub decreases-frames : goal.decreases-frames
decreases-frames l = vec_len l.frames
