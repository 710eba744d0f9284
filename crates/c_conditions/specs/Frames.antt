-- How the stack of frames is seen by the plain program of `meaning_conditions`, and what a step answers.
use Rattle.std.specs.Prelude.{◌≡◌, ℕ, Option, Some, None, Result, Ok, Err, List, map, reverse}
use Rattle.meaning_conditions.specs.Values as values
use Rattle.meaning_conditions.specs.plain.Reading as reading
use Rattle.c_conditions.specs.declared.fault.IfFault.{IfFault}
use Rattle.c_conditions.specs.declared.fault.IfFault.TheVariants.{BadExpression, ZeroDivisor, Memory}
use Rattle.c_conditions.specs.declared.operand.Operand.{Operand}
use Rattle.c_conditions.specs.declared.frames.Frame.{Frame}
use Rattle.c_conditions.specs.declared.frames.Frame.TheVariants.{Parenthesis, Prefix, Infix, Condition, Middle}
use Rattle.c_conditions.specs.Seen.{unary_seen, binary_seen, operand_seen}

abbrev pub frame_seen : Frame → reading.Frame values.Operand
frame_seen Parenthesis = reading.Parenthesis
frame_seen (Prefix operator) = reading.Prefix (unary_seen operator)
frame_seen (Infix index operator left) = reading.Infix index (binary_seen operator) (operand_seen left)
frame_seen (Condition condition) = reading.Condition (operand_seen condition)
frame_seen (Middle condition middle) = reading.Middle (operand_seen condition) (operand_seen middle)

-- the innermost frame stands last in the code
abbrev pub frames_seen : List Frame → List (reading.Frame values.Operand)
frames_seen frames = map frame_seen (reverse frames)

abbrev pub state_seen : List Frame → Option Operand → reading.State values.Operand
state_seen frames None = reading.BeforeOperand (frames_seen frames)
state_seen frames (Some operand) = reading.BehindOperand (frames_seen frames) (operand_seen operand)

-- what a step answers where the plain program makes this, with the frames that it leaves
abbrev pub IsStepped : Option (reading.State values.Operand) → ℕ → List Frame → Result (Option Operand) IfFault → Type 0
IsStepped stepped index frames (Ok operand) = stepped ≡ Some (state_seen frames operand)
IsStepped stepped index frames (Err (BadExpression at)) = (at ≡ index) × (stepped ≡ None)
IsStepped stepped index frames (Err (ZeroDivisor at)) = ⊥
IsStepped stepped index frames (Err Memory) = Unit {0}
