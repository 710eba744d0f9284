-- How the answer of a line is shown.
use Rattle.std.specs.Prelude.{ℕ, List, ◌++◌, codes, if◌then◌else◌}
use Rattle.std.specs.Fmt.{decimal, signed_decimal}
use Rattle.std.specs.Int.{cast_signed, w64}
use Rattle.meaning_text.specs.Tokens.{Tok, LexesFile}
use Rattle.meaning_conditions.specs.Answers.{Answer, HasValue, HasBadIndex, HasZeroDivisor, IsIfAnswer}
use Rattle.c_conditions.specs.declared.fault.IfNumber.{IfNumber}
use Rattle.c_conditions.specs.Seen.{number_seen}
use Rattle.workbench.specs.declared.values.Shown.{Shown}
use Rattle.workbench.specs.declared.values.Shown.TheVariants.{Value, BadExpression, ZeroDivisor, NoTokens}

-- the line has tokens, which have this answer behind an `#if`
abbrev pub HasIfAnswer : List ℕ → Answer → Type 0
HasIfAnswer line answer = (tokens : List Tok) × LexesFile 1 line tokens × IsIfAnswer tokens answer

-- what is shown of a line
abbrev pub IsShownOf : (line : List ℕ) → Shown → Type 0
IsShownOf line (Value number) = HasIfAnswer line (HasValue (number_seen number))
IsShownOf line (BadExpression index) = HasIfAnswer line (HasBadIndex index)
IsShownOf line (ZeroDivisor index) = HasIfAnswer line (HasZeroDivisor index)
IsShownOf line NoTokens = (tokens : List Tok) → LexesFile 1 line tokens → ⊥

-- a signed number in decimal, an unsigned one with a `u` behind it
abbrev pub number_text : IfNumber → List ℕ
number_text number = if number.unsigned then decimal number.bits ++ codes "u" else signed_decimal (cast_signed w64 number.bits)

abbrev pub shown_text : Shown → List ℕ
shown_text (Value number) = number_text number
shown_text (BadExpression index) = codes "bad expression at " ++ decimal index
shown_text (ZeroDivisor index) = codes "zero divisor at " ++ decimal index
shown_text NoTokens = codes "no tokens"

abbrev pub shown_line : Shown → List ℕ
shown_line shown = shown_text shown ++ codes "\n"
