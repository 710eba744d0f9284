-- The warning for a failure: one line, and for some rules two more that name types.
use Rattle.std.specs.Prelude.{ℕ, Bool, true, false, ◌==◌, List, [], ◌++◌, codes, Option, Some, None, if◌then◌else◌}
use Rattle.std.specs.Fmt.{decimal, signed_decimal}
use Rattle.std.specs.Str.{bytes_eq}
use Rattle.vocabulary.specs.declared.rule.RuleCode.{RuleCode}
use Rattle.vocabulary.specs.declared.rule.RuleCode.TheVariants.{A1, A2, A3, A4, A5, A6, A7, B1, B2, B3, B4, B5, B6, B7, C1, C2, C3, N1, S1, S2, S3, S4, S5, S6, S7, S8}
use Rattle.meaning_text.specs.Places.{At}
use Rattle.meaning_text.specs.Tokens.{Tok}
use Rattle.meaning_types.specs.Types.{Flags, TypeTree, Typed, RestrictedTree, PointerTree, flags_of}
use Rattle.meaning_types.specs.Spelling.{identity_spelling, space_spelling}
use Rattle.meaning_operands.specs.Failures.{Failure}
use Rattle.meaning_warnings.specs.Places.{ShownUnit, type_spelling, path_of, begins_at, token_text, line_front}

-- Words

-- where a conversion stands: the part of an initializer, an argument by its number, or by its token
abbrev pub initializer_part : ℕ
initializer_part = 256

abbrev pub position : (spelling : List ℕ) → (part : ℕ) → List ℕ
position spelling part =
    if part == 0 then (if bytes_eq spelling (codes "return") then codes "return" else codes "assignment")
    else (if part == initializer_part then codes "initializer"
    else codes "argument " ++ decimal part)

-- what brings two pointers together: an operator
abbrev pub meeting : (spelling : List ℕ) → List ℕ
meeting spelling =
    if bytes_eq spelling (codes "-") then codes "subtraction"
    else (if bytes_eq spelling (codes "?") then codes "conditional"
    else codes "comparison")

-- of a type that a failure tells; of none there is nothing to say
abbrev pub of_type : (TypeTree → List ℕ) → Option TypeTree → List ℕ
of_type text None = []
of_type text (Some type_) = text type_

-- what is wrong about a place with these flags
abbrev pub access_text : Flags → List ℕ
access_text flags =
    if flags.noderef then codes "dereference of noderef expression" else codes "dereference in address space " ++ space_spelling flags.space

-- the space of what a pointer points to
abbrev pub pointed_space : TypeTree → List ℕ
pointed_space (Typed (PointerTree target) qualifiers flags) = space_spelling (flags_of target).space
pointed_space (Typed base qualifiers flags) = []

-- a restricted type is spelled so, without its first word
abbrev pub restricted_name : ShownUnit → TypeTree → List ℕ
restricted_name shown (Typed (RestrictedTree kind identity) qualifiers flags) = identity_spelling kind (shown.identities identity)
restricted_name shown (Typed base qualifiers flags) = []

abbrev pub is_restricted_type : TypeTree → Bool
is_restricted_type (Typed (RestrictedTree kind identity) qualifiers flags) = true
is_restricted_type (Typed base qualifiers flags) = false

-- a cast of a restricted operand, or of another operand to this type
abbrev pub cast_text : ShownUnit → (operand : TypeTree) → (to : Option TypeTree) → List ℕ
cast_text shown operand to =
    if is_restricted_type operand then codes "cast of restricted " ++ restricted_name shown operand
    else codes "cast to restricted " ++ of_type (restricted_name shown) to

-- the name of the function whose contexts aren't in balance
abbrev pub imbalance : List ℕ → List ℕ → List ℕ
imbalance name what = codes "context imbalance in '" ++ name ++ codes "' - " ++ what

-- The table

-- what two types are called in the lines below a warning
pub data TypeLines : Type 0 where
  NoTypeLines : TypeLines
  ExpectedGot : TypeLines
  LeftRight : TypeLines

-- the text of a warning, and the lines below it
pub record Warning : Type 0 where
  pub text : List ℕ
  pub below : TypeLines

abbrev pub alone : List ℕ → Warning
alone text = record { text = text; below = NoTypeLines }

abbrev pub with_expected : List ℕ → Warning
with_expected text = record { text = text; below = ExpectedGot }

abbrev pub with_sides : List ℕ → Warning
with_sides text = record { text = text; below = LeftRight }

-- what a rule says of a failure at a token that is spelled so
module _ (shown : ShownUnit) (spelling : List ℕ) (failure : Failure) where
  -- a conversion at a position
  abbrev pub incorrect_type : List ℕ → List ℕ
  incorrect_type why = codes "incorrect type in " ++ position spelling failure.part ++ why

  -- the name of the first restricted type
  abbrev pub restricted : List ℕ
  restricted = of_type (restricted_name shown) failure.first

  abbrev pub warning_of : RuleCode → Warning
  warning_of A1 = with_expected (incorrect_type (codes " (different address spaces)"))
  warning_of A2 = with_expected (incorrect_type (codes " (different base types)"))
  warning_of A3 = with_sides (codes "incompatible types in " ++ meeting spelling)
  warning_of A4 = alone (of_type (λ place. access_text (flags_of place)) failure.first)
  warning_of A5 = alone (codes "cast removes address space " ++ of_type pointed_space failure.first)
  warning_of A6 = alone (codes "cast adds address space " ++ of_type pointed_space failure.first)
  warning_of A7 = with_expected (codes "symbol '" ++ failure.name ++ codes "' redeclared with different type")
  warning_of B1 = alone (codes "restricted " ++ restricted ++ codes " degrades to integer")
  warning_of B2 = with_sides (codes "operands of different restricted types")
  warning_of B3 = with_expected (incorrect_type (codes " (different restricted types)"))
  warning_of B4 = alone (of_type (λ operand. cast_text shown operand failure.second) failure.first)
  warning_of B5 = alone (codes "fouled restricted " ++ restricted ++ codes " compared or tested")
  warning_of B6 = with_sides (codes "case label of a different restricted type")
  warning_of B7 = alone (codes "bad assignment operator on restricted " ++ restricted)
  warning_of C1 = alone (imbalance failure.name (codes "different counts at this point"))
  warning_of C2 = alone (imbalance failure.name (codes "unexpected release"))
  warning_of C3 =
      alone (imbalance failure.name (codes "wrong count at exit (" ++ signed_decimal failure.number ++ codes " instead of " ++ signed_decimal failure.wanted ++ codes ")"))
  warning_of N1 = alone (codes "using plain integer as NULL pointer")
  warning_of S1 = alone (codes "symbol '" ++ failure.name ++ codes "' was not declared. Should it be static?")
  warning_of S2 = alone (codes "symbol '" ++ failure.name ++ codes "' shadows an earlier one")
  warning_of S3 = alone (codes "undefined preprocessor identifier '" ++ failure.name ++ codes "'")
  warning_of S4 = alone (codes "returning void-valued expression")
  warning_of S5 = alone (codes "do-while statement is not a compound statement")
  warning_of S6 = alone (codes "empty parameter list taken as (void)")
  warning_of S7 = alone (codes "one-bit signed bit-field")
  warning_of S8 =
      alone (codes "cast truncates constant (" ++ signed_decimal failure.number ++ codes " becomes " ++ signed_decimal failure.wanted ++ codes ")")

-- Lines

-- `FILE:LINE:COLUMN: warning: TEXT` on a line
abbrev pub warning_line : List ℕ → At → List ℕ → List ℕ
warning_line path at text = line_front path at ++ codes "warning: " ++ text ++ codes "\n"

-- `FILE:LINE:COLUMN:    WORD TYPE` on a line
abbrev pub line_of_type : ShownUnit → List ℕ → At → (word : List ℕ) → TypeTree → List ℕ
line_of_type shown path at word type_ = line_front path at ++ codes "   " ++ word ++ codes " " ++ type_spelling shown type_ ++ codes "\n"

-- two of them
abbrev pub two_types : ShownUnit → List ℕ → At → (word other : List ℕ) → Failure → List ℕ
two_types shown path at word other failure =
    of_type (line_of_type shown path at word) failure.first ++ of_type (line_of_type shown path at other) failure.second

abbrev pub lines_below : ShownUnit → List ℕ → At → Failure → TypeLines → List ℕ
lines_below shown path at failure NoTypeLines = []
lines_below shown path at failure ExpectedGot = two_types shown path at (codes "expected") (codes "got") failure
lines_below shown path at failure LeftRight = two_types shown path at (codes "left") (codes "right") failure

-- a warning at this place, with the path of its file
abbrev pub told_lines : ShownUnit → At → Failure → Warning → List ℕ
told_lines shown at failure warning =
    warning_line (path_of shown.files at.file) at warning.text
    ++ lines_below shown (path_of shown.files at.file) at failure warning.below

-- all lines of a failure, where this is its token
abbrev pub failure_lines : ShownUnit → Option Tok → Failure → List ℕ
failure_lines shown token failure =
    told_lines shown (begins_at token) failure (warning_of shown (token_text token) failure failure.rule)
