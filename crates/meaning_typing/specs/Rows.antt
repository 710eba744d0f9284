-- What a row says of a node: what is known of it, which constraints it breaks, which rules fail, and where a limit is passed.
use Rattle.std.specs.Prelude.{ℕ, pos, List, [], ◌∷◌, ◌++◌, Option, Some, if◌then◌else◌}
use Rattle.vocabulary.specs.declared.error_kind.ErrorKind.{ErrorKind}
use Rattle.vocabulary.specs.declared.error_kind.ErrorKind.TheVariants.{VoidValueUsed, IncompatibleTypes}
use Rattle.vocabulary.specs.declared.rule.RuleCode.{RuleCode}
use Rattle.meaning_types.specs.Types.{TypeTree}
use Rattle.meaning_types.specs.Spaces.{is_void}
use Rattle.meaning_operands.specs.Failures.{Failure, Broken}
use Rattle.meaning_operands.specs.Conversions.{ConversionAnswer, Fine, Fails, Constraint, conversion_answer}
use Rattle.meaning_typing.specs.Facts.{Fact, Unknown, Expression, ExpressionFact, operand_of, type_of_value}

pub record Row : Type 0 where
  pub fact : Fact
  pub broken : List Broken
  pub failures : List Failure
  -- the tokens at which the limit of the size of an object is passed
  pub passed : List ℕ

-- nothing is known, and nothing is said
abbrev pub nothing : Row
nothing = record { fact = Unknown; broken = []; failures = []; passed = [] }

abbrev pub known : Fact → Row
known fact = record nothing { fact = fact }

-- a node that breaks a constraint is unknown
abbrev pub unless_broken : List Broken → Fact → Fact
unless_broken [] fact = fact
unless_broken (broken ∷ others) fact = Unknown

-- an expression, with the constraints that it breaks and the rules that fail
abbrev pub gives : ExpressionFact → List Broken → List Failure → Row
gives expression broken failures =
    record { fact = unless_broken broken (Expression expression); broken = broken; failures = failures; passed = [] }

-- nothing but these
abbrev pub breaks : List Broken → Row
breaks broken = record nothing { broken = broken }

-- Constraints

abbrev pub breaks_at : ErrorKind → ℕ → List Broken
breaks_at constraint token = record { constraint = constraint; token = token; name = [] } ∷ []

abbrev pub breaks_named : ErrorKind → ℕ → List ℕ → List Broken
breaks_named constraint token name = record { constraint = constraint; token = token; name = name } ∷ []

-- a void value is used, which stands at its own token (C11 6.3.2.2)
abbrev pub void_used : (token : ℕ) → ExpressionFact → List Broken
void_used token expression = if is_void (type_of_value expression) then breaks_at VoidValueUsed token else []

-- Failures

abbrev pub fails_with : RuleCode → ℕ → (part : ℕ) → (first second : Option TypeTree) → (name : List ℕ) → Failure
fails_with rule token part first second name =
    record { token = token; rule = rule; part = part; first = first; second = second; name = name; number = pos 0; wanted = pos 0 }

-- Conversions (6.5.16.1 p1): that of a part of a node, at this token, of a value that stands at its own

pub record Converted : Type 0 where
  pub broken : List Broken
  pub failures : List Failure

abbrev pub not_converted : Converted
not_converted = record { broken = []; failures = [] }

-- no conversion at all is told where it is tried, but for a void value
abbrev pub not_convertible : (token value : ℕ) → ExpressionFact → List Broken
not_convertible token value expression =
    if is_void (type_of_value expression) then breaks_at VoidValueUsed value else breaks_at IncompatibleTypes token

abbrev pub converted_by : ConversionAnswer → (token part value : ℕ) → ExpressionFact → (to : TypeTree) → Converted
converted_by Fine token part value expression to = not_converted
converted_by (Fails rule) token part value expression to =
    record { broken = []; failures = fails_with rule token part (Some to) (Some (type_of_value expression)) [] ∷ [] }
converted_by Constraint token part value expression to = record { broken = not_convertible token value expression; failures = [] }

abbrev pub converted : (token part value : ℕ) → ExpressionFact → (to : TypeTree) → Converted
converted token part value expression to =
    converted_by (conversion_answer (operand_of expression) expression.is_null to) token part value expression to

abbrev pub both_converted : Converted → Converted → Converted
both_converted first second = record { broken = first.broken ++ second.broken; failures = first.failures ++ second.failures }
