-- Statements (C11 6.8): they have no type, and ask something of their parts.
use Rattle.std.specs.Prelude.{ℕ, List, Option, Some, None, if◌then◌else◌}
use Rattle.vocabulary.specs.declared.error_kind.ErrorKind.TheVariants.{ValueReturnedFromVoid, ReturnWithoutValue}
use Rattle.meaning_types.specs.Types.{TypeTree, Typed, FunctionTree}
use Rattle.meaning_types.specs.Spaces.{is_void}
use Rattle.meaning_typing.specs.Units.{UnitNodes, child_at}
use Rattle.meaning_typing.specs.Facts.{Fact, Expression, Declared, ExpressionFact, fact_at, type_of_value}
use Rattle.meaning_typing.specs.Rows.{Row, nothing, breaks, breaks_at, converted}

abbrev pub result_in : TypeTree → Option TypeTree
result_in (Typed (FunctionTree result parameters variadic) _ _) = Some result
result_in (Typed base _ _) = None

abbrev pub result_declared : Fact → Option TypeTree
result_declared (Declared declaration) = result_in declaration.type_
result_declared fact = None

-- the result of the function around, whose declarator is its second part; around a statement there may be none
abbrev pub result_around : UnitNodes → List Fact → (function : Option ℕ) → Option TypeTree
result_around nodes facts None = None
result_around nodes facts (Some function) = result_declared (fact_at facts (child_at nodes function 1))

-- `return` (6.8.6.4 p1, p3)

abbrev pub returns_nothing : (token : ℕ) → (result : TypeTree) → Row
returns_nothing token result = if is_void result then nothing else breaks (breaks_at ReturnWithoutValue token)

abbrev pub returned : (token value : ℕ) → ExpressionFact → (result : TypeTree) → Row
returned token value expression result =
    if is_void result then (if is_void (type_of_value expression) then nothing else breaks (breaks_at ValueReturnedFromVoid token))
    else record nothing { broken = (converted token 0 value expression result).broken; failures = (converted token 0 value expression result).failures }

abbrev pub return_row : (token value : ℕ) → Option Fact → (result : Option TypeTree) → Row
return_row token value fact None = nothing
return_row token value None (Some result) = returns_nothing token result
return_row token value (Some (Expression expression)) (Some result) = returned token value expression result
return_row token value (Some fact) (Some result) = nothing
