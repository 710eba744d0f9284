-- Accesses by what is asked of the surrounding: whether the node is evaluated, and whether its value or a store is wanted.
use Rattle.std.specs.Prelude.{ℕ, Bool, ◌&&◌, not, List, [], if◌then◌else◌}
use Rattle.meaning_types.specs.Spaces.{is_void}
use Rattle.meaning_operands.specs.Accesses.{access_answer}
use Rattle.meaning_operands.specs.Failures.{Failure}
use Rattle.meaning_typing.specs.Facts.{Fact, Expression, ExpressionFact, is_loaded}
use Rattle.meaning_typing.specs.Typing.{access_failure}

abbrev pub is_accessed_if : (is_evaluated is_wanted : Bool) → ExpressionFact → Bool
is_accessed_if is_evaluated is_wanted expression =
    is_evaluated && is_wanted && is_loaded expression && not (is_void expression.type_)

abbrev pub access_failures_if : (token : ℕ) → (is_evaluated is_wanted : Bool) → Fact → List Failure
access_failures_if token is_evaluated is_wanted (Expression expression) =
    if is_accessed_if is_evaluated is_wanted expression then access_failure token expression.type_ (access_answer expression.type_) else []
access_failures_if token is_evaluated is_wanted fact = []
