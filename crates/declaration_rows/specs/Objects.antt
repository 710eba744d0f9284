-- Objects and results by the types that are found of them.
use Rattle.std.specs.Prelude.{ℕ, Bool, ◌&&◌, not, List, [], drop, Option, Some, None}
use Rattle.meaning_layout.specs.Sizes.{Told}
use Rattle.meaning_operands.specs.Failures.{Broken}
use Rattle.meaning_types.specs.Spaces.{is_void}
use Rattle.meaning_types.specs.Types.{TypeTree}
use Rattle.meaning_typing.specs.DeclarationRows.{begins_with_initializer, incomplete_name}
use Rattle.meaning_typing.specs.MemberRows.{is_no_object, is_unbounded}
use Rattle.meaning_typing.specs.Operators.{has_no_size}
use Rattle.meaning_typing.specs.Units.{UnitNodes}
use Rattle.decl_judge.specs.Units.{handles_of}

-- the first of the children from this place on that is no list of attributes is an initializer
abbrev pub initializer_from : UnitNodes → List (ℕ × ℕ) → (place : ℕ) → Bool
initializer_from nodes children place = begins_with_initializer nodes (drop place (handles_of children))

abbrev pub is_incomplete_object : Told → (is_initialized : Bool) → TypeTree → Bool
is_incomplete_object told is_initialized type_ = is_no_object told type_ && not (is_initialized && is_unbounded type_)

-- the result of a function that is defined, if it is one
abbrev pub result_broken : Told → (token : ℕ) → (answer : Option TypeTree) → List Broken
result_broken told token None = []
result_broken told token (Some answer) = incomplete_name token (not (is_void answer) && has_no_size told answer)
