-- What a value is to an operator is told by what its type is, and what is broken by the least.
use Rattle.std.proofs.Common.{◌≡◌, ℕ, Bool, true, false, ◌&&◌, List, [], ◌∷◌, Option, Some, None, if◌then◌else◌, refl}
use Rattle.meaning_types.specs.Types.{TypeTree, Typed, VoidTree, IntegerTree, RestrictedTree, PointerTree, ArrayTree, FunctionTree, AggregateTree}
use Rattle.meaning_operands.specs.Failures.{Broken}
use Rattle.meaning_rules.specs.Rules.{goes_before, least_broken, lesser}
use Rattle.vocabulary.specs.declared.int_kind.IntKind.{IntKind}
use Rattle.vocabulary.specs.declared.operator.Operator.{Operator}
use Rattle.meaning_types.specs.Spaces.{is_void}
use Rattle.meaning_operands.specs.Operands.{is_restricted}
use Rattle.meaning_operands.specs.Operators.{Operands, IntegerOperands, ScalarOperands, ElementOperands, SumOperands, DifferenceOperands, StepOperands, ComparedOperands, ArmOperands, AnyOperands, law_of}
use Rattle.meaning_typing.specs.Facts.{ExpressionFact}
use Rattle.node_facts.specs.Constants.{binary_kind, keeps_identity}
use Rattle.meaning_layout.specs.Sizes.{Told}
use Rattle.meaning_typing.specs.Declarators.{is_function}
use Rattle.meaning_typing.specs.Operators.{binary_by, or_else, points_to_function, points_to_void, sort_of, target_broken, value_sort}
use Rattle.c_types.specs.Table.{pointed_at}
use Rattle.c_types.specs.Outlines.{outline_of}
use Rattle.expression_rows.specs.Outcomes.{binary_taking, taken_in}
use Rattle.expression_rows.specs.Sorts.{first_of, plain_kind, sort_in, target_broken_if, target_if}

pub sort_told : (type_ : TypeTree) → sort_in (outline_of type_) ≡ sort_of type_
sort_told (Typed VoidTree _ _) = refl
sort_told (Typed (IntegerTree kind) _ _) = refl
sort_told (Typed (RestrictedTree kind identity) _ _) = refl
sort_told (Typed (PointerTree target) _ _) = refl
sort_told (Typed (ArrayTree element length) _ _) = refl
sort_told (Typed (FunctionTree result parameters variadic) _ _) = refl
sort_told (Typed (AggregateTree number is_union) _ _) = refl

-- the lesser of a constraint and another is one
lesser_first : (broken : Broken) (least otherwise : Option Broken) → lesser (Some broken) least ≡ first_of (lesser (Some broken) least) otherwise
lesser_first broken None otherwise = refl
lesser_first broken (Some other) otherwise = by (goes_before other broken)
  where
    by : (test : Bool) → (if test then Some other else Some broken) ≡ first_of (if test then Some other else Some broken) otherwise
    by true = refl
    by false = refl

pub or_else_told : (broken otherwise : List Broken) → least_broken (or_else broken otherwise) ≡ first_of (least_broken broken) (least_broken otherwise)
or_else_told [] otherwise = refl
or_else_told (broken ∷ others) otherwise = lesser_first broken (least_broken others) (least_broken otherwise)

-- What pointers point to

pub points_to_void_told : (type_ : TypeTree) → target_if is_void (pointed_at type_) ≡ points_to_void type_
points_to_void_told (Typed VoidTree _ _) = refl
points_to_void_told (Typed (IntegerTree kind) _ _) = refl
points_to_void_told (Typed (RestrictedTree kind identity) _ _) = refl
points_to_void_told (Typed (PointerTree target) _ _) = refl
points_to_void_told (Typed (ArrayTree element length) _ _) = refl
points_to_void_told (Typed (FunctionTree result parameters variadic) _ _) = refl
points_to_void_told (Typed (AggregateTree number is_union) _ _) = refl

pub points_to_function_told : (type_ : TypeTree) → target_if is_function (pointed_at type_) ≡ points_to_function type_
points_to_function_told (Typed VoidTree _ _) = refl
points_to_function_told (Typed (IntegerTree kind) _ _) = refl
points_to_function_told (Typed (RestrictedTree kind identity) _ _) = refl
points_to_function_told (Typed (PointerTree target) _ _) = refl
points_to_function_told (Typed (ArrayTree element length) _ _) = refl
points_to_function_told (Typed (FunctionTree result parameters variadic) _ _) = refl
points_to_function_told (Typed (AggregateTree number is_union) _ _) = refl

module _ (told : Told) (token : ℕ) where
  pub target_broken_told : (type_ : TypeTree) → target_broken_if told token (pointed_at type_) ≡ target_broken told token type_
  target_broken_told (Typed VoidTree _ _) = refl
  target_broken_told (Typed (IntegerTree kind) _ _) = refl
  target_broken_told (Typed (RestrictedTree kind identity) _ _) = refl
  target_broken_told (Typed (PointerTree target) _ _) = refl
  target_broken_told (Typed (ArrayTree element length) _ _) = refl
  target_broken_told (Typed (FunctionTree result parameters variadic) _ _) = refl
  target_broken_told (Typed (AggregateTree number is_union) _ _) = refl

-- Two integers of which no restricted type is kept

pub plain_kind_told : (operator : Operator) (left right : TypeTree) (kind other : IntKind)
    → (keeps_identity (law_of operator).gives && is_restricted left) ≡ false → (keeps_identity (law_of operator).gives && is_restricted right) ≡ false
    → plain_kind operator kind other ≡ binary_kind operator left right kind other
plain_kind_told operator left right kind other first second = rw (first, second) refl

-- Binary operators, by what they take

pub binary_told : (operands : Operands) (told : Told) (operator : Operator) (token first second : ℕ) (left right : ExpressionFact)
    → binary_taking (taken_in operands) told operator token first second left right
    ≡ binary_by operands told operator token first second left right (value_sort left) (value_sort right)
binary_told IntegerOperands told operator token first second left right = refl
binary_told ScalarOperands told operator token first second left right = refl
binary_told ElementOperands told operator token first second left right = refl
binary_told SumOperands told operator token first second left right = refl
binary_told DifferenceOperands told operator token first second left right = refl
binary_told StepOperands told operator token first second left right = refl
binary_told ComparedOperands told operator token first second left right = refl
binary_told ArmOperands told operator token first second left right = refl
binary_told AnyOperands told operator token first second left right = refl
