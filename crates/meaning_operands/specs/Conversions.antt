-- What a conversion says: that of `=`, of an argument, of an initializer and of `return` alike (C11 6.5.16.1).
use Rattle.std.specs.Prelude.{ℕ, Bool, ◌&&◌, nat_eq, if◌then◌else◌}
use Rattle.vocabulary.specs.declared.int_kind.IntKind.TheVariants.{Bool as BoolKind}
use Rattle.vocabulary.specs.declared.rule.RuleCode.{RuleCode}
use Rattle.vocabulary.specs.declared.rule.RuleCode.TheVariants.{A1, A2, B3, N1}
use Rattle.meaning_types.specs.Types.{TypeTree, Typed, BaseTree, IntegerTree, RestrictedTree, PointerTree, AggregateTree}
use Rattle.meaning_types.specs.Equality.{are_equal_bools}
use Rattle.meaning_types.specs.Spaces.{mix_spaces, have_other_targets}
use Rattle.meaning_operands.specs.Operands.{Operand, identity_of, are_one_identity}

-- nothing fails, this rule fails, or it is no conversion
pub data ConversionAnswer : Type 0 where
  Fine : ConversionAnswer
  Fails : RuleCode → ConversionAnswer
  Constraint : ConversionAnswer

-- a pointer becomes a pointer; a null pointer constant of type `void *` becomes any
abbrev pub pointers_answer : (null : Bool) → (from to : TypeTree) → ConversionAnswer
pointers_answer null from to =
    if null then Fine
    else (if mix_spaces from to then Fails A1
    else (if have_other_targets from to then Fails A2
    else Fine))

-- an integer becomes a pointer
abbrev pub to_pointer_answer : (zero : Bool) → ConversionAnswer
to_pointer_answer zero = if zero then Fails N1 else Fails A2

-- a pointer becomes an integer of this base
abbrev pub from_pointer_answer : BaseTree → ConversionAnswer
from_pointer_answer (IntegerTree BoolKind) = Fine
from_pointer_answer base = Fails A2

-- an integer becomes an integer
abbrev pub integers_answer : Operand → (to : TypeTree) → ConversionAnswer
integers_answer from to =
    if from.zero then Fine
    else (if are_one_identity (identity_of from.of) (identity_of to) then Fine
    else Fails B3)

-- an aggregate becomes an aggregate: itself alone
abbrev pub aggregates_answer : (number other : ℕ) → (is_union is_other_union : Bool) → ConversionAnswer
aggregates_answer number other is_union is_other_union =
    if nat_eq number other && are_equal_bools is_union is_other_union then Fine else Constraint

-- by the bases of both; a void value, or a type that no value has, is none
abbrev pub answer_of_bases : Operand → (null : Bool) → (to : TypeTree) → (base target : BaseTree) → ConversionAnswer
answer_of_bases from null to (PointerTree _) (PointerTree _) = pointers_answer null from.of to
answer_of_bases from null to (PointerTree _) (IntegerTree kind) = from_pointer_answer (IntegerTree kind)
answer_of_bases from null to (PointerTree _) (RestrictedTree kind identity) = from_pointer_answer (RestrictedTree kind identity)
answer_of_bases from null to (IntegerTree _) (PointerTree _) = to_pointer_answer from.zero
answer_of_bases from null to (RestrictedTree _ _) (PointerTree _) = to_pointer_answer from.zero
answer_of_bases from null to (IntegerTree _) (IntegerTree _) = integers_answer from to
answer_of_bases from null to (IntegerTree _) (RestrictedTree _ _) = integers_answer from to
answer_of_bases from null to (RestrictedTree _ _) (IntegerTree _) = integers_answer from to
answer_of_bases from null to (RestrictedTree _ _) (RestrictedTree _ _) = integers_answer from to
answer_of_bases from null to (AggregateTree number is_union) (AggregateTree other is_other_union) =
    aggregates_answer number other is_union is_other_union
answer_of_bases from null to base target = Constraint

abbrev pub base_in : TypeTree → BaseTree
base_in (Typed base qualifiers flags) = base

-- an operand becomes a value of this type, where `null` says that it is a null pointer constant of type `void *`
abbrev pub conversion_answer : Operand → (null : Bool) → TypeTree → ConversionAnswer
conversion_answer from null to = answer_of_bases from null to (base_in from.of) (base_in to)
