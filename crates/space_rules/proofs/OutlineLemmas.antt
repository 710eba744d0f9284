-- What is asked of a type is told by what it is.
use Rattle.std.proofs.Common.{◌≡◌, Bool, refl}
use Rattle.meaning_types.specs.Types.{Qualifiers, Flags, TypeTree, Typed, BaseTree, VoidTree, IntegerTree, RestrictedTree, PointerTree, ArrayTree, FunctionTree, AggregateTree}
use Rattle.meaning_types.specs.Spaces.{are_other_targets, have_other_targets, is_void, mix_spaces, of_targets, targets_mix_spaces}
use Rattle.meaning_operands.specs.Operands.{Operand}
use Rattle.meaning_operands.specs.Conversions.{answer_of_bases, base_in, conversion_answer}
use Rattle.c_types.specs.Outlines.{outline_of, is_void_outline}
use Rattle.c_types.specs.Table.{pointed_at}
use Rattle.space_rules.specs.Outlines.{becomes}
use Rattle.space_rules.specs.Targets.{of_both_targets}

-- it is void
pub is_void_told : (type_ : TypeTree) → is_void_outline (outline_of type_) ≡ is_void type_
is_void_told (Typed VoidTree _ _) = refl
is_void_told (Typed (IntegerTree kind) _ _) = refl
is_void_told (Typed (RestrictedTree kind identity) _ _) = refl
is_void_told (Typed (PointerTree target) _ _) = refl
is_void_told (Typed (ArrayTree element length) _ _) = refl
is_void_told (Typed (FunctionTree result parameters variadic) _ _) = refl
is_void_told (Typed (AggregateTree number is_union) _ _) = refl

-- by the bases of both
conversion_of_bases_told : (from : Operand) (null : Bool) (to : TypeTree) (qualifiers others : Qualifiers) (flags marks : Flags) (base target : BaseTree)
    → becomes from null to (outline_of (Typed base qualifiers flags)) (outline_of (Typed target others marks)) ≡ answer_of_bases from null to base target
conversion_of_bases_told from null to qualifiers others flags marks base target = told base target
  where
    told : (base target : BaseTree) → becomes from null to (outline_of (Typed base qualifiers flags)) (outline_of (Typed target others marks)) ≡ answer_of_bases from null to base target
    told VoidTree target = refl
    told (IntegerTree kind) VoidTree = refl
    told (IntegerTree kind) (IntegerTree other) = refl
    told (IntegerTree kind) (RestrictedTree other another) = refl
    told (IntegerTree kind) (PointerTree to_target) = refl
    told (IntegerTree kind) (ArrayTree part count) = refl
    told (IntegerTree kind) (FunctionTree answer others more) = refl
    told (IntegerTree kind) (AggregateTree another is_other_union) = refl
    told (RestrictedTree kind identity) VoidTree = refl
    told (RestrictedTree kind identity) (IntegerTree other) = refl
    told (RestrictedTree kind identity) (RestrictedTree other another) = refl
    told (RestrictedTree kind identity) (PointerTree to_target) = refl
    told (RestrictedTree kind identity) (ArrayTree part count) = refl
    told (RestrictedTree kind identity) (FunctionTree answer others more) = refl
    told (RestrictedTree kind identity) (AggregateTree another is_other_union) = refl
    told (PointerTree from_target) VoidTree = refl
    told (PointerTree from_target) (IntegerTree other) = refl
    told (PointerTree from_target) (RestrictedTree other another) = refl
    told (PointerTree from_target) (PointerTree to_target) = refl
    told (PointerTree from_target) (ArrayTree part count) = refl
    told (PointerTree from_target) (FunctionTree answer others more) = refl
    told (PointerTree from_target) (AggregateTree another is_other_union) = refl
    told (ArrayTree element length) target = refl
    told (FunctionTree result parameters variadic) target = refl
    told (AggregateTree number is_union) VoidTree = refl
    told (AggregateTree number is_union) (IntegerTree other) = refl
    told (AggregateTree number is_union) (RestrictedTree other another) = refl
    told (AggregateTree number is_union) (PointerTree to_target) = refl
    told (AggregateTree number is_union) (ArrayTree part count) = refl
    told (AggregateTree number is_union) (FunctionTree answer others more) = refl
    told (AggregateTree number is_union) (AggregateTree another is_other_union) = refl

-- a conversion
pub conversion_told : (from : Operand) (null : Bool) (to : TypeTree) → becomes from null to (outline_of from.of) (outline_of to) ≡ conversion_answer from null to
conversion_told from null (Typed target others marks) = of from.of
  where
    of : (type_ : TypeTree) → becomes from null (Typed target others marks) (outline_of type_) (outline_of (Typed target others marks)) ≡ answer_of_bases from null (Typed target others marks) (base_in type_) target
    of (Typed base qualifiers flags) = conversion_of_bases_told from null (Typed target others marks) qualifiers others flags marks base target

-- Pointers by their targets

module _ (test : TypeTree → TypeTree → Bool) where
  pub of_both_targets_told : (type_ other : TypeTree) → of_both_targets test (pointed_at type_) (pointed_at other) ≡ of_targets test type_ other
  of_both_targets_told (Typed VoidTree _ _) other = refl
  of_both_targets_told (Typed (IntegerTree kind) _ _) other = refl
  of_both_targets_told (Typed (RestrictedTree kind identity) _ _) other = refl
  of_both_targets_told (Typed (PointerTree target) _ _) (Typed VoidTree _ _) = refl
  of_both_targets_told (Typed (PointerTree target) _ _) (Typed (IntegerTree kind) _ _) = refl
  of_both_targets_told (Typed (PointerTree target) _ _) (Typed (RestrictedTree kind identity) _ _) = refl
  of_both_targets_told (Typed (PointerTree target) _ _) (Typed (PointerTree another) _ _) = refl
  of_both_targets_told (Typed (PointerTree target) _ _) (Typed (ArrayTree element length) _ _) = refl
  of_both_targets_told (Typed (PointerTree target) _ _) (Typed (FunctionTree result parameters variadic) _ _) = refl
  of_both_targets_told (Typed (PointerTree target) _ _) (Typed (AggregateTree number is_union) _ _) = refl
  of_both_targets_told (Typed (ArrayTree element length) _ _) other = refl
  of_both_targets_told (Typed (FunctionTree result parameters variadic) _ _) other = refl
  of_both_targets_told (Typed (AggregateTree number is_union) _ _) other = refl

pub mix_spaces_told : (type_ other : TypeTree) → of_both_targets targets_mix_spaces (pointed_at type_) (pointed_at other) ≡ mix_spaces type_ other
mix_spaces_told type_ other = of_both_targets_told targets_mix_spaces type_ other

pub have_other_targets_told : (type_ other : TypeTree) → of_both_targets are_other_targets (pointed_at type_) (pointed_at other) ≡ have_other_targets type_ other
have_other_targets_told type_ other = of_both_targets_told are_other_targets type_ other
