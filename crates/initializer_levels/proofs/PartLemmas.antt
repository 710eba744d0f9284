-- What the type of an object says of its parts.
use Rattle.std.proofs.Common.{◌≡◌, ℕ, Bool, true, false, Option, Some, None, refl, if◌then◌else◌}
use Rattle.meaning_types.specs.Types.{TypeTree, Typed, VoidTree, IntegerTree, RestrictedTree, PointerTree, ArrayTree, FunctionTree, AggregateTree, Qualifiers, Flags}
use Rattle.meaning_initializers.specs.Parts.{bounded}
use Rattle.c_types.specs.Outlines.{outline_of}
use Rattle.initializer_levels.specs.Parts.{Elements, bounded_length, by_outline, parts_in}

pub elements_are : (is_member : Bool) (element : TypeTree) (count : Option ℕ) (qualifiers : Qualifiers) (flags : Flags)
    → Elements element (bounded_length is_member count)
    ≡ parts_in (if is_member then bounded (Typed (ArrayTree element count) qualifiers flags) else Typed (ArrayTree element count) qualifiers flags)
elements_are true element None qualifiers flags = refl
elements_are true element (Some count) qualifiers flags = refl
elements_are false element None qualifiers flags = refl
elements_are false element (Some count) qualifiers flags = refl

pub outline_is_enough : (is_member : Bool) (type_ : TypeTree)
    → by_outline (outline_of type_) (parts_in (if is_member then bounded type_ else type_)) ≡ parts_in (if is_member then bounded type_ else type_)
outline_is_enough true (Typed VoidTree _ _) = refl
outline_is_enough true (Typed (IntegerTree kind) _ _) = refl
outline_is_enough true (Typed (RestrictedTree kind identity) _ _) = refl
outline_is_enough true (Typed (PointerTree target) _ _) = refl
outline_is_enough true (Typed (ArrayTree element None) _ _) = refl
outline_is_enough true (Typed (ArrayTree element (Some count)) _ _) = refl
outline_is_enough true (Typed (FunctionTree result parameters variadic) _ _) = refl
outline_is_enough true (Typed (AggregateTree number is_union) _ _) = refl
outline_is_enough false (Typed VoidTree _ _) = refl
outline_is_enough false (Typed (IntegerTree kind) _ _) = refl
outline_is_enough false (Typed (RestrictedTree kind identity) _ _) = refl
outline_is_enough false (Typed (PointerTree target) _ _) = refl
outline_is_enough false (Typed (ArrayTree element count) _ _) = refl
outline_is_enough false (Typed (FunctionTree result parameters variadic) _ _) = refl
outline_is_enough false (Typed (AggregateTree number is_union) _ _) = refl
