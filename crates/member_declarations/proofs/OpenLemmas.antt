-- Whether a type is a flexible array is told by its outermost level.
use Rattle.std.proofs.Common.{◌≡◌, ◌<◌, Bool, false, not, List, length, Option, Some, None, refl, subst}
use Rattle.std.proofs.lemmas.Option.{same_Some}
use Rattle.sparse_model.specs.declared.ids.TypeId.{TypeId}
use Rattle.meaning_layout.specs.Sizes.{Told}
use Rattle.meaning_types.specs.Types.{TypeTree, TypeTrees, Typed, VoidTree, IntegerTree, RestrictedTree, PointerTree, ArrayTree, FunctionTree, AggregateTree}
use Rattle.meaning_typing.specs.Expressions.{is_array}
use Rattle.meaning_typing.specs.MemberRows.{is_flexible, is_no_object}
use Rattle.c_types.specs.declared.shapes.OuterBase.{OuterBase}
use Rattle.c_types.specs.declared.shapes.OuterBase.TheVariants as outers
use Rattle.c_types.specs.declared.shapes.OuterShape.{OuterShape}
use Rattle.c_types.specs.Rows.{type_numbered}
use Rattle.c_types.specs.Table.{IsOuterOver, type_of_outer}
use Rattle.member_declarations.specs.OpenArrays.{open_element}

pub no_array_flexible : (told : Told) (type_ : TypeTree) → is_array type_ ≡ false → is_flexible told type_ ≡ false
no_array_flexible told (Typed VoidTree _ _) not_array = refl
no_array_flexible told (Typed (IntegerTree kind) _ _) not_array = refl
no_array_flexible told (Typed (RestrictedTree kind identity) _ _) not_array = refl
no_array_flexible told (Typed (PointerTree target) _ _) not_array = refl
no_array_flexible told (Typed (ArrayTree element length) _ _) not_array = cc
no_array_flexible told (Typed (FunctionTree result parameters variadic) _ _) not_array = refl
no_array_flexible told (Typed (AggregateTree number is_union) _ _) not_array = refl

abbrev pub by_element : Told → List TypeTree → Option TypeId → Bool
by_element told types None = false
by_element told types (Some element) = not (is_no_object told (type_numbered types element.0))

pub flexible_told : (told : Told) (types : List TypeTree) (parameters : TypeTrees) (shape : OuterShape)
    → is_flexible told (type_of_outer types parameters shape) ≡ by_element told types (open_element shape.base)
flexible_told told types parameters shape = by shape.base
  where
    by : (base : _) → is_flexible told (type_of_outer types parameters (record shape { base = base })) ≡ by_element told types (open_element base)
    by outers.Void = refl
    by (outers.Integer kind None) = refl
    by (outers.Integer kind (Some identity)) = refl
    by (outers.Pointer target) = refl
    by (outers.Array element None) = refl
    by (outers.Array element (Some length)) = refl
    by (outers.Function result count variadic) = refl
    by (outers.Aggregate number is_union) = refl

pub element_known : (types : List TypeTree) (base : OuterBase) (element : TypeId) → open_element base ≡ Some element → IsOuterOver types base
    → element.0 < length types
element_known types (outers.Array other None) element is known = subst (λ (id : TypeId). id.0 < length types) (same_Some other element is) known
element_known types base element is known = cc
