-- What is asked of a type is told by its outermost level.
use Rattle.std.proofs.Common.{◌≡◌, ℕ, false, List, Option, Some, None, is_some, Result, Ok, Err, if◌then◌else◌, refl}
use Rattle.meaning_types.specs.Spaces.{is_void}
use Rattle.meaning_types.specs.Types.{TypeTree, TypeTrees, Typed, VoidTree, IntegerTree, RestrictedTree, PointerTree, ArrayTree, FunctionTree, AggregateTree, decayed, value_type}
use Rattle.meaning_layout.specs.Layouts as layouts
use Rattle.meaning_layout.specs.Sizes as sizes
use Rattle.meaning_operands.specs.Operands.{is_integer}
use Rattle.meaning_constants.specs.Nodes.{loaded_type}
use Rattle.meaning_typing.specs.DeclarationRows.{is_bad_result}
use Rattle.meaning_typing.specs.Declarators.{is_too_large}
use Rattle.meaning_typing.specs.Expressions.{is_array}
use Rattle.meaning_typing.specs.Facts.{ExpressionFact, decays, type_of_value}
use Rattle.meaning_typing.specs.MemberRows.{is_unbounded}
use Rattle.body_layout.specs.declared.union.Extent.{Extent}
use Rattle.c_types.specs.declared.layouts.LayoutFault.{LayoutFault}
use Rattle.c_types.specs.declared.layouts.LayoutFault.TheVariants as faults
use Rattle.c_types.specs.declared.shapes.OuterBase.TheVariants as outers
use Rattle.c_types.specs.declared.shapes.OuterShape.{OuterShape}
use Rattle.c_types.specs.Layouts.{extent_seen}
use Rattle.c_types.specs.Outlines.{outline_of}
use Rattle.c_types.specs.Table.{integer_kind, type_of_outer}
use Rattle.declaration_rows.specs.Parts.{is_bad_outline, is_large_fault}
use Rattle.declaration_rows.specs.Types.{is_unbounded_base}

-- Types

pub integer_told : (type_ : TypeTree) → is_some (integer_kind type_) ≡ is_integer type_
integer_told (Typed VoidTree _ _) = refl
integer_told (Typed (IntegerTree kind) _ _) = refl
integer_told (Typed (RestrictedTree kind identity) _ _) = refl
integer_told (Typed (PointerTree target) _ _) = refl
integer_told (Typed (ArrayTree element length) _ _) = refl
integer_told (Typed (FunctionTree result parameters variadic) _ _) = refl
integer_told (Typed (AggregateTree number is_union) _ _) = refl

pub bad_result_told : (type_ : TypeTree) → is_bad_outline (outline_of type_) ≡ is_bad_result type_
bad_result_told (Typed VoidTree _ _) = refl
bad_result_told (Typed (IntegerTree kind) _ _) = refl
bad_result_told (Typed (RestrictedTree kind identity) _ _) = refl
bad_result_told (Typed (PointerTree target) _ _) = refl
bad_result_told (Typed (ArrayTree element length) _ _) = refl
bad_result_told (Typed (FunctionTree result parameters variadic) _ _) = refl
bad_result_told (Typed (AggregateTree number is_union) _ _) = refl

pub bounded_unless : (type_ : TypeTree) → is_array type_ ≡ false → is_unbounded type_ ≡ false
bounded_unless (Typed VoidTree _ _) not_array = refl
bounded_unless (Typed (IntegerTree kind) _ _) not_array = refl
bounded_unless (Typed (RestrictedTree kind identity) _ _) not_array = refl
bounded_unless (Typed (PointerTree target) _ _) not_array = refl
bounded_unless (Typed (ArrayTree element length) _ _) not_array = cc
bounded_unless (Typed (FunctionTree result parameters variadic) _ _) not_array = refl
bounded_unless (Typed (AggregateTree number is_union) _ _) not_array = refl

pub unbounded_told : (types : List TypeTree) (parameters : TypeTrees) (shape : OuterShape)
    → is_unbounded_base shape.base ≡ is_unbounded (type_of_outer types parameters shape)
unbounded_told types parameters shape = by shape.base
  where
    by : (base : _) → is_unbounded_base base ≡ is_unbounded (type_of_outer types parameters (record shape { base = base }))
    by outers.Void = refl
    by (outers.Integer kind None) = refl
    by (outers.Integer kind (Some identity)) = refl
    by (outers.Pointer target) = refl
    by (outers.Array element None) = refl
    by (outers.Array element (Some length)) = refl
    by (outers.Function result count variadic) = refl
    by (outers.Aggregate number is_union) = refl

pub large_told : (found : Result Extent LayoutFault) (extent : Result sizes.Extent layouts.LayoutFault) → extent_seen found ≡ extent
    → is_large_fault found ≡ is_too_large extent
large_told (Ok size) (Ok extent) same = refl
large_told (Ok size) (Err fault) same = cc
large_told (Err faults.Incomplete) (Ok extent) same = cc
large_told (Err faults.TooLarge) (Ok extent) same = cc
large_told (Err faults.Incomplete) (Err layouts.Incomplete) same = refl
large_told (Err faults.Incomplete) (Err layouts.TooLarge) same = cc
large_told (Err faults.TooLarge) (Err layouts.Incomplete) same = cc
large_told (Err faults.TooLarge) (Err layouts.TooLarge) same = refl

-- Values: neither an array nor a function is an integer or void, nor is the pointer that becomes of it

integer_by : (width : Option ℕ) (type_ : TypeTree)
    → is_some (integer_kind type_) ≡ is_integer (if decays type_ then decayed type_ else value_type (loaded_type width type_))
integer_by None (Typed VoidTree _ _) = refl
integer_by None (Typed (IntegerTree kind) _ _) = refl
integer_by None (Typed (RestrictedTree kind identity) _ _) = refl
integer_by None (Typed (PointerTree target) _ _) = refl
integer_by None (Typed (ArrayTree element length) _ _) = refl
integer_by None (Typed (FunctionTree result parameters variadic) _ _) = refl
integer_by None (Typed (AggregateTree number is_union) _ _) = refl
integer_by (Some width) (Typed VoidTree _ _) = refl
integer_by (Some width) (Typed (IntegerTree kind) _ _) = refl
integer_by (Some width) (Typed (RestrictedTree kind identity) _ _) = refl
integer_by (Some width) (Typed (PointerTree target) _ _) = refl
integer_by (Some width) (Typed (ArrayTree element length) _ _) = refl
integer_by (Some width) (Typed (FunctionTree result parameters variadic) _ _) = refl
integer_by (Some width) (Typed (AggregateTree number is_union) _ _) = refl

pub integer_value_told : (expression : ExpressionFact) → is_some (integer_kind expression.type_) ≡ is_integer (type_of_value expression)
integer_value_told expression = integer_by expression.width expression.type_

void_by : (width : Option ℕ) (type_ : TypeTree) → is_void type_ ≡ is_void (if decays type_ then decayed type_ else value_type (loaded_type width type_))
void_by None (Typed VoidTree _ _) = refl
void_by None (Typed (IntegerTree kind) _ _) = refl
void_by None (Typed (RestrictedTree kind identity) _ _) = refl
void_by None (Typed (PointerTree target) _ _) = refl
void_by None (Typed (ArrayTree element length) _ _) = refl
void_by None (Typed (FunctionTree result parameters variadic) _ _) = refl
void_by None (Typed (AggregateTree number is_union) _ _) = refl
void_by (Some width) (Typed VoidTree _ _) = refl
void_by (Some width) (Typed (IntegerTree kind) _ _) = refl
void_by (Some width) (Typed (RestrictedTree kind identity) _ _) = refl
void_by (Some width) (Typed (PointerTree target) _ _) = refl
void_by (Some width) (Typed (ArrayTree element length) _ _) = refl
void_by (Some width) (Typed (FunctionTree result parameters variadic) _ _) = refl
void_by (Some width) (Typed (AggregateTree number is_union) _ _) = refl

pub void_value_told : (expression : ExpressionFact) → is_void expression.type_ ≡ is_void (type_of_value expression)
void_value_told expression = void_by expression.width expression.type_
