-- What operators and conversions ask of a type is told by what it is, and the number of a constant by what is kept of it.
use Rattle.std.proofs.Common.{◌≡◌, ℕ, ◌||◌, Option, Some, None, is_some, refl, ap, ◌∙◌}
use Rattle.sparse_model.specs.declared.ids.Restrict.{Restrict}
use Rattle.vocabulary.specs.declared.int_kind.IntKind.{IntKind}
use Rattle.meaning_types.specs.Types.{TypeTree, Typed, VoidTree, IntegerTree, RestrictedTree, PointerTree, ArrayTree, FunctionTree, AggregateTree}
use Rattle.meaning_types.specs.Spaces.{is_void}
use Rattle.meaning_operands.specs.Operands.{identity_of, is_restricted}
use Rattle.node_facts.specs.Constants.{kind_of}
use Rattle.meaning_typing.specs.Facts.{decays, is_plain_integer}
use Rattle.meaning_typing.specs.Declarators.{is_function}
use Rattle.meaning_typing.specs.Expressions.{is_array}
use Rattle.c_types.specs.Operands.{identity_seen}
use Rattle.c_types.specs.Outlines.{outline_of, is_void_outline}
use Rattle.node_facts.specs.Known.{number_with}
use Rattle.node_facts.specs.Facts.{number_in}
use Rattle.expression_rows.specs.Outlines.{is_array_outline, is_function_outline, is_integer_outline}

pub is_void_told : (type_ : TypeTree) → is_void_outline (outline_of type_) ≡ is_void type_
is_void_told (Typed VoidTree _ _) = refl
is_void_told (Typed (IntegerTree kind) _ _) = refl
is_void_told (Typed (RestrictedTree kind identity) _ _) = refl
is_void_told (Typed (PointerTree target) _ _) = refl
is_void_told (Typed (ArrayTree element length) _ _) = refl
is_void_told (Typed (FunctionTree result parameters variadic) _ _) = refl
is_void_told (Typed (AggregateTree number is_union) _ _) = refl

pub is_array_told : (type_ : TypeTree) → is_array_outline (outline_of type_) ≡ is_array type_
is_array_told (Typed VoidTree _ _) = refl
is_array_told (Typed (IntegerTree kind) _ _) = refl
is_array_told (Typed (RestrictedTree kind identity) _ _) = refl
is_array_told (Typed (PointerTree target) _ _) = refl
is_array_told (Typed (ArrayTree element length) _ _) = refl
is_array_told (Typed (FunctionTree result parameters variadic) _ _) = refl
is_array_told (Typed (AggregateTree number is_union) _ _) = refl

pub is_plain_integer_told : (type_ : TypeTree) → is_integer_outline (outline_of type_) ≡ is_plain_integer type_
is_plain_integer_told (Typed VoidTree _ _) = refl
is_plain_integer_told (Typed (IntegerTree kind) _ _) = refl
is_plain_integer_told (Typed (RestrictedTree kind identity) _ _) = refl
is_plain_integer_told (Typed (PointerTree target) _ _) = refl
is_plain_integer_told (Typed (ArrayTree element length) _ _) = refl
is_plain_integer_told (Typed (FunctionTree result parameters variadic) _ _) = refl
is_plain_integer_told (Typed (AggregateTree number is_union) _ _) = refl

pub is_function_told : (type_ : TypeTree) → is_function_outline (outline_of type_) ≡ is_function type_
is_function_told (Typed VoidTree _ _) = refl
is_function_told (Typed (IntegerTree kind) _ _) = refl
is_function_told (Typed (RestrictedTree kind identity) _ _) = refl
is_function_told (Typed (PointerTree target) _ _) = refl
is_function_told (Typed (ArrayTree element length) _ _) = refl
is_function_told (Typed (FunctionTree result parameters variadic) _ _) = refl
is_function_told (Typed (AggregateTree number is_union) _ _) = refl

pub decays_told : (type_ : TypeTree) → (is_array_outline (outline_of type_) || is_function_outline (outline_of type_)) ≡ decays type_
decays_told (Typed VoidTree _ _) = refl
decays_told (Typed (IntegerTree kind) _ _) = refl
decays_told (Typed (RestrictedTree kind identity) _ _) = refl
decays_told (Typed (PointerTree target) _ _) = refl
decays_told (Typed (ArrayTree element length) _ _) = refl
decays_told (Typed (FunctionTree result parameters variadic) _ _) = refl
decays_told (Typed (AggregateTree number is_union) _ _) = refl

-- an identity as it is kept
identity_some : (kept : Option Restrict) → is_some kept ≡ is_some (identity_seen kept)
identity_some None = refl
identity_some (Some restrict) = refl

pub is_restricted_told : (kept : Option Restrict) (type_ : TypeTree) → identity_seen kept ≡ identity_of type_ → is_some kept ≡ is_restricted type_
is_restricted_told kept type_ is = identity_some kept ∙ ap is_some is

number_with_none : (kind : Option IntKind) → number_with kind None ≡ None
number_with_none None = refl
number_with_none (Some kind) = refl

pub number_told : (type_ : TypeTree) (bits : Option ℕ) → number_with (kind_of type_) bits ≡ number_in type_ bits
number_told type_ None = number_with_none (kind_of type_)
number_told type_ (Some bits) = refl
