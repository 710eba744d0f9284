-- What casts ask of types is told by their outermost levels.
use Rattle.std.proofs.Common.{◌≡◌, ℕ, Bool, true, false, ◌&&◌, ◌||◌, not, refl, ap}
use Rattle.vocabulary.specs.declared.int_kind.IntKind.{IntKind}
use Rattle.vocabulary.specs.declared.int_kind.IntKind.TheVariants as integers
use Rattle.meaning_types.specs.Types.{Space, NoSpace, NumberedSpace, NamedSpace, Qualifiers, Flags, TypeTree, Typed, VoidTree, IntegerTree, RestrictedTree, PointerTree, ArrayTree, FunctionTree, AggregateTree, flags_of, has_flag, is_space, value_type}
use Rattle.meaning_types.specs.Spaces.{is_void}
use Rattle.meaning_typing.specs.Casts.{cast_of, is_void_pointer, keeps_address, scalar_cast, space_behind}
use Rattle.meaning_typing.specs.Declarators.{is_plain_void}
use Rattle.meaning_typing.specs.Facts.{ExpressionFact}
use Rattle.meaning_typing.specs.Operators.{ValueSort, VoidSort, IntegerSort, PointerSort, OtherSort, sort_of, value_sort}
use Rattle.meaning_typing.specs.Rows.{Row}
use Rattle.c_types.specs.Outlines.{outline_of}
use Rattle.c_types.specs.Table.{pointed_at}
use Rattle.expression_rows.specs.Casts.{as_loaded, is_bare_level, is_unsigned_long, is_unsigned_long_outline, of_type, space_in}
use Rattle.expression_rows.specs.Sorts.{target_if}

-- Spaces

differs : (space : Space) → true ≡ false → NoSpace ≡ space
differs space never = absurd (cc never)

pub no_space : (flags : Flags) → has_flag flags ≡ false → NoSpace ≡ flags.space
no_space flags none = by flags.noderef flags.space none
  where
    by : (noderef : Bool) (space : Space) → (noderef || is_space space) ≡ false → NoSpace ≡ space
    by true space none = differs space none
    by false NoSpace none = refl
    by false (NumberedSpace number) none = differs (NumberedSpace number) none
    by false (NamedSpace name) none = differs (NamedSpace name) none

pub space_behind_told : (type_ : TypeTree) → space_in (pointed_at type_) ≡ space_behind type_
space_behind_told (Typed VoidTree _ _) = refl
space_behind_told (Typed (IntegerTree kind) _ _) = refl
space_behind_told (Typed (RestrictedTree kind identity) _ _) = refl
space_behind_told (Typed (PointerTree target) _ _) = refl
space_behind_told (Typed (ArrayTree element length) _ _) = refl
space_behind_told (Typed (FunctionTree result parameters variadic) _ _) = refl
space_behind_told (Typed (AggregateTree number is_union) _ _) = refl

unsigned_long_told : (kind : IntKind) (qualifiers : Qualifiers) (flags : Flags) → is_unsigned_long kind ≡ keeps_address (Typed (IntegerTree kind) qualifiers flags)
unsigned_long_told integers.Bool _ _ = refl
unsigned_long_told integers.Char _ _ = refl
unsigned_long_told integers.SChar _ _ = refl
unsigned_long_told integers.UChar _ _ = refl
unsigned_long_told integers.Short _ _ = refl
unsigned_long_told integers.UShort _ _ = refl
unsigned_long_told integers.Int _ _ = refl
unsigned_long_told integers.UInt _ _ = refl
unsigned_long_told integers.Long _ _ = refl
unsigned_long_told integers.ULong _ _ = refl
unsigned_long_told integers.LLong _ _ = refl
unsigned_long_told integers.ULLong _ _ = refl

pub keeps_address_told : (type_ : TypeTree) → is_unsigned_long_outline (outline_of type_) ≡ keeps_address type_
keeps_address_told (Typed VoidTree _ _) = refl
keeps_address_told (Typed (IntegerTree kind) qualifiers flags) = unsigned_long_told kind qualifiers flags
keeps_address_told (Typed (RestrictedTree kind identity) _ _) = refl
keeps_address_told (Typed (PointerTree target) _ _) = refl
keeps_address_told (Typed (ArrayTree element length) _ _) = refl
keeps_address_told (Typed (FunctionTree result parameters variadic) _ _) = refl
keeps_address_told (Typed (AggregateTree number is_union) _ _) = refl

-- `void *`

neither : (first second : Bool) → (not first && not second) ≡ not (first || second)
neither true second = refl
neither false second = refl

pub plain_void_told : (type_ : TypeTree) → (is_void type_ && is_bare_level type_ && not (has_flag (flags_of type_))) ≡ is_plain_void type_
plain_void_told (Typed VoidTree qualifiers flags) = ap (λ test. test && not (has_flag flags)) (neither qualifiers.is_const qualifiers.is_volatile)
plain_void_told (Typed (IntegerTree kind) _ _) = refl
plain_void_told (Typed (RestrictedTree kind identity) _ _) = refl
plain_void_told (Typed (PointerTree target) _ _) = refl
plain_void_told (Typed (ArrayTree element length) _ _) = refl
plain_void_told (Typed (FunctionTree result parameters variadic) _ _) = refl
plain_void_told (Typed (AggregateTree number is_union) _ _) = refl

pub void_pointer_told : (type_ : TypeTree)
    → (target_if is_plain_void (pointed_at type_) && is_bare_level type_ && not (has_flag (flags_of type_))) ≡ is_void_pointer type_
void_pointer_told (Typed VoidTree _ _) = refl
void_pointer_told (Typed (IntegerTree kind) _ _) = refl
void_pointer_told (Typed (RestrictedTree kind identity) _ _) = refl
void_pointer_told (Typed (PointerTree target) _ _) = refl
void_pointer_told (Typed (ArrayTree element length) _ _) = refl
void_pointer_told (Typed (FunctionTree result parameters variadic) _ _) = refl
void_pointer_told (Typed (AggregateTree number is_union) _ _) = refl

-- The type that is given

module _ (token : ℕ) (forced : Bool) (expression : ExpressionFact) where
  -- a scalar type gives what is loaded of a place of it
  abbrev as_value : Row → TypeTree → Row
  as_value row to = record row { fact = of_type (value_type to) row.fact }

  scalar_told : (to : TypeTree) (from target : ValueSort)
      → as_value (scalar_cast token forced to expression from target) to ≡ scalar_cast token forced to expression from target
  scalar_told to VoidSort target = refl
  scalar_told to (IntegerSort kind) target = refl
  scalar_told to PointerSort target = refl
  scalar_told to OtherSort target = refl

  pub cast_told : (to : TypeTree) → as_loaded to (cast_of token forced to expression (sort_of to)) ≡ cast_of token forced to expression (sort_of to)
  cast_told (Typed VoidTree _ _) = refl
  cast_told (Typed (IntegerTree kind) qualifiers flags) = scalar_told (Typed (IntegerTree kind) qualifiers flags) (value_sort expression) (IntegerSort kind)
  cast_told (Typed (RestrictedTree kind identity) qualifiers flags) =
      scalar_told (Typed (RestrictedTree kind identity) qualifiers flags) (value_sort expression) (IntegerSort kind)
  cast_told (Typed (PointerTree target) qualifiers flags) = scalar_told (Typed (PointerTree target) qualifiers flags) (value_sort expression) PointerSort
  cast_told (Typed (ArrayTree element length) _ _) = refl
  cast_told (Typed (FunctionTree result parameters variadic) _ _) = refl
  cast_told (Typed (AggregateTree number is_union) _ _) = refl
