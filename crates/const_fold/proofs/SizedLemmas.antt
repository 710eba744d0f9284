-- What is asked of a place, as it is asked of what is loaded from there.
use Rattle.std.proofs.Common.{◌≡◌, ℕ, Option, Some, None, refl}
use Rattle.meaning_types.specs.Types.{TypeTree, Typed, VoidTree, IntegerTree, RestrictedTree, PointerTree, ArrayTree, FunctionTree, AggregateTree}
use Rattle.c_layout.specs.Sizes.{Told}
use Rattle.meaning_constants.specs.Nodes.{loaded_type}
use Rattle.meaning_constants.specs.Sizes.{asked_align, asked_size}
use Rattle.c_types.specs.Outlines.{outline_of}
use Rattle.const_fold.specs.Sized.{loaded_bytes}

module _ (told : Told) where
  pub size-loaded : (width : Option ℕ) (of : TypeTree) → loaded_bytes width (outline_of of) (asked_size told of) ≡ asked_size told (loaded_type width of)
  size-loaded None of = refl
  size-loaded (Some bits) (Typed VoidTree qualifiers flags) = refl
  size-loaded (Some bits) (Typed (IntegerTree kind) qualifiers flags) = refl
  size-loaded (Some bits) (Typed (RestrictedTree kind identity) qualifiers flags) = refl
  size-loaded (Some bits) (Typed (PointerTree target) qualifiers flags) = refl
  size-loaded (Some bits) (Typed (ArrayTree element size) qualifiers flags) = refl
  size-loaded (Some bits) (Typed (FunctionTree result parameters variadic) qualifiers flags) = refl
  size-loaded (Some bits) (Typed (AggregateTree number is_union) qualifiers flags) = refl

  pub align-loaded : (width : Option ℕ) (of : TypeTree) → loaded_bytes width (outline_of of) (asked_align told of) ≡ asked_align told (loaded_type width of)
  align-loaded None of = refl
  align-loaded (Some bits) (Typed VoidTree qualifiers flags) = refl
  align-loaded (Some bits) (Typed (IntegerTree kind) qualifiers flags) = refl
  align-loaded (Some bits) (Typed (RestrictedTree kind identity) qualifiers flags) = refl
  align-loaded (Some bits) (Typed (PointerTree target) qualifiers flags) = refl
  align-loaded (Some bits) (Typed (ArrayTree element size) qualifiers flags) = refl
  align-loaded (Some bits) (Typed (FunctionTree result parameters variadic) qualifiers flags) = refl
  align-loaded (Some bits) (Typed (AggregateTree number is_union) qualifiers flags) = refl
