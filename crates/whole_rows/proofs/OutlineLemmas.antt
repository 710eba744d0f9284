-- Whether an aggregate has a const member is told by what its type is.
use Rattle.std.proofs.Common.{◌≡◌, ℕ, Bool, refl}
use Rattle.meaning_types.specs.Types.{TypeTree, Typed, VoidTree, IntegerTree, RestrictedTree, PointerTree, ArrayTree, FunctionTree, AggregateTree}
use Rattle.c_types.specs.Outlines.{outline_of}
use Rattle.whole_rows.specs.Stores.{has_const_in, has_const_member}

module _ (has_const : ℕ → Bool) where
  pub const_member_told : (type_ : TypeTree) → has_const_in has_const (outline_of type_) ≡ has_const_member has_const type_
  const_member_told (Typed VoidTree _ _) = refl
  const_member_told (Typed (IntegerTree kind) _ _) = refl
  const_member_told (Typed (RestrictedTree kind identity) _ _) = refl
  const_member_told (Typed (PointerTree target) _ _) = refl
  const_member_told (Typed (ArrayTree element length) _ _) = refl
  const_member_told (Typed (FunctionTree result parameters variadic) _ _) = refl
  const_member_told (Typed (AggregateTree number is_union) _ _) = refl
