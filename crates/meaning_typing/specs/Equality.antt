-- When two types are equal, qualifiers and flags at every level with them.
use Rattle.std.specs.Prelude.{Bool, true, false, ◌&&◌, nat_eq}
use Rattle.meaning_types.specs.Types.{Qualifiers, TypeTree, Typed, BaseTree, VoidTree, IntegerTree, RestrictedTree, PointerTree, ArrayTree, FunctionTree, AggregateTree, TypeTrees, NoTypes, MoreTypes}
use Rattle.meaning_types.specs.Equality.{are_equal_kinds, are_equal_flags, are_equal_bools, are_equal_lengths}

abbrev pub are_equal_qualifiers : Qualifiers → Qualifiers → Bool
are_equal_qualifiers one other = are_equal_bools one.is_const other.is_const && are_equal_bools one.is_volatile other.is_volatile

abbrev mutual
  pub are_equal_types : TypeTree → TypeTree → Bool
  are_equal_types (Typed base qualifiers flags) (Typed other others marks) =
      are_equal_qualifiers qualifiers others && (are_equal_flags flags marks && are_equal_bases base other)

  pub are_equal_bases : BaseTree → BaseTree → Bool
  are_equal_bases VoidTree VoidTree = true
  are_equal_bases (IntegerTree kind) (IntegerTree other) = are_equal_kinds kind other
  are_equal_bases (RestrictedTree kind identity) (RestrictedTree other another) = are_equal_kinds kind other && nat_eq identity another
  are_equal_bases (PointerTree target) (PointerTree other) = are_equal_types target other
  are_equal_bases (ArrayTree element length) (ArrayTree other another) = are_equal_types element other && are_equal_lengths length another
  are_equal_bases (FunctionTree result parameters variadic) (FunctionTree other others another) =
      are_equal_types result other && (are_equal_lists parameters others && are_equal_bools variadic another)
  are_equal_bases (AggregateTree number is_union) (AggregateTree other another) = nat_eq number other && are_equal_bools is_union another
  are_equal_bases _ _ = false

  pub are_equal_lists : TypeTrees → TypeTrees → Bool
  are_equal_lists NoTypes NoTypes = true
  are_equal_lists (MoreTypes type_ types) (MoreTypes other others) = are_equal_types type_ other && are_equal_lists types others
  are_equal_lists _ _ = false
