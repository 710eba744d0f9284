-- Tests of types that the machine computes.
use Rattle.std.specs.Prelude.{Bool, ◌&&◌, not}
use Rattle.meaning_types.specs.Types.{TypeTree, without_flags}
use Rattle.meaning_types.specs.Equality.{are_same}

-- equal but for const, volatile and flags at every level, and not but for const and volatile alone
abbrev pub differ_in_flags_alone : TypeTree → TypeTree → Bool
differ_in_flags_alone type_ other = are_same (without_flags type_) (without_flags other) && not (are_same type_ other)
