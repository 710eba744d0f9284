-- The one type that two declarations give (C11 6.2.7 p3), as far as a length is missing.
use Rattle.std.specs.Prelude.{Option, Some, None, if◌then◌else◌}
use Rattle.meaning_types.specs.Types.{TypeTree, Typed, ArrayTree}
use Rattle.meaning_types.specs.Equality.{are_same}

-- of two arrays, of which one has no length: an array of the first one's element, with the length of the other
abbrev pub completed : TypeTree → TypeTree → Option TypeTree
completed (Typed (ArrayTree element None) qualifiers flags) (Typed (ArrayTree other (Some length)) _ _) =
    if are_same element other then Some (Typed (ArrayTree element (Some length)) qualifiers flags) else None
completed (Typed (ArrayTree element (Some length)) qualifiers flags) (Typed (ArrayTree other None) _ _) =
    if are_same element other then Some (Typed (ArrayTree element (Some length)) qualifiers flags) else None
completed type_ other = None

-- of types that are the same the first; a length may be missing at the outermost level alone
abbrev pub composite : TypeTree → TypeTree → Option TypeTree
composite type_ other = if are_same type_ other then Some type_ else completed type_ other
