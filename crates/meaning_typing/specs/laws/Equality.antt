-- What holds of the test of types.
use Rattle.std.specs.Prelude.{◌≡◌, ◌↔◌, true}
use Rattle.meaning_types.specs.Types.{TypeTree}
use Rattle.meaning_typing.specs.Equality.{are_equal_types}

-- types pass where they are equal, and nowhere else
abbrev pub EqualTypesPass : Type 0
EqualTypesPass = (type_ other : TypeTree) → (are_equal_types type_ other ≡ true) ↔ (type_ ≡ other)
