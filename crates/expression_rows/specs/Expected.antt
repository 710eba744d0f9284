-- `__builtin_expect`, whose operands become values of this type.
use Rattle.std.specs.Prelude.{ℕ}
use Rattle.meaning_types.specs.Types.{TypeTree}
use Rattle.meaning_typing.specs.Facts.{Fact, value}
use Rattle.meaning_typing.specs.Rows.{Row, both_converted, gives}
use Rattle.meaning_typing.specs.Expressions.{passed_as}

abbrev pub expected_as : (first second : ℕ) → (left right : Fact) → TypeTree → Row
expected_as first second left right type_ =
    gives (value type_) (both_converted (passed_as 1 first left type_) (passed_as 2 second right type_)).broken
    (both_converted (passed_as 1 first left type_) (passed_as 2 second right type_)).failures
