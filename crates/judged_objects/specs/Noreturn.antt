-- Where it is said that a function doesn't return.
use Rattle.std.specs.Prelude.{ℕ, Bool, List}
use Rattle.std.specs.List.{list_any}
use Rattle.meaning_typing.specs.Units.{UnitNodes, kind_at}
use Rattle.meaning_objects.specs.Carried.{is_noreturn_attribute, is_noreturn_specifier}

-- among attributes
abbrev pub has_noreturn : UnitNodes → (attributes : List ℕ) → Bool
has_noreturn nodes attributes = list_any (λ handle. is_noreturn_attribute (kind_at nodes handle)) attributes

-- among specifiers
abbrev pub has_specifier : UnitNodes → (specifiers : List ℕ) → Bool
has_specifier nodes specifiers = list_any (λ handle. is_noreturn_specifier (kind_at nodes handle)) specifiers
