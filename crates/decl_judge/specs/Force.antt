-- Where `force` stands.
use Rattle.std.specs.Prelude.{ℕ, Bool, List}
use Rattle.std.specs.List.{flat_map, list_any}
use Rattle.meaning_typing.specs.Casts.{is_force}
use Rattle.meaning_typing.specs.Specifiers.{attributes_among}
use Rattle.meaning_typing.specs.Units.{UnitNodes, children_at, kind_at}

-- among attributes
abbrev pub has_force : UnitNodes → (attributes : List ℕ) → Bool
has_force nodes attributes = list_any (λ attribute. is_force (kind_at nodes attribute)) attributes

-- the attributes in the parts of a declarator
abbrev pub attributes_of_parts : UnitNodes → (parts : List ℕ) → List ℕ
attributes_of_parts nodes parts = flat_map (λ part. attributes_among nodes (children_at nodes part)) parts
