-- The initializer behind a declarator, among the children from a place on.
use Rattle.std.specs.Prelude.{ℕ, List, drop, if◌then◌else◌}
use Rattle.vocabulary.specs.declared.node_kind.NodeKind.{NodeKind}
use Rattle.meaning_typing.specs.DeclarationRows.{is_initializer}
use Rattle.meaning_typing.specs.Names.{first_initializer}
use Rattle.meaning_typing.specs.Units.{UnitNodes}
use Rattle.decl_judge.specs.Units.{handles_of}

abbrev pub initializer_or : NodeKind → (handle otherwise : ℕ) → ℕ
initializer_or kind handle otherwise = if is_initializer kind then handle else otherwise

-- the first one from this place on that lists of attributes alone stand before
abbrev pub first_from : UnitNodes → (otherwise : ℕ) → List (ℕ × ℕ) → (place : ℕ) → ℕ
first_from nodes otherwise children place = first_initializer nodes otherwise (drop place (handles_of children))
