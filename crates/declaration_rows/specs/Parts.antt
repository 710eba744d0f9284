-- Parts of declarators, one by one, and the tokens that they pass.
use Rattle.std.specs.Prelude.{ℕ, Bool, true, false, ◌&&◌, List, [], ◌∷◌, Option, Some, None, Result, Ok, Err, if◌then◌else◌}
use Rattle.meaning_types.specs.Types.{TypeTree}
use Rattle.meaning_layout.specs.Sizes.{Told}
use Rattle.meaning_rules.specs.Rules.{lower}
use Rattle.meaning_typing.specs.DeclarationRows.{is_large_type}
use Rattle.meaning_typing.specs.Declarators.{is_array_part}
use Rattle.meaning_typing.specs.Units.{UnitNodes, kind_at, node_at}
use Rattle.body_layout.specs.declared.union.Extent.{Extent}
use Rattle.c_types.specs.declared.layouts.LayoutFault.{LayoutFault}
use Rattle.c_types.specs.declared.layouts.LayoutFault.TheVariants as faults
use Rattle.c_types.specs.declared.outline.Outline.{Outline}
use Rattle.c_types.specs.declared.outline.Outline.TheVariants as outlines

-- no function has such a result
abbrev pub is_bad_outline : Outline → Bool
is_bad_outline outlines.Array = true
is_bad_outline outlines.Function = true
is_bad_outline outline = false

-- a size is missing since it would be too large
abbrev pub is_large_fault : Result Extent LayoutFault → Bool
is_large_fault (Ok extent) = false
is_large_fault (Err faults.Incomplete) = false
is_large_fault (Err faults.TooLarge) = true

-- the token of a part that makes this type, if that is an array that is too large
abbrev pub large_at : Told → UnitNodes → (part : ℕ) → Option TypeTree → List ℕ
large_at told nodes part made = if is_array_part (kind_at nodes part) && is_large_type told made then (node_at nodes part).token ∷ [] else []

-- the lower of two tokens that there may be
abbrev pub lowest : Option ℕ → Option ℕ → Option ℕ
lowest None other = other
lowest (Some token) other = Some (lower token other)
