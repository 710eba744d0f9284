-- The only tree of a list, by its handle.
use Rattle.std.specs.Prelude.{ℕ, List, [], ◌∷◌, Option, Some, None}
use Rattle.parse_state.specs.declared.value.Value.{Value}
use Rattle.parse_state.specs.declared.value.Value.TheVariants as kinds

abbrev pub only_child : List (ℕ × ℕ) → Option ℕ
only_child [] = None
only_child (child ∷ []) = Some child.0
only_child (child ∷ other ∷ children) = None

abbrev pub only_in : Option Value → Option ℕ
only_in (Some (kinds.List children)) = only_child children
only_in value = None
