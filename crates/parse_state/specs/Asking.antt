-- What is told of a value that was looked up on a stack, by its id and handles.
use Rattle.std.specs.Prelude.{ℕ, List, length, slice_get, Option, Some, None}
use Rattle.sparse_model.specs.declared.ids.NameId.{NameId}
use Rattle.parse_state.specs.declared.value.Value.{Value}
use Rattle.parse_state.specs.declared.value.Value.TheVariants.{Word, Tree}
use Rattle.parse_state.specs.declared.value.Value.TheVariants as kinds

abbrev pub no_name : NameId
no_name = record { 0 = 0 }

abbrev pub token_in : Option Value → ℕ
token_in (Some (Word token name)) = token
token_in value = 0

abbrev pub name_in : Option Value → NameId
name_in (Some (Word token name)) = name
name_in value = no_name

abbrev pub name_in_at : List Value → Option ℕ → NameId
name_in_at values None = no_name
name_in_at values (Some depth) = name_in (slice_get values depth)

abbrev pub handle_in : Option Value → Option ℕ
handle_in (Some (Tree handle)) = Some handle
handle_in value = None

abbrev pub count_in : Option Value → ℕ
count_in (Some (kinds.List children)) = length children
count_in value = 0

abbrev pub list_in : Option Value → Option (List (ℕ × ℕ))
list_in (Some (kinds.List children)) = Some children
list_in value = None
