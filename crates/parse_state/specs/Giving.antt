-- The children that values give, the deepest value first.
use Rattle.std.specs.Prelude.{ℕ, ◌^◌, Bool, true, nat_lt, List, [], ◌∷◌, ◌++◌, drop}
use Rattle.std.specs.List.{list_all}
use Rattle.vocabulary.specs.Roles.{role_tag}
use Rattle.vocabulary.specs.declared.role.Role.{Role}
use Rattle.vocabulary.specs.declared.role.Role.TheVariants.{Evaluated}
use Rattle.parse_state.specs.declared.value.Value.{Value}
use Rattle.parse_state.specs.declared.value.Value.TheVariants.{Word, Tree}
use Rattle.parse_state.specs.declared.value.Value.TheVariants as kinds
use Rattle.parse_state.specs.declared.shape.Source.{Source}
use Rattle.parse_state.specs.declared.shape.Source.TheVariants.{OneTree}

-- a child of a node before this handle
abbrev pub is_below : (end : ℕ) → ℕ × ℕ → Bool
is_below end child = nat_lt child.0 end

-- the handles of a value are before this one
abbrev pub has_handles_below : (end : ℕ) → Value → Bool
has_handles_below end (Word token name) = true
has_handles_below end (Tree handle) = nat_lt handle end
has_handles_below end (kinds.List children) = list_all (is_below end) children

-- a list of children can hold the handle
abbrev pub is_small : Value → Bool
is_small (Word token name) = true
is_small (Tree handle) = nat_lt handle (2 ^ 30)
is_small (kinds.List children) = true

-- the role of the first source, if it is a tree
abbrev pub first_role : List Source → Role
first_role (OneTree role depth ∷ sources) = role
first_role sources = Evaluated

-- what a value gives
abbrev pub given : Value → List Source → List (ℕ × ℕ)
given (Word token name) sources = []
given (Tree handle) sources = (handle, role_tag (first_role sources)) ∷ []
given (kinds.List children) sources = children

-- the sources of the values behind it
abbrev pub left_behind : Value → List Source → List Source
left_behind (Word token name) sources = sources
left_behind value sources = drop 1 sources

-- what values give, one behind the other
abbrev pub children_in : List Value → List Source → List (ℕ × ℕ)
children_in [] sources = []
children_in (value ∷ values) sources = given value sources ++ children_in values (left_behind value sources)
