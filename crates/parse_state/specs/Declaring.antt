-- Names that are declared, by ids and handles.
use Rattle.std.specs.Prelude.{ℕ, ◌+◌, List, [], ◌∷◌, Bool, if◌then◌else◌, Option, Some, None}
use Rattle.vocabulary.specs.declared.scope.Bound.{Bound}
use Rattle.meaning_tree.specs.Trees.{Node, Parts, NoParts, Part}
use Rattle.c_tokens.specs.Seen.{text_of}
use Rattle.parse_state.specs.OnlyTrees.{only_child}
use Rattle.parse_state.specs.declared.declaring.DeclaredName.{DeclaredName}
use Rattle.parse_state.specs.declared.value.Value.{Value}
use Rattle.parse_state.specs.declared.value.Value.TheVariants as kinds

-- a name by its spelling, and its token
abbrev pub declared_seen : List (List ℕ) → DeclaredName → List ℕ × ℕ
declared_seen names declared = (text_of names declared.name, declared.token)

-- a name that isn't empty, with its token
abbrev pub name_and_token : (name : List ℕ) (token : ℕ) → Option (List ℕ × ℕ)
name_and_token [] token = None
name_and_token (byte ∷ bytes) token = Some (byte ∷ bytes, token)

-- the name of the first of these trees, if it has one, and the token of that tree
abbrev pub first_name : Parts (List ℕ) → Option (List ℕ × ℕ)
first_name NoParts = None
first_name (Part role (Node kind token name number parts) others) = name_and_token name token

-- the children of a list
abbrev pub list_in : Option Value → Option (List (ℕ × ℕ))
list_in (Some (kinds.List children)) = Some children
list_in value = None

-- the first of children
abbrev pub first_of : List (ℕ × ℕ) → Option ℕ
first_of [] = None
first_of (child ∷ children) = Some child.0

abbrev pub first_in : Option Value → Option ℕ
first_in (Some (kinds.List children)) = first_of children
first_in value = None

-- what the innermost scope itself says, by what a look-up told
abbrev pub told_here : Option (ℕ × Bound × Bool) → Option Bound
told_here None = None
told_here (Some told) = if told.2 then Some told.1 else None

-- the number of what it hides, by what a look-up told
abbrev pub told_hidden : Option (ℕ × Bound × Bool) → ℕ
told_hidden None = 0
told_hidden (Some told) = if told.2 then 0 else told.0 + 1

-- the tree of a value, or the only one of a list
abbrev pub top_in : Option Value → Option ℕ
top_in (Some (kinds.Tree handle)) = Some handle
top_in (Some (kinds.List children)) = only_child children
top_in value = None
