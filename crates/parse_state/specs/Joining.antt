-- Lists that become one, by their handles, and words below them.
use Rattle.std.specs.Prelude.{◌≡◌, ℕ, List, [], ◌∷◌, ◌++◌, reverse, slice_get, take, Option, Some, None}
use Rattle.meaning_grammar.specs.Sorts.{AList}
use Rattle.meaning_derivation.specs.Values.{WordValue, token_of, text_of, value_at, sorts_of}
use Rattle.meaning_derivation.specs.Values as values
use Rattle.parse_state.specs.declared.value.Value.{Value}
use Rattle.parse_state.specs.declared.value.Value.TheVariants as kinds

-- the children of a list
abbrev pub children_of : Option Value → List (ℕ × ℕ)
children_of (Some (kinds.List children)) = children
children_of value = []

-- those of the list on the top the other way round, before those of the list below it
abbrev pub suffixes_before : (stack : List Value) → List (ℕ × ℕ)
suffixes_before stack = reverse (children_of (slice_get (reverse stack) 0)) ++ children_of (slice_get (reverse stack) 1)

-- the two values on top are lists
abbrev pub EndsInLists : List values.Value → Type 0
EndsInLists values = take 2 (sorts_of values) ≡ AList ∷ AList ∷ []

-- the word so far below the top; in the place of what is none stands one of token 0 without a spelling
abbrev pub word_at : List values.Value → (depth : ℕ) → values.Value
word_at stack depth = WordValue (token_of (value_at stack depth)) (text_of (value_at stack depth))

-- the first of children
abbrev pub first_child : List (ℕ × ℕ) → Option ℕ
first_child [] = None
first_child (child ∷ children) = Some child.0
