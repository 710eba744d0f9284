-- A table of spellings, as a list of them.
use Rattle.std.specs.Prelude.{◌≡◌, ℕ, Bool, List, [], ◌∷◌, ◌++◌, Some, slice_get, if◌then◌else◌}
use Rattle.std.specs.List.{list_any}
use Rattle.std.specs.Str.{bytes_eq}

-- the text is one of the spellings
abbrev pub is_among : List ℕ → List (List ℕ) → Bool
is_among text names = list_any (bytes_eq text) names

-- the table after a text joins it: a new spelling goes last
abbrev pub with_spelling : List (List ℕ) → List ℕ → List (List ℕ)
with_spelling names text = if is_among text names then names else names ++ text ∷ []

-- the table after these texts join it, one behind the other
abbrev pub with_spellings : List (List ℕ) → List (List ℕ) → List (List ℕ)
with_spellings names [] = names
with_spellings names (text ∷ texts) = with_spellings (with_spelling names text) texts

-- no spelling stands twice
abbrev pub AreApart : List (List ℕ) → Type 0
AreApart names = (i j : ℕ) (text : List ℕ) → slice_get names i ≡ Some text → slice_get names j ≡ Some text → i ≡ j
