-- An attribute list: what its items come to, or why it is refused.
use Rattle.std.specs.Prelude.{ℕ, ◌+◌, Bool, true, false, Option, Some, None, Result, Ok, Err, List, [], ◌∷◌, length, if◌then◌else◌}
use Rattle.std.specs.List.{list_any, prefix_len}
use Rattle.meaning_text.specs.Tokens.{Tok}
use Rattle.meaning_attributes.specs.Tokens.{is_extension}
use Rattle.meaning_attributes.specs.Pieces.{comma_pieces}
use Rattle.meaning_attributes.specs.Attributes.{Attributes, with_attribute}
use Rattle.meaning_attributes.specs.Meanings.{Meaning, Means, MeansNothing, IsBad, PassesLimit, Bad}
use Rattle.meaning_attributes.specs.Items.{meaning_of}

-- why a list is refused
pub data Refusal : Type 0 where
  -- an item is bad, whose word has this index in the list
  HasBad : Bad → ℕ → Refusal
  HasLimit : Refusal

-- the item passes the limit of a step
abbrev pub passes_limit : Meaning → Bool
passes_limit PassesLimit = true
passes_limit (Means attribute) = false
passes_limit MeansNothing = false
passes_limit (IsBad bad) = false

-- the attributes with what an item means
abbrev pub with_meaning : Attributes → Meaning → Attributes
with_meaning before (Means attribute) = with_attribute before attribute
with_meaning before MeansNothing = before
with_meaning before (IsBad bad) = before
with_meaning before PassesLimit = before

-- the attributes with what items mean, one after the other
abbrev pub with_items : Attributes → List (List Tok) → Attributes
with_items before [] = before
with_items before (item ∷ items) = with_items (with_meaning before (meaning_of item)) items

-- the index of the word of an item that begins at this index
abbrev pub word_index : ℕ → List Tok → ℕ
word_index start item = start + prefix_len is_extension item

-- the refusal of an item that begins at this index, or else this one
abbrev pub bad_or : Meaning → ℕ → Option Refusal → Option Refusal
bad_or (IsBad bad) index later = Some (HasBad bad index)
bad_or (Means attribute) index later = later
bad_or MeansNothing index later = later
bad_or PassesLimit index later = later

-- the first bad one of items that begin at this index; a comma stands behind each but the last
abbrev pub first_bad : ℕ → List (List Tok) → Option Refusal
first_bad start [] = None
first_bad start (item ∷ items) = bad_or (meaning_of item) (word_index start item) (first_bad (start + length item + 1) items)

-- the refusal, if there is one, and else these attributes
abbrev pub unless_bad : Option Refusal → Attributes → Result Attributes Refusal
unless_bad (Some refusal) attributes = Err refusal
unless_bad None attributes = Ok attributes

-- what items come to behind these attributes; the limit goes before any bad item
abbrev pub items_read : Attributes → List (List Tok) → Result Attributes Refusal
items_read before items =
    if list_any (λ item. passes_limit (meaning_of item)) items then Err HasLimit
    else unless_bad (first_bad 0 items) (with_items before items)

-- what an attribute list of these tokens comes to behind these attributes
abbrev pub attributes_read : Attributes → List Tok → Result Attributes Refusal
attributes_read before tokens = items_read before (comma_pieces tokens)
