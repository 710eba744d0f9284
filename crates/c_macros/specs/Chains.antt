-- How a substituted body comes about in a vector: chain by chain, and operand by operand.
use Rattle.std.specs.Prelude.{◌≡◌, ◌<◌, ◌≤◌, ◌+◌, ◌++◌, ℕ, Bool, true, false, List, [], ◌∷◌, length, map, slice_index, zero, suc, Option, Some, None, Result, Ok, Err, ⊤, if◌then◌else◌}
use Rattle.meaning_macros.specs.Substitution.{Pasted, Joins, BadBehind, Substituted, WholeBody, BrokenBehind, part_of, with_part}
use Rattle.meaning_text.specs.Places.{At}
use Rattle.meaning_macros.specs.Bodies.{Chain, space_of_chain}
use Rattle.meaning_macros.specs.Hiding.{Hiding}
use Rattle.sparse_model.specs.declared.place.Place.{Place}
use Rattle.c_tokens.specs.declared.token.Token.{Token}
use Rattle.c_macros.specs.Laid.{LaidItems, Lays, items_of, parts_before}
use Rattle.c_macros.specs.Reading.{Reading, hidings_by}
use Rattle.c_macros.specs.Substitution.{Refuses}
use Rattle.c_macros.specs.declared.item.Item.{Item}
use Rattle.c_macros.specs.declared.laid.Laid.{Laid}
use Rattle.c_macros.specs.declared.operand.Operand.{Operand}
use Rattle.c_macros.specs.declared.operand.Operand.TheVariants.{Argument}
use Rattle.c_macros.specs.declared.operand.Part.{Part}
use Rattle.c_macros.specs.declared.substitution.SubstitutionFault.{SubstitutionFault}
use Rattle.c_macros.specs.declared.substitution.SubstitutionFault.TheVariants.{BadPaste, TooMany, Memory}

-- Tokens at a place

-- a token as it is put at this place
abbrev pub token_at : Place → Token → Token
token_at place token = record token { place = place; line_start = false }

-- an item as it is put at this place
abbrev pub item_at : Place → Item → Item
item_at place item = record item { token = token_at place item.token }

abbrev pub items_at : Place → List Item → List Item
items_at place items = map (item_at place) items

-- the item with this white space before it
abbrev pub item_behind : Bool → Item → Item
item_behind space item = record item { token = record item.token { space_before = space } }

-- the first item has exactly this white space before it
abbrev pub led_items : Bool → List Item → List Item
led_items space [] = []
led_items space (item ∷ items) = item_behind space item ∷ items

-- Chains in a flat list

-- the operands at the front that a `##` joins to what stands before
abbrev pub joined_here : List Part → List Operand
joined_here [] = []
joined_here (part ∷ parts) = if part.begins then [] else part.operand ∷ joined_here parts

-- what is left behind them
abbrev pub behind_joined : List Part → List Part
behind_joined [] = []
behind_joined (part ∷ parts) = if part.begins then part ∷ parts else behind_joined parts

-- a chain begins here, or nothing is left
abbrev pub begins_here : List Part → Bool
begins_here [] = true
begins_here (part ∷ parts) = part.begins

-- the parameter that is a chain alone
abbrev pub lone_parameter : Operand → List Part → Option ℕ
lone_parameter (Argument space parameter) parts = if begins_here parts then Some parameter else None
lone_parameter operand parts = None

-- What an operand does

-- the items from a position on, behind others
pub record IsSplit (all : List Item) (start : ℕ) (base left : List Item) : Type 0 where
  pub items : all ≡ base ++ left
  pub length : start ≡ length base

-- how many tokens there are of a chain, up to the left one of its bad `##` or in all
abbrev pub standing : Pasted → ℕ
standing (Joins tokens) = length tokens
standing (BadBehind count) = count + 1

-- why a chain stops, of which so much was found behind so many tokens
abbrev pub Stops : ℕ → ℕ → SubstitutionFault → Pasted → Type 0
Stops most before BadPaste found = (count : ℕ) × (found ≡ BadBehind count) × (before + count ≤ most)
Stops most before TooMany found = most + 1 < before + standing found
Stops most before Memory found = ⊤

-- the items behind the base are what was found
pub record Holds (r : Reading) (start : ℕ) (base all : List Item) (found : Pasted) : Type 0 where
  pub left : List Item
  pub split : IsSplit all start base left
  pub read : found ≡ Joins (hidings_by r left)

-- what comes of a chain stands in the items, behind the base, or the chain stops
abbrev pub Pastes : {X : Type 0} → Reading → (most start : ℕ) → (base items : List Item) → Result X SubstitutionFault → Pasted → Type 0
Pastes r most start base items (Ok done) found = Holds r start base items found
Pastes r most start base items (Err fault) found = Stops most (length base) fault found

-- What a chain does

-- the parts so far, before what comes of the others
abbrev pub with_parts : Reading → List LaidItems → Substituted → Substituted
with_parts r parts (WholeBody others) = WholeBody (parts_before r parts others)
with_parts r parts (BrokenBehind count) = BrokenBehind (length (items_of parts) + count)

-- a chain before what comes of the others
abbrev pub with_chain : At → (raw expanded : List (List Hiding)) → Chain → Substituted → Substituted
with_chain place raw expanded chain others = with_part (space_of_chain chain) (part_of place raw expanded chain) others

-- the vectors hold parts, which make of what comes of the others what is wanted
pub record HoldsParts (r : Reading) (most : ℕ) (laid : Laid) (wanted : Substituted → Substituted) : Type 0 where
  pub parts : List LaidItems
  pub lays : Lays laid parts
  pub makes : (others : Substituted) → with_parts r parts others ≡ wanted others
  pub count : length (items_of parts) ≤ most

-- one more chain stands in the vectors, or the body stops
abbrev pub LaysMore : {X : Type 0} → Reading → ℕ → Laid → Result X SubstitutionFault → (Substituted → Substituted) → Type 0
LaysMore r most laid (Ok done) wanted = HoldsParts r most laid wanted
LaysMore r most laid (Err fault) wanted = (others : Substituted) → Refuses most fault (wanted others)

-- Arguments

-- the list is a part of the other
pub record IsWithin (part whole : List Item) : Type 0 where
  pub before : List Item
  pub behind : List Item
  pub parts : whole ≡ before ++ (part ++ behind)

-- where an argument begins, if the first begins here and each ends so
abbrev pub begin_in : ℕ → List ℕ → ℕ → ℕ
begin_in first ends zero = first
begin_in first ends (suc number) = slice_index ends number
