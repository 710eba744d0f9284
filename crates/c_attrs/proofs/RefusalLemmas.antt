-- How the refusal of a list is told.
use Rattle.std.proofs.Common.{◌≡◌, ◌↔◌, ◌+◌, ℕ, length, Bool, true, false, cond, Option, Some, None, option_map, Err, List, ◌∷◌, refl, sym, ap, ◌∙◌}
use Rattle.std.specs.List.{list_any}
use Rattle.meaning_text.specs.Tokens.{Tok}
use Rattle.meaning_attributes.specs.Attributes.{Attributes}
use Rattle.meaning_attributes.specs.Meanings.{Meaning, Means, MeansNothing, IsBad, PassesLimit}
use Rattle.meaning_attributes.specs.Pieces.{comma_pieces}
use Rattle.meaning_attributes.specs.Items.{meaning_of}
use Rattle.meaning_attributes.specs.Reading.{Refusal, HasLimit, attributes_read, bad_or, first_bad, passes_limit, unless_bad, with_items, word_index}
use Rattle.c_attrs.specs.Seen.{fault_telling}
use Rattle.c_attrs.specs.Parts.{first_of, refusal_in, refusal_of}

either : (limit : Bool) (bad : Option Refusal) (attributes : Attributes) → cond limit (Err HasLimit) (unless_bad bad attributes) ≡ unless_bad (cond limit (Some HasLimit) bad) attributes
either true bad attributes = refl
either false bad attributes = refl

-- a list comes to its attributes, unless it is refused
pub attributes_read-unless : (before : Attributes) (tokens : List Tok) → attributes_read before tokens ≡ unless_bad (refusal_of (comma_pieces tokens)) (with_items before (comma_pieces tokens))
attributes_read-unless before tokens =
    let items = comma_pieces tokens in
    either (list_any (λ item. passes_limit (meaning_of item)) items) (first_bad 0 items) (with_items before items)

-- and its refusal is that of the list
refusal_in-unless : (bad : Option Refusal) (attributes : Attributes) → refusal_in (unless_bad bad attributes) ≡ bad
refusal_in-unless None attributes = refl
refusal_in-unless (Some refusal) attributes = refl

pub refusal_in-read : (before : Attributes) (tokens : List Tok) → refusal_in (attributes_read before tokens) ≡ refusal_of (comma_pieces tokens)
refusal_in-read before tokens =
    ap refusal_in (attributes_read-unless before tokens) ∙ refusal_in-unless (refusal_of (comma_pieces tokens)) (with_items before (comma_pieces tokens))

-- the limit of one item is that of the list
pub any-behind : (item : List Tok) (items : List (List Tok)) → passes_limit (meaning_of item) ≡ false → list_any (λ other. passes_limit (meaning_of other)) (item ∷ items) ≡ list_any (λ other. passes_limit (meaning_of other)) items
any-behind item items passes = rw passes refl

-- what was found up to an item goes before what is found behind it
pub first_of-behind : (found : Option Refusal) (meaning : Meaning) (index : ℕ) (later : Option Refusal) → first_of found (bad_or meaning index later) ≡ first_of (first_of found (bad_or meaning index None)) later
first_of-behind (Some refusal) meaning index later = refl
first_of-behind None (Means attribute) index later = refl
first_of-behind None MeansNothing index later = refl
first_of-behind None (IsBad bad) index later = refl
first_of-behind None PassesLimit index later = refl

-- the limit, and the first bad item, of those behind the first one
pub next-limit : (item : List Tok) (items others : List (List Tok)) (all : Bool) → items ≡ item ∷ others → passes_limit (meaning_of item) ≡ false
    → list_any (λ one. passes_limit (meaning_of one)) items ≡ all → list_any (λ one. passes_limit (meaning_of one)) others ≡ all
next-limit item items others all cut passes given =
    sym (any-behind item others passes) ∙ ap (list_any (λ one. passes_limit (meaning_of one))) (sym cut) ∙ given

pub next-first : (found : Option Refusal) (start next word : ℕ) (item : List Tok) (meaning : Meaning) (items others : List (List Tok)) (all : Option Refusal) → items ≡ item ∷ others
    → meaning ≡ meaning_of item → word ≡ word_index start item → next ≡ start + length item + 1 → first_of found (first_bad start items) ≡ all
    → first_of (first_of found (bad_or meaning word None)) (first_bad next others) ≡ all
next-first found start next word item meaning items others all cut means at behind given =
    ap (λ place. first_of (first_of found (bad_or meaning word None)) (first_bad place others)) behind
    ∙ sym (first_of-behind found meaning word (first_bad (start + length item + 1) others))
    ∙ ap (λ index. first_of found (bad_or meaning index (first_bad (start + length item + 1) others))) at
    ∙ ap (λ one. first_of found (bad_or one (word_index start item) (first_bad (start + length item + 1) others))) means
    ∙ ap (λ them. first_of found (first_bad start them)) (sym cut)
    ∙ given

-- nothing was found where nothing is told
pub none-found : (found : Option Refusal) → None ≡ option_map fault_telling found → found ≡ None
none-found None none = refl
none-found (Some refusal) none = cc
