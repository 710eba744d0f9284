-- What a cursor stands before.
use Rattle.std.proofs.Common.{◌≡◌, ◌==◌, ℕ, zero, suc, ◌+◌, ◌-◌, ◌<◌, Bool, true, false, not, if◌then◌else◌, List, [], ◌∷◌, ◌++◌, length, take, drop, Some, refl, sym, ap, ◌∙◌, subst, arith, ⊎_elim, length-drop, append_assoc}
use Rattle.std.proofs.lemmas.Bool.{cases_Bool, ne_eqb}
use Rattle.std.proofs.lemmas.List.{nil_from_length}
use Rattle.std.proofs.Math.Seq.{drop-nil}
use Rattle.std.proofs.lemmas.Option.{none-some, same_Some}
use Rattle.meaning_text.specs.Bytes.{new_line}
use Rattle.meaning_text.specs.Places.{At, behind_byte}
use Rattle.meaning_text.specs.Logical.{SourceByte, bytes_of}
use Rattle.sparse_model.specs.declared.place.Place.{Place}
use Rattle.c_tokens.specs.declared.cursor.Cursor.{Cursor}
use Rattle.c_tokens.specs.Seen.{at_of}
use Rattle.c_tokens.specs.Remaining.{begins_splice, first_of, is_plain, remaining_at}
use Rattle.c_tokens.specs.Cursor.{remaining, ahead}
use Rattle.c_tokens.proofs.RemainingLemmas.{remaining_at-byte, remaining_at-open, remaining_at-closed, remaining_at-plain}

-- before a byte
remaining_at-first :
    (open_line : Bool) (place : Place) (bytes : List ℕ) (b : ℕ) (rest : List ℕ) → begins_splice bytes ≡ false → bytes ≡ b ∷ rest →
    (after : Place) → at_of after ≡ behind_byte (at_of place) b →
    remaining_at open_line place bytes ≡ record { byte = b; at = at_of place } ∷ remaining_at (not (b == new_line)) after rest
remaining_at-first open_line place bytes b rest settled split after behind =
    ap (remaining_at open_line place) split
    ∙ remaining_at-byte open_line place after b rest (subst (λ text. begins_splice text ≡ false) split settled) behind

pub remaining-byte :
    (cursor : Cursor) (b : ℕ) (rest : List ℕ) → cursor.bytes.now ≡ b ∷ rest → (after : Place) → at_of after ≡ behind_byte (at_of cursor.place) b →
    remaining cursor ≡ record { byte = b; at = at_of cursor.place } ∷ remaining_at (not (b == new_line)) after rest
remaining-byte cursor b rest split after behind =
    remaining_at-first cursor.line_is_open cursor.place cursor.bytes.now b rest cursor.settled split after behind

-- the place behind a byte, as a place of the file
after_byte : Place → ℕ → Place
after_byte place b =
    elim (b == new_line) [
      | true ↦ record { file = place.file; line = place.line + 1; column = 1 }
      | false ↦ record { file = place.file; line = place.line; column = place.column + 1 }
    ]

at_of-after_byte : (place : Place) (b : ℕ) → at_of (after_byte place b) ≡ behind_byte (at_of place) b
unfolding after_byte
at_of-after_byte place b =
    elim (b == new_line) as (λ ends. at_of (elim ends as (λ _. Place) [
      | true ↦ record { file = place.file; line = place.line + 1; column = 1 }
      | false ↦ record { file = place.file; line = place.line; column = place.column + 1 }
    ]) ≡ (if ends then record { file = place.file; line = place.line + 1; column = 1 } else record { file = place.file; line = place.line; column = place.column + 1 })) [
      | true ↦ refl
      | false ↦ refl
    ]

-- before a byte that is left
pub ahead-byte :
    (cursor : Cursor) (b : ℕ) (rest : List ℕ) → cursor.bytes.now ≡ b ∷ rest → (text : List ℕ) × (ahead cursor ≡ b ∷ text)
ahead-byte cursor b rest split =
    let after = after_byte cursor.place b in (
      bytes_of (remaining_at (not (b == new_line)) after rest),
      ap bytes_of (remaining-byte cursor b rest split after (at_of-after_byte cursor.place b)),
    )

-- where no byte is left
remaining-none : (cursor : Cursor) (open_line : Bool) → length cursor.bytes.now ≡ 0 → cursor.line_is_open ≡ open_line → remaining cursor ≡ remaining_at open_line cursor.place []
remaining-none cursor open_line none is_open =
    ap (remaining_at cursor.line_is_open cursor.place) (nil_from_length cursor.bytes.now none) ∙ ap (λ b. remaining_at b cursor.place []) is_open

pub remaining-open :
    (cursor : Cursor) → length cursor.bytes.now ≡ 0 → cursor.line_is_open ≡ true → remaining cursor ≡ record { byte = new_line; at = at_of cursor.place } ∷ []
remaining-open cursor none is_open = remaining-none cursor true none is_open ∙ remaining_at-open cursor.place

pub remaining-closed : (cursor : Cursor) → length cursor.bytes.now ≡ 0 → cursor.line_is_open ≡ false → remaining cursor ≡ []
remaining-closed cursor none closed = remaining-none cursor false none closed ∙ remaining_at-closed cursor.place

pub ahead-open : (cursor : Cursor) → length cursor.bytes.now ≡ 0 → cursor.line_is_open ≡ true → ahead cursor ≡ new_line ∷ []
ahead-open cursor none is_open = ap bytes_of (remaining-open cursor none is_open)

pub ahead-closed : (cursor : Cursor) → length cursor.bytes.now ≡ 0 → cursor.line_is_open ≡ false → ahead cursor ≡ []
ahead-closed cursor none closed = ap bytes_of (remaining-closed cursor none closed)

-- behind the closing new-line, or where there is none, nothing is left
pub remaining-ends : (cursor : Cursor) → length cursor.bytes.now ≡ 0 → remaining_at false cursor.place cursor.bytes.now ≡ drop 1 (remaining cursor)
remaining-ends cursor none =
    ap (remaining_at false cursor.place) (nil_from_length cursor.bytes.now none) ∙ remaining_at-closed cursor.place
    ∙ ⊎_elim
    (λ is_open. sym (ap (drop 1) (remaining-open cursor none is_open)))
    (λ closed. sym (ap (drop 1) (remaining-closed cursor none closed)))
    (cases_Bool cursor.line_is_open)

-- the bytes behind the first
bytes_of-drop : (text : List SourceByte) → bytes_of (drop 1 text) ≡ drop 1 (bytes_of text)
bytes_of-drop [] = refl
bytes_of-drop (b ∷ text) = refl

-- what is behind the first byte, seen without places
pub behind-bytes : (text rest : List SourceByte) → rest ≡ drop 1 text → bytes_of rest ≡ drop 1 (bytes_of text)
behind-bytes text rest behind = ap bytes_of behind ∙ bytes_of-drop text

pub behind-length : (text rest : List SourceByte) → rest ≡ drop 1 text → length (bytes_of rest) ≡ length (bytes_of text) - 1
behind-length text rest behind = ap length (behind-bytes text rest behind) ∙ length-drop 1 (bytes_of text)

-- The place of the first byte, or this one where there is none.
abbrev pub place_or : At → List SourceByte → At
place_or at [] = at
place_or at (b ∷ text) = b.at

-- a cursor stands at its place
pub remaining-place : (cursor : Cursor) → place_or (at_of cursor.place) (remaining cursor) ≡ at_of cursor.place
remaining-place cursor = by cursor.bytes.now cursor.settled
  where
    by : (bytes : List ℕ) → begins_splice bytes ≡ false → place_or (at_of cursor.place) (remaining_at cursor.line_is_open cursor.place bytes) ≡ at_of cursor.place
    by [] settled =
        ⊎_elim
        (λ is_open. ap (place_or (at_of cursor.place)) (ap (λ b. remaining_at b cursor.place []) is_open ∙ remaining_at-open cursor.place))
        (λ closed. ap (place_or (at_of cursor.place)) (ap (λ b. remaining_at b cursor.place []) closed ∙ remaining_at-closed cursor.place))
        (cases_Bool cursor.line_is_open)
    by (b ∷ rest) settled =
        ap (place_or (at_of cursor.place))
        (remaining_at-byte cursor.line_is_open cursor.place (after_byte cursor.place b) b rest settled (at_of-after_byte cursor.place b))

-- a byte more is spelled
pub spelled-more :
    (spelled pushed text rest : List ℕ) (byte left : ℕ) → 0 < left → Some byte ≡ first_of text → rest ≡ drop 1 text → pushed ≡ spelled ++ byte ∷ [] →
    pushed ++ take (left - 1) rest ≡ spelled ++ take left text
spelled-more spelled pushed text rest byte zero some first behind push = absurd (omega arith)
spelled-more spelled pushed [] rest byte (suc left) some first behind push = absurd (none-some _ (sym first))
spelled-more spelled pushed (b ∷ text) rest byte (suc left) some first behind push =
    let fewer : suc left - 1 ≡ left = omega arith in
    (λ i. push i ++ take (fewer i) (behind i)) ∙ append_assoc spelled (byte ∷ []) (take left text)
    ∙ ap (λ c. spelled ++ c ∷ take left text) (same_Some _ _ first)

-- and is behind
pub drop-more : {X : Type 0} (text rest : List X) (left : ℕ) → 0 < left → rest ≡ drop 1 text → drop (left - 1) rest ≡ drop left text
drop-more text rest zero some behind = absurd (omega arith)
drop-more [] rest (suc left) some behind = ap (drop (suc left - 1)) behind ∙ drop-nil (suc left - 1)
drop-more (x ∷ text) rest (suc left) some behind =
    let fewer : suc left - 1 ≡ left = omega arith in
    λ i. drop (fewer i) (behind i)

-- bytes that stand side by side are the next of the text, and what is behind them is left
pub plain-front :
    (cursor : Cursor) (after : Place) (front rest : List ℕ) (count : ℕ) → cursor.bytes.now ≡ front ++ rest → length front ≡ count → (count ≡ 0 → ⊥) →
    is_plain front ≡ true → after ≡ record { file = cursor.place.file; line = cursor.place.line; column = cursor.place.column + count } →
    (front ≡ take count (ahead cursor)) × (remaining_at true after rest ≡ drop count (remaining cursor))
plain-front cursor after front rest count split counted some plain is =
    let found = remaining_at-plain cursor.line_is_open cursor.place after front rest (ne_eqb (length front) 0 (λ none. some (sym counted ∙ none))) plain (is ∙ (λ i. record { file = cursor.place.file; line = cursor.place.line; column = cursor.place.column + sym counted i })) in (
      sym found.0 ∙ (λ i. take (counted i) (bytes_of (remaining_at cursor.line_is_open cursor.place (sym split i)))),
      sym found.1 ∙ (λ i. drop (counted i) (remaining_at cursor.line_is_open cursor.place (sym split i))),
    )
