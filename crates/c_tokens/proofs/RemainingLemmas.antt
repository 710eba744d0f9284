-- The logical text that is left at a place, byte by byte.
use Rattle.std.proofs.Common.{◌≡◌, ◌==◌, ℕ, ◌+◌, ◌≤◌, Bool, true, false, not, ◌&&◌, if◌then◌else◌, List, [], ◌∷◌, ◌++◌, length, take, drop, refl, sym, ap, ◌∙◌, arith, ⊎_elim, take-append-drop}
use Rattle.std.specs.Str.{bytes_eq}
use Rattle.std.proofs.lemmas.Slice.Eq.{bytes_eq-Decides}
use Rattle.std.proofs.lemmas.List.{length-map}
use Rattle.std.proofs.lemmas.Bool.{cases_Bool, and_parts, both_ways, eqb-true, true≢false}
use Rattle.meaning_text.specs.Bytes.{new_line, backslash}
use Rattle.meaning_text.specs.Places.{At, behind_byte}
use Rattle.meaning_text.specs.Logical.{SourceByte, bytes_of, logical_from, closing_line}
use Rattle.sparse_model.specs.declared.place.Place.{Place}
use Rattle.c_tokens.specs.Seen.{at_of}
use Rattle.c_tokens.specs.Remaining.{begins_splice, is_plain, remaining_at}

-- bytes that begin with no splice begin with a byte of the logical text
pub logical_from-byte :
    (open_line : Bool) (at : At) (b : ℕ) (rest : List ℕ) → begins_splice (b ∷ rest) ≡ false →
    logical_from open_line at (b ∷ rest) ≡ record { byte = b; at = at } ∷ logical_from (not (b == new_line)) (behind_byte at b) rest
logical_from-byte open_line at b [] settled = refl
logical_from-byte open_line at b (c ∷ rest) settled =
    ap
    (λ (splice : Bool). elim splice as (λ _. List SourceByte) [
      | true ↦ logical_from open_line (behind_byte (behind_byte at b) c) rest
      | false ↦ record { byte = b; at = at } ∷ logical_from (not (b == new_line)) (behind_byte at b) (c ∷ rest)
    ])
    settled

-- the closing new-line adds a byte at most
length-closing_line : (open_line : Bool) (at : At) → length (closing_line open_line at) ≤ 1
length-closing_line true at = omega arith
length-closing_line false at = omega arith

length-logical_from : (open_line : Bool) (at : At) (bytes : List ℕ) → length (logical_from open_line at bytes) ≤ length bytes + 1
length-logical_from open_line at [] = omega (arith, length-closing_line open_line at)
length-logical_from open_line at (b ∷ []) = omega (arith, length-closing_line (not (b == new_line)) (behind_byte at b))
length-logical_from open_line at (b ∷ c ∷ bytes) =
    let Short : Bool → Type 0 = λ splice. length (elim splice as (λ _. List SourceByte) [
      | true ↦ logical_from open_line (behind_byte (behind_byte at b) c) bytes
      | false ↦ record { byte = b; at = at } ∷ logical_from (not (b == new_line)) (behind_byte at b) (c ∷ bytes)
    ]) ≤ length (b ∷ c ∷ bytes) + 1 in
    elim (b == backslash && c == new_line) as Short [
      | true ↦ omega (arith, length-logical_from open_line (behind_byte (behind_byte at b) c) bytes)
      | false ↦ omega (arith, length-logical_from (not (b == new_line)) (behind_byte at b) (c ∷ bytes))
    ]

pub length-remaining_at : (open_line : Bool) (place : Place) (bytes : List ℕ) → length (bytes_of (remaining_at open_line place bytes)) ≤ length bytes + 1
unfolding remaining_at
length-remaining_at open_line place bytes =
    omega (arith, length-map (logical_from open_line (at_of place) bytes) (λ (b : SourceByte). b.byte), length-logical_from open_line (at_of place) bytes)

-- the first byte stands at the place, and behind it the text goes on
pub remaining_at-byte :
    (open_line : Bool) (place after : Place) (b : ℕ) (rest : List ℕ) → begins_splice (b ∷ rest) ≡ false → at_of after ≡ behind_byte (at_of place) b →
    remaining_at open_line place (b ∷ rest) ≡ record { byte = b; at = at_of place } ∷ remaining_at (not (b == new_line)) after rest
unfolding remaining_at
remaining_at-byte open_line place after b rest settled behind =
    logical_from-byte open_line (at_of place) b rest settled
    ∙ ap (λ at. record { byte = b; at = at_of place } ∷ logical_from (not (b == new_line)) at rest) (sym behind)

-- behind a splice the text goes on in the next line
pub remaining_at-splice :
    (open_line : Bool) (place middle after : Place) (rest : List ℕ) →
    at_of middle ≡ behind_byte (at_of place) backslash → at_of after ≡ behind_byte (at_of middle) new_line →
    remaining_at open_line place (backslash ∷ new_line ∷ rest) ≡ remaining_at open_line after rest
unfolding remaining_at
remaining_at-splice open_line place middle after rest first second =
    ap (λ at. logical_from open_line at rest) (ap (λ at. behind_byte at new_line) (sym first) ∙ sym second)

-- behind the last byte stands the new-line that an open line is closed with
pub remaining_at-open : (place : Place) → remaining_at true place [] ≡ record { byte = new_line; at = at_of place } ∷ []
unfolding remaining_at
remaining_at-open place = refl

pub remaining_at-closed : (place : Place) → remaining_at false place [] ≡ []
unfolding remaining_at
remaining_at-closed place = refl

-- a text that begins with a backslash and a new-line is those and the rest
pub splice-split : (bytes : List ℕ) → bytes_eq (take 2 bytes) (backslash ∷ new_line ∷ []) ≡ true → bytes ≡ backslash ∷ new_line ∷ drop 2 bytes
splice-split bytes splice =
    sym (take-append-drop 2 bytes) ∙ ap (λ front. front ++ drop 2 bytes) ((bytes_eq-Decides (take 2 bytes) (backslash ∷ new_line ∷ [])).0 splice)

-- and any other text begins with no splice
pub begins_splice-none : (bytes : List ℕ) → bytes_eq (take 2 bytes) (backslash ∷ new_line ∷ []) ≡ false → begins_splice bytes ≡ false
begins_splice-none [] none = refl
begins_splice-none (b ∷ []) none = refl
begins_splice-none (b ∷ c ∷ bytes) none =
    ⊎_elim
    (λ splice. let parts = and_parts (b == backslash) (c == new_line) splice in
    absurd (both_ways _ none ((bytes_eq-Decides (b ∷ c ∷ []) (backslash ∷ new_line ∷ [])).1
    (λ i. eqb-true b backslash parts.0 i ∷ eqb-true c new_line parts.1 i ∷ []))))
    (λ settled. settled)
    (cases_Bool (b == backslash && c == new_line))

-- Bytes that stand side by side

-- the place so many bytes to the right
abbrev right_of : At → ℕ → At
right_of at count = record { file = at.file; line = at.line; column = at.column + count }

logical_from-next :
    (open_line : Bool) (at : At) (b : ℕ) (rest : List ℕ) → (not (b == backslash) && not (b == new_line)) ≡ true →
    logical_from open_line at (b ∷ rest) ≡ record { byte = b; at = at } ∷ logical_from true (right_of at 1) rest
logical_from-next open_line at b rest plain =
    let parts = and_parts (not (b == backslash)) (not (b == new_line)) plain in
    let settled : begins_splice (b ∷ rest) ≡ false = no_splice rest (not-true (b == backslash) parts.0) in
    let same : (b == new_line) ≡ false = not-true (b == new_line) parts.1 in
    logical_from-byte open_line at b rest settled
    ∙ ap (λ ends. record { byte = b; at = at } ∷ logical_from (not ends) (if ends then record { file = at.file; line = at.line + 1; column = 1 } else right_of at 1) rest) same
  where
    not-true : (a : Bool) → not a ≡ true → a ≡ false
    not-true true is = sym is
    not-true false is = refl

    no_splice : (rest : List ℕ) → (b == backslash) ≡ false → begins_splice (b ∷ rest) ≡ false
    no_splice [] other = refl
    no_splice (c ∷ rest) other = ap (λ here. here && c == new_line) other

-- they are the first of the logical text, and the rest goes on behind them
logical_from-plain :
    (open_line : Bool) (at : At) (b : ℕ) (front rest : List ℕ) → is_plain (b ∷ front) ≡ true →
    (take (length (b ∷ front)) (bytes_of (logical_from open_line at (b ∷ front ++ rest))) ≡ b ∷ front)
    × (drop (length (b ∷ front)) (logical_from open_line at (b ∷ front ++ rest)) ≡ logical_from true (right_of at (length (b ∷ front))) rest)
logical_from-plain open_line at b [] rest plain =
    let parts = and_parts (not (b == backslash) && not (b == new_line)) true plain in
    let next = logical_from-next open_line at b rest parts.0 in
    (ap (λ text. take 1 (bytes_of text)) next, ap (drop 1) next)
logical_from-plain open_line at b (c ∷ front) rest plain =
    let parts = and_parts (not (b == backslash) && not (b == new_line)) (is_plain (c ∷ front)) plain in
    let next = logical_from-next open_line at b (c ∷ front ++ rest) parts.0 in
    let later = logical_from-plain true (right_of at 1) c front rest parts.1 in
    let column : at.column + 1 + length (c ∷ front) ≡ at.column + length (b ∷ c ∷ front) = omega arith in (
      ap (λ text. take (length (b ∷ c ∷ front)) (bytes_of text)) next ∙ ap (λ text. b ∷ text) later.0,
      ap (drop (length (b ∷ c ∷ front))) next ∙ later.1
          ∙ ap (λ n. logical_from true (record { file = at.file; line = at.line; column = n }) rest) column,
    )

pub remaining_at-plain :
    (open_line : Bool) (place after : Place) (front rest : List ℕ) → (length front == 0) ≡ false → is_plain front ≡ true →
    after ≡ record place { column = place.column + length front } →
    (take (length front) (bytes_of (remaining_at open_line place (front ++ rest))) ≡ front)
    × (drop (length front) (remaining_at open_line place (front ++ rest)) ≡ remaining_at true after rest)
unfolding remaining_at
remaining_at-plain open_line place after [] rest some plain is = absurd (true≢false some)
remaining_at-plain open_line place after (b ∷ front) rest some plain is =
    let found = logical_from-plain open_line (at_of place) b front rest plain in
    (found.0, found.1 ∙ ap (λ (p : Place). logical_from true (at_of p) rest) (sym is))
