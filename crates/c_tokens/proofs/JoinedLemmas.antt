-- Which spellings are one token, by what is found at the front of the line that they would be.
use Rattle.std.proofs.Common.{◌≡◌, ◌==◌, ℕ, ◌<◌, ◌≤◌, Bool, true, false, not, ◌&&◌, ◌||◌, if◌then◌else◌, List, [], ◌∷◌, ◌++◌, length, take, drop, Option, Some, None, refl, sym, ap, ◌∙◌, subst, ⊎_elim, arith, length-append}
use Rattle.std.proofs.lemmas.Bool.{and_parts, or_parts, both_ways, cases_Bool, cases_lt, cases_order, true≢false, eqb-true}
use Rattle.std.proofs.lemmas.Option.{none-some}
use Rattle.std.proofs.Math.Seq.{take-length}
use Rattle.std.proofs.lemmas.List.{take_at}
use Rattle.meaning_text.specs.Bytes.{new_line, single_quote, double_quote, backslash, is_prefix_letter, lower_u, digit_8}
use Rattle.meaning_text.specs.Places.{At, behind_byte, start_of}
use Rattle.meaning_text.specs.Logical.{SourceByte, bytes_of, logical_from, closing_line, logical_text}
use Rattle.meaning_text.specs.Words.{is_word, is_number, is_number_tail, begins_identifier, begins_number, word_goes_on, number_goes_on, sign_behind, universal_left}
use Rattle.meaning_text.specs.Quoted.{is_empty, ends_quoted, is_quoted, character_prefix, is_character, is_string}
use Rattle.vocabulary.specs.declared.token_kind.TokenKind.{TokenKind}
use Rattle.meaning_text.specs.Kinds.{kind_in, is_stray}
use Rattle.meaning_text.specs.Fronts.{found_token}
use Rattle.meaning_text.proofs.Finding.{Reaches}
use Rattle.meaning_text.proofs.FoundKinds.{found_token-IsTokenFront}
use Rattle.meaning_text.proofs.LongestFronts.{kind_in-Reaches}
use Rattle.c_tokens.proofs.PunctuatorLemmas.{has_new_line, has_new_line-append, punctuator_of-has_new_line}

-- No token has a new-line

-- a test that no new-line passes, and no byte before one
word_goes_on-new_line : (b : ℕ) (text : List ℕ) → (b == new_line) ≡ true → word_goes_on (b ∷ text) ≡ false
word_goes_on-new_line b [] new = ap (λ n. word_goes_on (n ∷ [])) (eqb-true b new_line new)
word_goes_on-new_line b (c ∷ text) new = ap (λ n. word_goes_on (n ∷ c ∷ text)) (eqb-true b new_line new)

and_none : (a b : Bool) → b ≡ false → (a && b) ≡ false
and_none true b none = none
and_none false b none = refl

is_word-new_line : (text : List ℕ) → has_new_line text ≡ true → is_word text ≡ false
is_word-new_line [] has = absurd (true≢false (sym has))
is_word-new_line (b ∷ text) has =
    ⊎_elim
    (λ new. ap (λ goes_on. goes_on && is_word text) (word_goes_on-new_line b text new))
    (λ other. and_none (word_goes_on (b ∷ text)) _ (is_word-new_line text (ap (λ here. here || has_new_line text) (sym other) ∙ has)))
    (cases_Bool (b == new_line))

number_goes_on-new_line : (sign : Bool) (b : ℕ) (text : List ℕ) → (b == new_line) ≡ true → number_goes_on sign (b ∷ text) ≡ false
number_goes_on-new_line true b [] new = ap (λ n. number_goes_on true (n ∷ [])) (eqb-true b new_line new)
number_goes_on-new_line true b (c ∷ text) new = ap (λ n. number_goes_on true (n ∷ c ∷ text)) (eqb-true b new_line new)
number_goes_on-new_line false b [] new = ap (λ n. number_goes_on false (n ∷ [])) (eqb-true b new_line new)
number_goes_on-new_line false b (c ∷ text) new = ap (λ n. number_goes_on false (n ∷ c ∷ text)) (eqb-true b new_line new)

is_number_tail-new_line : (sign : Bool) (left : ℕ) (text : List ℕ) → has_new_line text ≡ true → is_number_tail sign left text ≡ false
is_number_tail-new_line sign left [] has = absurd (true≢false (sym has))
is_number_tail-new_line sign left (b ∷ text) has =
    ⊎_elim
    (λ new. ap (λ goes_on. goes_on && is_number_tail (sign_behind left b) (universal_left left (b ∷ text)) text) (number_goes_on-new_line sign b text new))
    (λ other.
    and_none (number_goes_on sign (b ∷ text)) _
    (is_number_tail-new_line (sign_behind left b) (universal_left left (b ∷ text)) text (ap (λ here. here || has_new_line text) (sym other) ∙ has)))
    (cases_Bool (b == new_line))

is_empty-new_line : (text : List ℕ) → has_new_line text ≡ true → is_empty text ≡ false
is_empty-new_line [] has = absurd (true≢false (sym has))
is_empty-new_line (b ∷ text) has = refl

ends_quoted-new_line : (quote : ℕ) (escaped : Bool) (text : List ℕ) → has_new_line text ≡ true → ends_quoted quote escaped text ≡ false
ends_quoted-new_line quote escaped [] has = refl
ends_quoted-new_line quote escaped (b ∷ text) has =
    let closes = b == quote && not escaped in
    let later = ends_quoted quote (b == backslash && not escaped) text in
    ⊎_elim
    (λ new. ap (λ here. not here && (if closes then is_empty text else later)) new)
    (λ other.
    let behind : has_new_line text ≡ true = ap (λ here. here || has_new_line text) (sym other) ∙ has in
    and_none (not (b == new_line)) _
    (elim closes as (λ (closing : Bool). (if closing then is_empty text else later) ≡ false) [
      | true ↦ is_empty-new_line text behind
      | false ↦ ends_quoted-new_line quote (b == backslash && not escaped) text behind
    ]))
    (cases_Bool (b == new_line))

is_quoted-new_line : (quote : ℕ) (text : List ℕ) → (quote == new_line) ≡ false → has_new_line text ≡ true → is_quoted quote text ≡ false
is_quoted-new_line quote [] mark has = refl
is_quoted-new_line quote (b ∷ text) mark has =
    ⊎_elim
    (λ same.
    let behind : has_new_line text ≡ true = ap (λ here. here || has_new_line text) (sym (ap (λ n. n == new_line) (eqb-true b quote same) ∙ mark)) ∙ has in
    and_none (b == quote) _ (ends_quoted-new_line quote false text behind))
    (λ other. ap (λ here. here && ends_quoted quote false text) other)
    (cases_Bool (b == quote))

-- what stands behind a prefix still has it
behind_prefix : (b : ℕ) (text : List ℕ) → is_prefix_letter b ≡ true → has_new_line (b ∷ text) ≡ true → has_new_line text ≡ true
behind_prefix b text letter has =
    ⊎_elim
    (λ new. absurd (both_ways (is_prefix_letter b) (ap is_prefix_letter (eqb-true b new_line new)) letter))
    (λ other. ap (λ here. here || has_new_line text) (sym other) ∙ has)
    (cases_Bool (b == new_line))

is_character-new_line : (text : List ℕ) → has_new_line text ≡ true → is_character text ≡ false
is_character-new_line [] has = refl
is_character-new_line (b ∷ text) has =
    ⊎_elim
    (λ letter.
    ap (λ prefix. is_quoted single_quote (drop (if prefix then 1 else 0) (b ∷ text))) letter
    ∙ is_quoted-new_line single_quote text refl (behind_prefix b text letter has))
    (λ none.
    ap (λ prefix. is_quoted single_quote (drop (if prefix then 1 else 0) (b ∷ text))) none
    ∙ is_quoted-new_line single_quote (b ∷ text) refl has)
    (cases_Bool (is_prefix_letter b))

is_string-short :
    (b : ℕ) (text : List ℕ) → has_new_line (b ∷ text) ≡ true → is_quoted double_quote (drop (character_prefix (b ∷ text)) (b ∷ text)) ≡ false
is_string-short b text has =
    ⊎_elim
    (λ letter.
    ap (λ prefix. is_quoted double_quote (drop (if prefix then 1 else 0) (b ∷ text))) letter
    ∙ is_quoted-new_line double_quote text refl (behind_prefix b text letter has))
    (λ none.
    ap (λ prefix. is_quoted double_quote (drop (if prefix then 1 else 0) (b ∷ text))) none
    ∙ is_quoted-new_line double_quote (b ∷ text) refl has)
    (cases_Bool (is_prefix_letter b))

is_string-new_line : (text : List ℕ) → has_new_line text ≡ true → is_string text ≡ false
is_string-new_line [] has = refl
is_string-new_line (b ∷ []) has = is_string-short b [] has
is_string-new_line (b ∷ c ∷ text) has =
    ⊎_elim
    (λ long.
    let parts = and_parts (b == lower_u) (c == digit_8) long in
    let behind : has_new_line text ≡ true =
    ap (λ n. n == new_line || has_new_line text) (sym (eqb-true c digit_8 parts.1))
    ∙ ap (λ n. n == new_line || (c == new_line || has_new_line text)) (sym (eqb-true b lower_u parts.0)) ∙ has in
    ap (λ prefix. is_quoted double_quote (drop (if prefix then 2 else character_prefix (b ∷ c ∷ text)) (b ∷ c ∷ text))) long
    ∙ is_quoted-new_line double_quote text refl behind)
    (λ short.
    ap (λ prefix. is_quoted double_quote (drop (if prefix then 2 else character_prefix (b ∷ c ∷ text)) (b ∷ c ∷ text))) short
    ∙ is_string-short b (c ∷ text) has)
    (cases_Bool (b == lower_u && c == digit_8))

is_stray-new_line : (text : List ℕ) → has_new_line text ≡ true → is_stray text ≡ false
is_stray-new_line [] has = refl
is_stray-new_line (b ∷ []) has =
    ⊎_elim
    (λ new. ap (λ n. is_stray (n ∷ [])) (eqb-true b new_line new))
    (λ other. absurd (both_ways (b == new_line || false) (ap (λ here. here || false) other) has))
    (cases_Bool (b == new_line))
is_stray-new_line (b ∷ c ∷ text) has = refl

is_number-new_line : (text : List ℕ) → has_new_line text ≡ true → is_number text ≡ false
is_number-new_line [] has = refl
is_number-new_line (b ∷ text) has =
    ⊎_elim
    (λ new. begins_number-new_line text new)
    (λ other. and_none (begins_number (b ∷ text)) _ (is_number_tail-new_line false 0 text (ap (λ here. here || has_new_line text) (sym other) ∙ has)))
    (cases_Bool (b == new_line))
  where
    begins_number-new_line : (text : List ℕ) → (b == new_line) ≡ true → begins_number (b ∷ text) && is_number_tail false 0 text ≡ false
    begins_number-new_line text new = ap (λ n. begins_number (n ∷ text) && is_number_tail false 0 text) (eqb-true b new_line new)

pub kind_in-new_line : (text : List ℕ) → has_new_line text ≡ true → kind_in false text ≡ None
unfolding kind_in
kind_in-new_line text has =
    rw (and_none (begins_identifier text) (is_word text) (is_word-new_line text has), is_number-new_line text has, is_character-new_line text has, is_string-new_line text has, punctuator_of-has_new_line text has, is_stray-new_line text has) refl

-- A line alone

-- a line without its end is given one
bytes_of-line :
    (open_line : Bool) (at : At) (b : ℕ) (text : List ℕ) → has_new_line (b ∷ text) ≡ false → bytes_of (logical_from open_line at (b ∷ text)) ≡ b ∷ text ++ new_line ∷ []
bytes_of-line open_line at b [] none =
    let other : (b == new_line) ≡ false = (or_parts (b == new_line) false none).0 in
    ap (λ here. b ∷ bytes_of (closing_line (not here) (behind_byte at b))) other
bytes_of-line open_line at b (c ∷ text) none =
    let parts = or_parts (b == new_line) (has_new_line (c ∷ text)) none in
    let second = or_parts (c == new_line) (has_new_line text) parts.1 in
    ap
    (λ (splice : Bool). bytes_of (elim splice as (λ _. List SourceByte) [
      | true ↦ logical_from open_line (behind_byte (behind_byte at b) c) text
      | false ↦ record { byte = b; at = at } ∷ logical_from (not (b == new_line)) (behind_byte at b) (c ∷ text)
    ]))
    (and_none (b == backslash) (c == new_line) second.0)
    ∙ ap (λ rest. b ∷ rest) (bytes_of-line (not (b == new_line)) (behind_byte at b) c text parts.1)

-- so what is found in it is found in the text with a new-line
pub found_token-line :
    (text : List ℕ) (all : List SourceByte) → (length text == 0) ≡ false → has_new_line text ≡ false → all ≡ logical_text 0 text →
    found_token false (bytes_of all) ≡ found_token false (text ++ new_line ∷ [])
found_token-line [] all some none is = absurd (true≢false some)
found_token-line (b ∷ text) all some none is =
    ap (found_token false) (ap bytes_of is ∙ bytes_of-line false (start_of 0) b text none)

-- The kind of a spelling

no_kind : (found : Option TokenKind) → ((kind : TokenKind) → found ≡ Some kind → ⊥) → found ≡ None
no_kind None refuted = refl
no_kind (Some kind) refuted = absurd (refuted kind refl)

-- found at the front of the line, it is the kind if it is the whole
pub kind_in-whole :
    (text : List ℕ) (kind : TokenKind) (count : ℕ) → Some (kind, count) ≡ found_token false (text ++ new_line ∷ []) → count ≡ length text → Some kind ≡ kind_in false text
kind_in-whole text kind count found whole =
    let front = found_token-IsTokenFront false (text ++ new_line ∷ []) (kind, count) (sym found) in
    sym front.is_kind ∙ ap (kind_in false) (take_at text (new_line ∷ []) count (sym whole))

-- a number that is no less than another, and not that, is above it
part_or : (m n : ℕ) → n ≤ m → (m ≡ n → ⊥) → n < m
part_or m n more part =
    ⊎_elim (λ same. absurd (part same)) (λ differs. ⊎_elim (λ below. absurd (omega (arith, below, more))) (λ above. above) differs) (cases_order m n)

-- and there is none where it is a part
pub kind_in-part :
    (text : List ℕ) (kind : TokenKind) (count : ℕ) → Some (kind, count) ≡ found_token false (text ++ new_line ∷ []) → (count ≡ length text → ⊥) → None ≡ kind_in false text
kind_in-part text kind count found part =
    sym
    (no_kind (kind_in false text)
    (λ other is.
    let line = text ++ new_line ∷ [] in
    let reached : length text ≤ count = subst (Reaches (length text)) (sym found) (kind_in-Reaches false text (new_line ∷ []) other is) in
    let front = found_token-IsTokenFront false line (kind, count) (sym found) in
    ⊎_elim
    (λ below. absurd (omega (arith, below, reached)))
    (λ more.
    let over : count ≡ length line = omega (arith, more, part_or count (length text) more part, front.within, length-append text (new_line ∷ [])) in
    none-some kind (sym (kind_in-new_line line (has_new_line-append text [])) ∙ ap (kind_in false) (sym (take-length line)) ∙ ap (λ n. kind_in false (take n line)) (sym over) ∙ front.is_kind))
    (cases_lt count (length text))))

pub kind_in-none : (text : List ℕ) → None ≡ found_token false (text ++ new_line ∷ []) → None ≡ kind_in false text
kind_in-none text none =
    sym (no_kind (kind_in false text) (λ other is. subst (Reaches (length text)) (sym none) (kind_in-Reaches false text (new_line ∷ []) other is)))
