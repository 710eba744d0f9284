-- No spelling is of two kinds, but for a header name that is a string literal too.
use Rattle.std.proofs.Common.{◌≡◌, ℕ, zero, suc, ◌<◌, true, false, ◌&&◌, ◌||◌, ◌==◌, List, [], ◌∷◌, ◌++◌, length, drop, Some, None, refl, sym, ap, ◌∙◌, inl, inr, ⊎_elim, arith, length-drop, lt_irrefl}
use Rattle.std.proofs.lemmas.Bool.{cases_Bool, cases_lt, and_parts, or_cases, and_right, or_left, or_right, false_from_ne_true}
use Rattle.std.proofs.lemmas.Bool.Decides.{nat_tests}
use Rattle.std.proofs.lemmas.List.{drop-append-le}
use Rattle.std.proofs.lemmas.Option.{none-some}
use Rattle.meaning_text.specs.Bytes.{double_quote, single_quote, lower_u, digit_8, backslash, is_quotation_mark, is_word_byte, is_prefix_letter}
use Rattle.meaning_text.specs.Words.{word_goes_on, begins_universal, begins_identifier, is_word, is_identifier, is_number}
use Rattle.meaning_text.specs.Quoted.{character_prefix, string_prefix, is_character, is_string, is_header_name}
use Rattle.meaning_text.specs.Fronts.{longer_by, quoted_length, character_length, string_length}
use Rattle.meaning_text.proofs.Scans.{longer_by-Some}
use Rattle.meaning_text.proofs.Literals.{quoted_measures, string_prefix-none, character_measures, string_measures}
use Rattle.meaning_text.proofs.UniversalNames.{begins_universal-backslash}
use Rattle.meaning_text.proofs.FirstBytes.{OpensNumberAlone, opens_number-alone, opens_header_name-identifier, opens_header_name-character, opens_number-character, opens_number-string, quoted_length-none, is_header_name-none, is_identifier-none, is_number-none, is_character-opens, is_string-opens, begins_identifier-opens, begins_number-opens}

-- Words and literals

-- the rest of a word is one
is_word-drop : (count : ℕ) (text : List ℕ) → is_word text ≡ true → is_word (drop count text) ≡ true
is_word-drop zero text is = is
is_word-drop (suc count) [] is = refl
is_word-drop (suc count) (b ∷ text) is = is_word-drop count text (and_parts (word_goes_on (b ∷ text)) _ is).1

-- no byte of a word is a quotation mark
no_quote-word : (quote b : ℕ) → is_quotation_mark quote ≡ true → (b == quote) ≡ true → (is_word_byte b || b == backslash) ≡ true → ⊥
no_quote-word quote b mark here word = grind (arith, nat_tests)

-- what goes on with a word begins with such a byte
word_goes_on-byte : (b : ℕ) (text : List ℕ) → word_goes_on (b ∷ text) ≡ true → (is_word_byte b || b == backslash) ≡ true
word_goes_on-byte b text is =
    ⊎_elim (λ byte. or_left _ (b == backslash) byte) (λ universal. or_right (is_word_byte b) _ (begins_universal-backslash b text universal))
    (or_cases (is_word_byte b) (begins_universal (b ∷ text)) is)

-- a word in which a literal opens is empty
length-word_quoted :
    (quote : ℕ) (front rest : List ℕ) (count : ℕ) → is_quotation_mark quote ≡ true → is_word front ≡ true → quoted_length quote (front ++ rest) ≡ Some count
    → length front ≡ 0
length-word_quoted quote [] rest count mark word found = refl
length-word_quoted quote (b ∷ front) rest count mark word found =
    elim (cases_Bool (b == quote)) [
      | inl here ↦ absurd (no_quote-word quote b mark here (word_goes_on-byte b front (and_parts (word_goes_on (b ∷ front)) _ word).0))
      | inr other ↦ absurd (none-some count (sym (quoted_length-none quote b (front ++ rest) other) ∙ found))
    ]

-- a literal is longer than each word that begins where it begins
length-word_prefixed :
    (prefix quote : ℕ) (front rest : List ℕ) (count : ℕ) → is_quotation_mark quote ≡ true → is_word front ≡ true
    → longer_by prefix (quoted_length quote (drop prefix (front ++ rest))) ≡ Some count → length front < count
length-word_prefixed prefix quote front rest count mark word found =
    let inner = longer_by-Some prefix count (quoted_length quote (drop prefix (front ++ rest))) found in
    let some = ((quoted_measures quote).passes (drop prefix (front ++ rest)) inner.0 inner.1).some in
    let total = inner.2 in
    ⊎_elim
    (λ short. omega (arith, total, some))
    (λ within.
    let behind = ap (quoted_length quote) (sym (drop-append-le prefix front rest within)) ∙ inner.1 in
    let empty = length-word_quoted quote (drop prefix front) rest inner.0 mark (is_word-drop prefix front word) behind in
    omega (arith, total, some, empty, length-drop prefix front))
    (cases_lt (length front) prefix)

-- so it is with string literals
pub length-word_string : (front rest : List ℕ) (count : ℕ) → is_word front ≡ true → string_length (front ++ rest) ≡ Some count → length front < count
length-word_string front rest count word found = length-word_prefixed (string_prefix (front ++ rest)) double_quote front rest count refl word found

-- and with character constants
pub length-word_character : (front rest : List ℕ) (count : ℕ) → is_word front ≡ true → character_length (front ++ rest) ≡ Some count → length front < count
length-word_character front rest count word found = length-word_prefixed (character_prefix (front ++ rest)) single_quote front rest count refl word found

-- Characters and strings

-- a quotation mark is no digit
digit_8-quote : (c : ℕ) → (c == single_quote) ≡ true → (c == digit_8) ≡ false
digit_8-quote c is = grind (arith, nat_tests)

-- and the one quotation mark is not the other
double_quote-quote : (c : ℕ) → (c == single_quote) ≡ true → (c == double_quote) ≡ false
double_quote-quote c is = grind (arith, nat_tests)

-- where a prefix is, its quotation mark stands behind it
prefixed_character :
    (b : ℕ) (text : List ℕ) (count : ℕ) → longer_by 1 (quoted_length single_quote text) ≡ Some count → is_prefix_letter b ≡ true → string_length (b ∷ text) ≡ None
prefixed_character b [] count found letter = absurd (none-some count found)
prefixed_character b (c ∷ text) count found letter =
    elim (cases_Bool (c == single_quote)) [
      | inl here ↦
          let no_u8 : (b == lower_u && c == digit_8) ≡ false = and_right (b == lower_u) _ (digit_8-quote c here) in
          rw (letter, no_u8) (ap (longer_by 1) (quoted_length-none double_quote c text (double_quote-quote c here)))
      | inr other ↦ absurd (none-some count (sym (ap (longer_by 1) (quoted_length-none single_quote c text other)) ∙ found))
    ]

-- nor where one stands without a prefix
bare_character :
    (b : ℕ) (text : List ℕ) (count : ℕ) → longer_by 0 (quoted_length single_quote (b ∷ text)) ≡ Some count → is_prefix_letter b ≡ false → string_length (b ∷ text) ≡ None
bare_character b text count found letter =
    elim (cases_Bool (b == single_quote)) [
      | inl here ↦
          ap (λ (p : ℕ). longer_by p (quoted_length double_quote (drop p (b ∷ text)))) (string_prefix-none b text letter)
          ∙ ap (longer_by 0) (quoted_length-none double_quote b text (double_quote-quote b here))
      | inr other ↦ absurd (none-some count (sym (ap (longer_by 0) (quoted_length-none single_quote b text other)) ∙ found))
    ]

-- where a character constant stands, no string literal does
pub string_length-character : (text : List ℕ) (count : ℕ) → character_length text ≡ Some count → string_length text ≡ None
string_length-character [] count found = absurd (none-some count found)
string_length-character (b ∷ text) count found =
    elim (cases_Bool (is_prefix_letter b)) [
      | inl letter ↦ prefixed_character b text count (rw letter at found) letter
      | inr none ↦ bare_character b text count (rw none at found) none
    ]

-- Whole spellings

-- no identifier is a header name
pub is_header_name-identifier : (text : List ℕ) → is_identifier text ≡ true → is_header_name text ≡ false
is_header_name-identifier [] is = refl
is_header_name-identifier (b ∷ text) is =
    is_header_name-none b text (opens_header_name-identifier b (begins_identifier-opens b text (and_parts (begins_identifier (b ∷ text)) _ is).0))

-- no character constant is a header name
pub is_header_name-character : (text : List ℕ) → is_character text ≡ true → is_header_name text ≡ false
is_header_name-character [] is = refl
is_header_name-character (b ∷ text) is = is_header_name-none b text (opens_header_name-character b (is_character-opens b text is))

-- a number begins as nothing else does
number_opens : (b : ℕ) (text : List ℕ) → is_number (b ∷ text) ≡ true → OpensNumberAlone b
number_opens b text is = opens_number-alone b (begins_number-opens b text (and_parts _ _ is).0)

-- no number is a header name
pub is_header_name-number : (text : List ℕ) → is_number text ≡ true → is_header_name text ≡ false
is_header_name-number [] is = refl
is_header_name-number (b ∷ text) is = is_header_name-none b text (number_opens b text is).no_header_name

-- no number is an identifier
pub is_identifier-number : (text : List ℕ) → is_number text ≡ true → is_identifier text ≡ false
is_identifier-number [] is = refl
is_identifier-number (b ∷ text) is = is_identifier-none b text (number_opens b text is).no_identifier

-- no character constant is a number
pub is_number-character : (text : List ℕ) → is_character text ≡ true → is_number text ≡ false
is_number-character [] is = refl
is_number-character (b ∷ text) is = is_number-none b text (opens_number-character b (is_character-opens b text is))

-- no string literal is a number
pub is_number-string : (text : List ℕ) → is_string text ≡ true → is_number text ≡ false
is_number-string [] is = refl
is_number-string (b ∷ text) is = is_number-none b text (opens_number-string b (is_string-opens b text is))

-- no character constant is an identifier
pub is_identifier-character : (text : List ℕ) → is_character text ≡ true → is_identifier text ≡ false
is_identifier-character text is =
    false_from_ne_true (is_identifier text) (λ named.
    lt_irrefl (length text) (length-word_character text [] (length text) (and_parts (begins_identifier text) _ named).1 (character_measures.finds text [] is)))

-- no string literal is an identifier
pub is_identifier-string : (text : List ℕ) → is_string text ≡ true → is_identifier text ≡ false
is_identifier-string text is =
    false_from_ne_true (is_identifier text) (λ named.
    lt_irrefl (length text) (length-word_string text [] (length text) (and_parts (begins_identifier text) _ named).1 (string_measures.finds text [] is)))

-- no string literal is a character constant
pub is_character-string : (text : List ℕ) → is_string text ≡ true → is_character text ≡ false
is_character-string text is =
    false_from_ne_true (is_character text) (λ other.
    none-some (length text) (sym (string_length-character (text ++ []) (length text) (character_measures.finds text [] other)) ∙ string_measures.finds text [] is))
