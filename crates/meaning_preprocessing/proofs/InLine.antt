-- No token has a new-line in its spelling.
use Rattle.std.proofs.Common.{◌≡◌, ℕ, Bool, true, false, not, ◌==◌, ◌&&◌, ◌||◌, List, [], ◌∷◌, Some, bytes_eq, drop, refl, sym, ap, ◌∙◌, inl, inr, true≢false, arith, if◌then◌else◌}
use Rattle.std.specs.List.{list_all}
use Rattle.std.proofs.lemmas.Bool.{cases_Bool, cond-true, cond-false, and_parts, and_from, or_cases, not_from_false}
use Rattle.std.proofs.lemmas.Bool.Decides.{nat_tests}
use Rattle.std.proofs.lemmas.Option.{none-some}
use Rattle.std.proofs.lemmas.Slice.Eq.{bytes_eq-Decides}
use Rattle.vocabulary.specs.declared.token_kind.TokenKind.{TokenKind}
use Rattle.meaning_text.specs.Bytes.{new_line, double_quote, single_quote, less, greater, dot, digit_8, lower_u, backslash, is_prefix_letter, is_word_byte, is_sign}
use Rattle.meaning_text.specs.Words.{begins_universal, word_goes_on, is_word, begins_identifier, begins_number, number_goes_on, is_number_tail, universal_left, sign_behind, is_number}
use Rattle.meaning_text.specs.Quoted.{is_empty, ends_quoted, is_quoted, character_prefix, is_character, is_string, ends_name, closes_name, is_header_name}
use Rattle.meaning_text.specs.Punctuators.{PunctuatorRow, plain_punctuators, digraphs, punctuators, punctuator_among, punctuator_of}
use Rattle.meaning_text.specs.Kinds.{is_stray, is_stray_byte, kind_in}
use Rattle.meaning_text.proofs.KindsOfSpellings.{OfHeaderName, OfIdentifier, OfNumber, OfCharacter, OfString, OfPunctuator, OfStray, OfNone, kind_cases}
use Rattle.meaning_text.proofs.UniversalNames.{begins_universal-backslash}

-- these bytes are in one line
abbrev pub is_in_line : List ℕ → Bool
is_in_line text = list_all (λ b. not (b == new_line)) text

-- a byte in a line, and others
in_line_more : (b : ℕ) (text : List ℕ) → (b == new_line) ≡ false → is_in_line text ≡ true → is_in_line (b ∷ text) ≡ true
in_line_more b text inside others = and_from _ _ (not_from_false _ inside) others

-- Header names and literals

empty_in_line : (text : List ℕ) → is_empty text ≡ true → is_in_line text ≡ true
empty_in_line [] empty = refl
empty_in_line (b ∷ text) empty = absurd (true≢false (sym empty))

ends_name-in_line : (closing : ℕ) (text : List ℕ) → ends_name closing text ≡ true → is_in_line text ≡ true
ends_name-in_line closing [] is = refl
ends_name-in_line closing (b ∷ text) is =
    let parts = and_parts (not (b == new_line)) (if b == closing then is_empty text else ends_name closing text) is in
    and_from _ _ parts.0
    (elim (cases_Bool (b == closing)) [
      | inl same ↦ empty_in_line text (sym (cond-true (b == closing) (is_empty text) (ends_name closing text) same) ∙ parts.1)
      | inr other ↦ ends_name-in_line closing text (sym (cond-false (b == closing) (is_empty text) (ends_name closing text) other) ∙ parts.1)
    ])

closes_name-in_line : (closing : ℕ) (text : List ℕ) → closes_name closing text ≡ true → is_in_line text ≡ true
closes_name-in_line closing [] is = refl
closes_name-in_line closing (b ∷ text) is = ends_name-in_line closing (b ∷ text) (and_parts (not (b == closing)) (ends_name closing (b ∷ text)) is).1

no_new_line-less : (b : ℕ) → (b == less) ≡ true → (b == new_line) ≡ false
no_new_line-less b is = grind (arith, nat_tests)

no_new_line-double : (b : ℕ) → (b == double_quote) ≡ true → (b == new_line) ≡ false
no_new_line-double b is = grind (arith, nat_tests)

no_new_line-single : (b : ℕ) → (b == single_quote) ≡ true → (b == new_line) ≡ false
no_new_line-single b is = grind (arith, nat_tests)

header_name-in_line : (text : List ℕ) → is_header_name text ≡ true → is_in_line text ≡ true
header_name-in_line [] is = refl
header_name-in_line (b ∷ text) is =
    elim (or_cases (b == less && closes_name greater text) (b == double_quote && closes_name double_quote text) is) [
      | inl angles ↦
          let parts = and_parts (b == less) (closes_name greater text) angles in
          in_line_more b text (no_new_line-less b parts.0) (closes_name-in_line greater text parts.1)
      | inr quotes ↦
          let parts = and_parts (b == double_quote) (closes_name double_quote text) quotes in
          in_line_more b text (no_new_line-double b parts.0) (closes_name-in_line double_quote text parts.1)
    ]

ends_quoted-in_line : (quote : ℕ) (escaped : Bool) (text : List ℕ) → ends_quoted quote escaped text ≡ true → is_in_line text ≡ true
ends_quoted-in_line quote escaped [] is = refl
ends_quoted-in_line quote escaped (b ∷ text) is =
    let parts = and_parts (not (b == new_line))
    (if b == quote && not escaped then is_empty text else ends_quoted quote (b == backslash && not escaped) text) is in
    and_from _ _ parts.0
    (elim (cases_Bool (b == quote && not escaped)) [
      | inl same ↦
          empty_in_line text
          (sym (cond-true (b == quote && not escaped) (is_empty text) (ends_quoted quote (b == backslash && not escaped) text) same) ∙ parts.1)
      | inr other ↦
          ends_quoted-in_line quote (b == backslash && not escaped) text
          (sym (cond-false (b == quote && not escaped) (is_empty text) (ends_quoted quote (b == backslash && not escaped) text) other) ∙ parts.1)
    ])

quoted-in_line : (quote : ℕ) (text : List ℕ) → ((b : ℕ) → (b == quote) ≡ true → (b == new_line) ≡ false) → is_quoted quote text ≡ true → is_in_line text ≡ true
quoted-in_line quote [] apart is = refl
quoted-in_line quote (b ∷ text) apart is =
    let parts = and_parts (b == quote) (ends_quoted quote false text) is in
    in_line_more b text (apart b parts.0) (ends_quoted-in_line quote false text parts.1)

no_new_line-prefix : (b : ℕ) → is_prefix_letter b ≡ true → (b == new_line) ≡ false
no_new_line-prefix b is = grind (arith, nat_tests)

character-in_line : (text : List ℕ) → is_character text ≡ true → is_in_line text ≡ true
character-in_line [] is = refl
character-in_line (b ∷ text) is =
    elim (cases_Bool (is_prefix_letter b)) [
      | inl letter ↦
          in_line_more b text (no_new_line-prefix b letter)
          (quoted-in_line single_quote text no_new_line-single
          (ap (λ v. is_quoted single_quote (drop (if v then 1 else 0) (b ∷ text))) (sym letter) ∙ is))
      | inr other ↦
          quoted-in_line single_quote (b ∷ text) no_new_line-single
          (ap (λ v. is_quoted single_quote (drop (if v then 1 else 0) (b ∷ text))) (sym other) ∙ is)
    ]

-- with a prefix of one letter at most
short_string-in_line : (b : ℕ) (text : List ℕ) → is_quoted double_quote (drop (character_prefix (b ∷ text)) (b ∷ text)) ≡ true → is_in_line (b ∷ text) ≡ true
short_string-in_line b text is =
    elim (cases_Bool (is_prefix_letter b)) [
      | inl letter ↦
          in_line_more b text (no_new_line-prefix b letter)
          (quoted-in_line double_quote text no_new_line-double
          (ap (λ v. is_quoted double_quote (drop (if v then 1 else 0) (b ∷ text))) (sym letter) ∙ is))
      | inr other ↦
          quoted-in_line double_quote (b ∷ text) no_new_line-double
          (ap (λ v. is_quoted double_quote (drop (if v then 1 else 0) (b ∷ text))) (sym other) ∙ is)
    ]

no_new_line-u : (b : ℕ) → (b == lower_u) ≡ true → (b == new_line) ≡ false
no_new_line-u b is = grind (arith, nat_tests)

no_new_line-8 : (b : ℕ) → (b == digit_8) ≡ true → (b == new_line) ≡ false
no_new_line-8 b is = grind (arith, nat_tests)

string-in_line : (text : List ℕ) → is_string text ≡ true → is_in_line text ≡ true
string-in_line [] is = refl
string-in_line (b ∷ []) is = short_string-in_line b [] is
string-in_line (b ∷ c ∷ text) is =
    elim (cases_Bool (b == lower_u && c == digit_8)) [
      | inl both ↦
          let parts = and_parts (b == lower_u) (c == digit_8) both in
          in_line_more b (c ∷ text) (no_new_line-u b parts.0)
          (in_line_more c text (no_new_line-8 c parts.1)
          (quoted-in_line double_quote text no_new_line-double
          (ap (λ v. is_quoted double_quote (drop (if v then 2 else character_prefix (b ∷ c ∷ text)) (b ∷ c ∷ text))) (sym both) ∙ is)))
      | inr other ↦
          short_string-in_line b (c ∷ text)
          (ap (λ v. is_quoted double_quote (drop (if v then 2 else character_prefix (b ∷ c ∷ text)) (b ∷ c ∷ text))) (sym other) ∙ is)
    ]

-- Words and numbers

no_new_line-word_byte : (b : ℕ) → is_word_byte b ≡ true → (b == new_line) ≡ false
no_new_line-word_byte b is = grind (arith, nat_tests)

no_new_line-backslash : (b : ℕ) → (b == backslash) ≡ true → (b == new_line) ≡ false
no_new_line-backslash b is = grind (arith, nat_tests)

no_new_line-dot : (b : ℕ) → (b == dot) ≡ true → (b == new_line) ≡ false
no_new_line-dot b is = grind (arith, nat_tests)

no_new_line-sign : (b : ℕ) → is_sign b ≡ true → (b == new_line) ≡ false
no_new_line-sign b is = grind (arith, nat_tests)

word_goes_on-in_line : (b : ℕ) (text : List ℕ) → word_goes_on (b ∷ text) ≡ true → (b == new_line) ≡ false
word_goes_on-in_line b text is =
    elim (or_cases (is_word_byte b) (begins_universal (b ∷ text)) is) [
      | inl word ↦ no_new_line-word_byte b word
      | inr universal ↦ no_new_line-backslash b (begins_universal-backslash b text universal)
    ]

word-in_line : (text : List ℕ) → is_word text ≡ true → is_in_line text ≡ true
word-in_line [] is = refl
word-in_line (b ∷ text) is =
    let parts = and_parts (word_goes_on (b ∷ text)) (is_word text) is in
    in_line_more b text (word_goes_on-in_line b text parts.0) (word-in_line text parts.1)

number_goes_on-in_line : (sign : Bool) (b : ℕ) (text : List ℕ) → number_goes_on sign (b ∷ text) ≡ true → (b == new_line) ≡ false
number_goes_on-in_line sign b text is =
    elim (or_cases (word_goes_on (b ∷ text) || b == dot) (sign && is_sign b) is) [
      | inl first ↦ elim (or_cases (word_goes_on (b ∷ text)) (b == dot) first) [
        | inl word ↦ word_goes_on-in_line b text word
        | inr point ↦ no_new_line-dot b point
      ]
      | inr last ↦ no_new_line-sign b (and_parts sign (is_sign b) last).1
    ]

number_tail-in_line : (sign : Bool) (left : ℕ) (text : List ℕ) → is_number_tail sign left text ≡ true → is_in_line text ≡ true
number_tail-in_line sign left [] is = refl
number_tail-in_line sign left (b ∷ text) is =
    let parts = and_parts (number_goes_on sign (b ∷ text)) (is_number_tail (sign_behind left b) (universal_left left (b ∷ text)) text) is in
    in_line_more b text (number_goes_on-in_line sign b text parts.0)
    (number_tail-in_line (sign_behind left b) (universal_left left (b ∷ text)) text parts.1)

begins_number-in_line : (b : ℕ) (text : List ℕ) → begins_number (b ∷ text) ≡ true → (b == new_line) ≡ false
begins_number-in_line b text is = grind (arith, nat_tests)

number-in_line : (text : List ℕ) → is_number text ≡ true → is_in_line text ≡ true
number-in_line [] is = refl
number-in_line (b ∷ text) is =
    let parts = and_parts (begins_number (b ∷ text)) (is_number_tail false 0 text) is in
    in_line_more b text (begins_number-in_line b text parts.0) (number_tail-in_line false 0 text parts.1)

-- Punctuators and other bytes

among-in_line : (rows : List PunctuatorRow) (text : List ℕ) (punctuator : TokenKind) → list_all (λ row. is_in_line row.spelling) rows ≡ true
    → punctuator_among rows text ≡ Some punctuator → is_in_line text ≡ true
among-in_line [] text punctuator all found = absurd (none-some punctuator found)
among-in_line (row ∷ rows) text punctuator all found =
    let parts = and_parts (is_in_line row.spelling) (list_all (λ other. is_in_line other.spelling) rows) all in
    elim (cases_Bool (bytes_eq row.spelling text)) [
      | inl here ↦ ap is_in_line (sym ((bytes_eq-Decides row.spelling text).0 here)) ∙ parts.0
      | inr elsewhere ↦ among-in_line rows text punctuator parts.1 (sym (cond-false (bytes_eq row.spelling text) _ _ elsewhere) ∙ found)
    ]

punctuator-in_line : (text : List ℕ) (punctuator : TokenKind) → punctuator_of text ≡ Some punctuator → is_in_line text ≡ true
unfolding punctuator_of punctuators plain_punctuators digraphs
punctuator-in_line text punctuator found = among-in_line punctuators text punctuator refl found

stray_byte-in_line : (b : ℕ) → is_stray_byte b ≡ true → (b == new_line) ≡ false
stray_byte-in_line b is = grind (arith, nat_tests)

stray-in_line : (text : List ℕ) → is_stray text ≡ true → is_in_line text ≡ true
stray-in_line [] is = refl
stray-in_line (b ∷ []) is = in_line_more b [] (stray_byte-in_line b is) refl
stray-in_line (b ∷ c ∷ text) is = absurd (true≢false (sym is))

-- each spelling that has a kind is in one line
pub kind_in-in_line : (allowed : Bool) (text : List ℕ) (kind : TokenKind) → kind_in allowed text ≡ Some kind → is_in_line text ≡ true
kind_in-in_line allowed text kind is =
    elim (kind_cases allowed text) [
      | OfHeaderName allows name ↦ header_name-in_line text name
      | OfIdentifier identifier ↦ word-in_line text (and_parts (begins_identifier text) (is_word text) identifier).1
      | OfNumber number ↦ number-in_line text number
      | OfCharacter character ↦ character-in_line text character
      | OfString string ↦ string-in_line text string
      | OfPunctuator punctuator found ↦ punctuator-in_line text punctuator found
      | OfStray stray ↦ stray-in_line text stray
      | OfNone none ↦ absurd (none-some kind (sym none ∙ is))
    ]
