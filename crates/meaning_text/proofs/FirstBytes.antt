-- With which bytes a token begins, and which tokens share no first byte.
use Rattle.std.proofs.Common.{◌≡◌, ℕ, Bool, true, false, ◌||◌, ◌==◌, List, [], ◌∷◌, ◌++◌, length, drop, Option, None, refl, sym, ap, ◌∙◌, inl, inr, true≢false, arith}
use Rattle.std.specs.Char.{is_ascii_digit}
use Rattle.std.proofs.lemmas.Bool.{cases_Bool, and_left, or_from, or_parts}
use Rattle.std.proofs.lemmas.Bool.Decides.{nat_tests}
use Rattle.std.proofs.lemmas.Option.{none-some}
use Rattle.meaning_text.specs.Bytes.{double_quote, single_quote, dot, less, backslash, is_white, is_nondigit, is_prefix_letter}
use Rattle.meaning_text.specs.Words.{begins_universal, begins_identifier, is_identifier, begins_digit, begins_number, is_number}
use Rattle.meaning_text.specs.Quoted.{is_character, is_string, is_header_name}
use Rattle.meaning_text.specs.Fronts.{longer_by, quoted_length, character_length, string_length, header_name_length}
use Rattle.meaning_text.proofs.Scans.{MeasuresFronts}
use Rattle.meaning_text.proofs.Literals.{string_prefix-none, character_measures, string_measures}
use Rattle.meaning_text.proofs.HeaderNames.{header_name_measures}
use Rattle.meaning_text.proofs.UniversalNames.{begins_universal-backslash}

-- what a header name begins with
abbrev pub opens_header_name : ℕ → Bool
opens_header_name b = b == less || b == double_quote

-- what a string literal begins with
abbrev pub opens_string : ℕ → Bool
opens_string b = is_prefix_letter b || b == double_quote

-- what a character constant begins with
abbrev pub opens_character : ℕ → Bool
opens_character b = is_prefix_letter b || b == single_quote

-- what an identifier begins with
abbrev pub opens_identifier : ℕ → Bool
opens_identifier b = is_nondigit b || b == backslash

-- what a number begins with
abbrev pub opens_number : ℕ → Bool
opens_number b = is_ascii_digit b || b == dot

-- No token of a class begins with another byte

-- no header name is found at another byte
pub header_name_length-none : (b : ℕ) (text : List ℕ) → opens_header_name b ≡ false → header_name_length (b ∷ text) ≡ None
header_name_length-none b text other =
    let parts = or_parts (b == less) (b == double_quote) other in
    rw (parts.0, parts.1) refl

-- nothing quoted is found where no quotation mark stands
pub quoted_length-none : (quote b : ℕ) (text : List ℕ) → (b == quote) ≡ false → quoted_length quote (b ∷ text) ≡ None
quoted_length-none quote b text other = rw other refl

-- no character constant is found at another byte
pub character_length-none : (b : ℕ) (text : List ℕ) → opens_character b ≡ false → character_length (b ∷ text) ≡ None
character_length-none b text other =
    let parts = or_parts (is_prefix_letter b) (b == single_quote) other in
    rw parts.0 (ap (longer_by 0) (quoted_length-none single_quote b text parts.1))

-- no string literal is found at another byte
pub string_length-none : (b : ℕ) (text : List ℕ) → opens_string b ≡ false → string_length (b ∷ text) ≡ None
string_length-none b text other =
    let parts = or_parts (is_prefix_letter b) (b == double_quote) other in
    ap (λ (p : ℕ). longer_by p (quoted_length double_quote (drop p (b ∷ text)))) (string_prefix-none b text parts.0)
    ∙ ap (longer_by 0) (quoted_length-none double_quote b text parts.1)

-- no identifier begins with another byte
pub begins_identifier-none : (b : ℕ) (text : List ℕ) → opens_identifier b ≡ false → begins_identifier (b ∷ text) ≡ false
begins_identifier-none b text other =
    let parts = or_parts (is_nondigit b) (b == backslash) other in
    elim (cases_Bool (begins_universal (b ∷ text))) [
      | inl universal ↦ absurd (true≢false (sym (begins_universal-backslash b text universal) ∙ parts.1))
      | inr none ↦ or_from _ _ parts.0 none
    ]

-- no number begins with another byte
begins_number-none : (b : ℕ) (text : List ℕ) → opens_number b ≡ false → begins_number (b ∷ text) ≡ false
begins_number-none b text other =
    let parts = or_parts (is_ascii_digit b) (b == dot) other in
    or_from _ _ parts.0 (and_left _ (begins_digit text) parts.1)

-- where no length is found, the text is no such spelling
pub not_measured :
    (found : List ℕ → Option ℕ) (is : List ℕ → Bool) (measures : MeasuresFronts found is) (front rest : List ℕ) → found (front ++ rest) ≡ None → is front ≡ false
not_measured found is measures front rest none =
    elim (cases_Bool (is front)) [
      | inl passing ↦ absurd (none-some (length front) (sym none ∙ measures.finds front rest passing))
      | inr other ↦ other
    ]

-- no header name begins with another byte
pub is_header_name-none : (b : ℕ) (text : List ℕ) → opens_header_name b ≡ false → is_header_name (b ∷ text) ≡ false
is_header_name-none b text other = not_measured header_name_length is_header_name header_name_measures (b ∷ text) [] (header_name_length-none b (text ++ []) other)

-- no character constant begins with another byte
pub is_character-none : (b : ℕ) (text : List ℕ) → opens_character b ≡ false → is_character (b ∷ text) ≡ false
is_character-none b text other = not_measured character_length is_character character_measures (b ∷ text) [] (character_length-none b (text ++ []) other)

-- no string literal begins with another byte
pub is_string-none : (b : ℕ) (text : List ℕ) → opens_string b ≡ false → is_string (b ∷ text) ≡ false
is_string-none b text other = not_measured string_length is_string string_measures (b ∷ text) [] (string_length-none b (text ++ []) other)

-- no identifier is spelled with another first byte
pub is_identifier-none : (b : ℕ) (text : List ℕ) → opens_identifier b ≡ false → is_identifier (b ∷ text) ≡ false
is_identifier-none b text other = and_left _ _ (begins_identifier-none b text other)

-- no number is spelled with another first byte
pub is_number-none : (b : ℕ) (text : List ℕ) → opens_number b ≡ false → is_number (b ∷ text) ≡ false
is_number-none b text other = and_left _ _ (begins_number-none b text other)

-- so what is one begins with such a byte
true_unless : (test opens : Bool) → (opens ≡ false → test ≡ false) → test ≡ true → opens ≡ true
true_unless test true none is = refl
true_unless test false none is = absurd (true≢false (sym is ∙ none refl))

-- a character constant begins so
pub is_character-opens : (b : ℕ) (text : List ℕ) → is_character (b ∷ text) ≡ true → opens_character b ≡ true
is_character-opens b text is = true_unless (is_character (b ∷ text)) (opens_character b) (is_character-none b text) is

-- a string literal begins so
pub is_string-opens : (b : ℕ) (text : List ℕ) → is_string (b ∷ text) ≡ true → opens_string b ≡ true
is_string-opens b text is = true_unless (is_string (b ∷ text)) (opens_string b) (is_string-none b text) is

-- an identifier begins so
pub begins_identifier-opens : (b : ℕ) (text : List ℕ) → begins_identifier (b ∷ text) ≡ true → opens_identifier b ≡ true
begins_identifier-opens b text is = true_unless (begins_identifier (b ∷ text)) (opens_identifier b) (begins_identifier-none b text) is

-- a number begins so
pub begins_number-opens : (b : ℕ) (text : List ℕ) → begins_number (b ∷ text) ≡ true → opens_number b ≡ true
begins_number-opens b text is = true_unless (begins_number (b ∷ text)) (opens_number b) (begins_number-none b text) is

-- Bytes that open one class open no other

-- nothing but a number or a punctuator begins with the byte
pub record OpensNumberAlone (b : ℕ) : Type 0 where
  pub no_header_name : opens_header_name b ≡ false
  pub no_string : opens_string b ≡ false
  pub no_character : opens_character b ≡ false
  pub no_identifier : opens_identifier b ≡ false

-- a digit and a dot are such bytes
pub opens_number-alone : (b : ℕ) → opens_number b ≡ true → OpensNumberAlone b
opens_number-alone b opens = record {
  no_header_name = grind (arith, nat_tests);
  no_string = grind (arith, nat_tests);
  no_character = grind (arith, nat_tests);
  no_identifier = grind (arith, nat_tests);
}

-- no identifier begins as a header name does
pub opens_header_name-identifier : (b : ℕ) → opens_identifier b ≡ true → opens_header_name b ≡ false
opens_header_name-identifier b opens = grind (arith, nat_tests)

-- no character constant begins as a header name does
pub opens_header_name-character : (b : ℕ) → opens_character b ≡ true → opens_header_name b ≡ false
opens_header_name-character b opens = grind (arith, nat_tests)

-- no character constant begins as a number does
pub opens_number-character : (b : ℕ) → opens_character b ≡ true → opens_number b ≡ false
opens_number-character b opens = grind (arith, nat_tests)

-- no string literal begins as a number does
pub opens_number-string : (b : ℕ) → opens_string b ≡ true → opens_number b ≡ false
opens_number-string b opens = grind (arith, nat_tests)

-- white space opens none
pub record OpensNone (b : ℕ) : Type 0 where
  pub no_header_name : opens_header_name b ≡ false
  pub no_string : opens_string b ≡ false
  pub no_character : opens_character b ≡ false
  pub no_identifier : opens_identifier b ≡ false
  pub no_number : opens_number b ≡ false

-- white space is such a byte
pub opens-white : (b : ℕ) → is_white b ≡ true → OpensNone b
opens-white b white = record {
  no_header_name = grind (arith, nat_tests);
  no_string = grind (arith, nat_tests);
  no_character = grind (arith, nat_tests);
  no_identifier = grind (arith, nat_tests);
  no_number = grind (arith, nat_tests);
}
