-- The tests behind the kind of a spelling, one by one.
use Rattle.std.proofs.Common.{◌≡◌, ℕ, Bool, true, false, ◌&&◌, List, [], ◌∷◌, Option, Some, None, refl, sym, ◌∙◌, ◌⊎◌, inl, inr, true≢false}
use Rattle.std.proofs.lemmas.Bool.{cases_Bool, and_parts, and_right, not_from_true, or_left}
use Rattle.vocabulary.specs.declared.token_kind.TokenKind.{TokenKind}
use Rattle.meaning_text.specs.Bytes.{is_white, is_quotation_mark}
use Rattle.meaning_text.specs.Words.{is_identifier, is_number}
use Rattle.meaning_text.specs.Quoted.{is_character, is_string, is_header_name}
use Rattle.meaning_text.specs.Punctuators.{punctuator_of, punctuators, plain_punctuators, digraphs}
use Rattle.vocabulary.specs.declared.token_kind.TokenKind.TheVariants.{Identifier, Number, Character, String, HeaderName, Stray}
use Rattle.meaning_text.specs.Kinds.{is_stray, kind_in}
use Rattle.meaning_text.proofs.FirstBytes.{opens-white, is_header_name-none, is_identifier-none, is_number-none, is_character-none, is_string-none}
use Rattle.meaning_text.proofs.Punctuation.{punctuator-StandsApart}

-- a spelling that is no header name has the kind that it has where header names are not allowed
pub kind_in-no_header_name : (allowed : Bool) (text : List ℕ) → (allowed && is_header_name text) ≡ false → kind_in allowed text ≡ kind_in false text
unfolding kind_in
kind_in-no_header_name allowed text none = rw none refl

-- a header name, where they are allowed
pub kind_in-header_name : (text : List ℕ) → is_header_name text ≡ true → kind_in true text ≡ Some HeaderName
unfolding kind_in
kind_in-header_name text is = rw is refl

-- an identifier
pub kind_in-identifier : (text : List ℕ) → is_identifier text ≡ true → kind_in false text ≡ Some Identifier
unfolding kind_in
kind_in-identifier text is = rw is refl

-- a number
pub kind_in-number : (text : List ℕ) → is_identifier text ≡ false → is_number text ≡ true → kind_in false text ≡ Some Number
unfolding kind_in
kind_in-number text no_identifier is = rw (no_identifier, is) refl

-- a character constant
pub kind_in-character : (text : List ℕ) → is_identifier text ≡ false → is_number text ≡ false → is_character text ≡ true → kind_in false text ≡ Some Character
unfolding kind_in
kind_in-character text no_identifier no_number is = rw (no_identifier, no_number, is) refl

-- a string literal
pub kind_in-string :
    (text : List ℕ) → is_identifier text ≡ false → is_number text ≡ false → is_character text ≡ false → is_string text ≡ true → kind_in false text ≡ Some String
unfolding kind_in
kind_in-string text no_identifier no_number no_character is = rw (no_identifier, no_number, no_character, is) refl

-- a spelling without a kind of its own: a punctuator, a stray byte, or none
pub record IsOther (text : List ℕ) : Type 0 where
  pub no_identifier : is_identifier text ≡ false
  pub no_number : is_number text ≡ false
  pub no_character : is_character text ≡ false
  pub no_string : is_string text ≡ false

-- such a spelling that is a punctuator
pub kind_in-punctuator : (text : List ℕ) (punctuator : TokenKind) → IsOther text → punctuator_of text ≡ Some punctuator → kind_in false text ≡ Some punctuator
unfolding kind_in
kind_in-punctuator text punctuator other is = rw (other.no_identifier, other.no_number, other.no_character, other.no_string, is) refl

-- one that is a stray byte
pub kind_in-stray : (text : List ℕ) → IsOther text → punctuator_of text ≡ None → is_stray text ≡ true → kind_in false text ≡ Some Stray
unfolding kind_in
kind_in-stray text other no_punctuator is = rw (other.no_identifier, other.no_number, other.no_character, other.no_string, no_punctuator, is) refl

-- and one that is neither
kind_in-none : (text : List ℕ) → IsOther text → punctuator_of text ≡ None → is_stray text ≡ false → kind_in false text ≡ None
unfolding kind_in
kind_in-none text other no_punctuator no_stray = rw (other.no_identifier, other.no_number, other.no_character, other.no_string, no_punctuator, no_stray) refl

-- which tests pass where a spelling has a kind
pub data KindCases (allowed : Bool) (text : List ℕ) : Type 0 where
  OfHeaderName : allowed ≡ true → is_header_name text ≡ true → KindCases allowed text
  OfIdentifier : is_identifier text ≡ true → KindCases allowed text
  OfNumber : is_number text ≡ true → KindCases allowed text
  OfCharacter : is_character text ≡ true → KindCases allowed text
  OfString : is_string text ≡ true → KindCases allowed text
  OfPunctuator : (punctuator : TokenKind) → punctuator_of text ≡ Some punctuator → KindCases allowed text
  OfStray : is_stray text ≡ true → KindCases allowed text
  OfNone : kind_in allowed text ≡ None → KindCases allowed text

-- a value is found, or none is
option_cases : (found : Option TokenKind) → (found ≡ None) ⊎ ((value : TokenKind) × (found ≡ Some value))
option_cases None = inl refl
option_cases (Some value) = inr (value, refl)

-- each spelling passes one of the tests, or has no kind
pub kind_cases : (allowed : Bool) (text : List ℕ) → KindCases allowed text
kind_cases allowed text =
    elim (cases_Bool (allowed && is_header_name text)) [
      | inl named ↦ let parts = and_parts allowed _ named in OfHeaderName parts.0 parts.1
      | inr no_header_name ↦ elim (cases_Bool (is_identifier text)) [
        | inl is ↦ OfIdentifier is
        | inr no_identifier ↦ elim (cases_Bool (is_number text)) [
          | inl is ↦ OfNumber is
          | inr no_number ↦ elim (cases_Bool (is_character text)) [
            | inl is ↦ OfCharacter is
            | inr no_character ↦ elim (cases_Bool (is_string text)) [
              | inl is ↦ OfString is
              | inr no_string ↦ elim (option_cases (punctuator_of text)) [
                | inr found ↦ OfPunctuator found.0 found.1
                | inl no_punctuator ↦ elim (cases_Bool (is_stray text)) [
                  | inl is ↦ OfStray is
                  | inr no_stray ↦
                      let other : IsOther text = record { no_identifier = no_identifier; no_number = no_number; no_character = no_character; no_string = no_string } in
                      OfNone (kind_in-no_header_name allowed text no_header_name ∙ kind_in-none text other no_punctuator no_stray)
                ]
              ]
            ]
          ]
        ]
      ]
    ]

-- no token is empty, and none begins with white space

-- no punctuator is empty
punctuator_of-nil : punctuator_of [] ≡ None
unfolding punctuator_of punctuators plain_punctuators digraphs
punctuator_of-nil = refl

-- nor is any token
pub kind_in-nil : (allowed : Bool) → kind_in allowed [] ≡ None
kind_in-nil allowed =
    kind_in-no_header_name allowed [] (and_right allowed (is_header_name []) refl)
    ∙ kind_in-none [] (record { no_identifier = refl; no_number = refl; no_character = refl; no_string = refl }) punctuator_of-nil refl

-- white space is no stray byte
is_stray-white : (b : ℕ) (text : List ℕ) → is_white b ≡ true → is_stray (b ∷ text) ≡ false
is_stray-white b [] white = not_from_true _ (or_left _ (is_quotation_mark b) white)
is_stray-white b (c ∷ text) white = refl

-- and begins no punctuator
punctuator_of-white : (b : ℕ) (text : List ℕ) → is_white b ≡ true → punctuator_of (b ∷ text) ≡ None
punctuator_of-white b text white =
    elim (option_cases (punctuator_of (b ∷ text))) [
      | inl none ↦ none
      | inr found ↦ absurd (true≢false (sym white ∙ (punctuator-StandsApart b text found.0 found.1).no_white))
    ]

-- nor any token
pub kind_in-white : (allowed : Bool) (b : ℕ) (text : List ℕ) → is_white b ≡ true → kind_in allowed (b ∷ text) ≡ None
kind_in-white allowed b text white =
    let none = opens-white b white in
    kind_in-no_header_name allowed (b ∷ text) (and_right allowed (is_header_name (b ∷ text)) (is_header_name-none b text none.no_header_name))
    ∙ kind_in-none (b ∷ text)
    (record {
      no_identifier = is_identifier-none b text none.no_identifier;
      no_number = is_number-none b text none.no_number;
      no_character = is_character-none b text none.no_character;
      no_string = is_string-none b text none.no_string;
    })
    (punctuator_of-white b text white) (is_stray-white b text white)
