-- What is found at the front of a text is a token of the kind that is told.
use Rattle.std.proofs.Common.{◌≡◌, ℕ, ◌<◌, ◌≤◌, Bool, true, false, ◌&&◌, List, [], ◌∷◌, length, take, drop, Option, Some, None, refl, sym, ap, ◌∙◌, subst, ⊎_elim, arith, nat_le, leb-false, length-take-le, take-append-drop}
use Rattle.std.proofs.lemmas.Bool.{and_right, false_from_ne_true, both_ways}
use Rattle.std.proofs.lemmas.Option.{none-some, same_Some}
use Rattle.meaning_text.specs.Words.{begins_identifier, begins_number, is_identifier, is_number}
use Rattle.meaning_text.specs.Quoted.{is_character, is_string, is_header_name}
use Rattle.meaning_text.specs.Punctuators.{punctuator_of}
use Rattle.vocabulary.specs.declared.token_kind.TokenKind.{TokenKind}
use Rattle.vocabulary.specs.declared.token_kind.TokenKind.TheVariants.{Identifier, Number, Character, String, HeaderName, Stray}
use Rattle.meaning_text.specs.Kinds.{is_stray_byte, kind_in}
use Rattle.meaning_text.specs.Fronts.{word_length, number_tail_length, character_length, string_length, header_name_length, found_where, found_of, header_name_over, found_header_name, found_punctuator_of, found_punctuator, found_number, found_stray, found_token}
use Rattle.meaning_text.proofs.Scans.{Passes}
use Rattle.meaning_text.proofs.Literals.{character_measures, string_measures}
use Rattle.meaning_text.proofs.HeaderNames.{header_name_measures, length-header_name}
use Rattle.meaning_text.proofs.WordLengths.{identifier-Passes, identifier-longest}
use Rattle.meaning_text.proofs.NumberLengths.{number-Passes, number-longest}
use Rattle.meaning_text.proofs.FirstBytes.{not_measured}
use Rattle.meaning_text.proofs.Finding.{or_else-Some, or_else-None, found_where-Some, found_where-None, found_of-Some, found_of-None, found_spelling-None}
use Rattle.meaning_text.proofs.Punctuation.{punctuator-IsNoOther, found_punctuator-IsPunctuatorFront}
use Rattle.meaning_text.proofs.KindsOfSpellings.{IsOther, kind_in-no_header_name, kind_in-header_name, kind_in-identifier, kind_in-number, kind_in-character, kind_in-string, kind_in-punctuator, kind_in-stray}
use Rattle.meaning_text.proofs.Overlaps.{is_header_name-identifier, is_header_name-character, is_header_name-number, is_identifier-number, is_number-character, is_number-string, is_identifier-character, is_identifier-string, is_character-string}

-- so many bytes at the front are a token of this kind
pub record IsTokenFront (allowed : Bool) (text : List ℕ) (found : TokenKind × ℕ) : Type 0 where
  pub some : 0 < found.1
  pub within : found.1 ≤ length text
  pub is_kind : kind_in allowed (take found.1 text) ≡ Some found.0

-- a front that passes is of the kind that all that passes are of
IsTokenFront-Passes :
    (allowed : Bool) (text : List ℕ) (found : TokenKind × ℕ) (is : List ℕ → Bool) (kind : TokenKind) (count : ℕ) → found ≡ (kind, count) → Passes is text count
    → (is (take count text) ≡ true → kind_in allowed (take count text) ≡ Some kind) → IsTokenFront allowed text found
IsTokenFront-Passes allowed text found is kind count same passes of_kind =
    subst (IsTokenFront allowed text) (sym same) (record { some = passes.some; within = passes.within; is_kind = of_kind passes.is_one })

-- Header names

-- what is found is the header name
header_name_over-Some :
    (name other : Option ℕ) (found : TokenKind × ℕ) → header_name_over name other ≡ Some found → (count : ℕ) × (name ≡ Some count) × (found ≡ (HeaderName, count))
header_name_over-Some None other found e = absurd (none-some found e)
header_name_over-Some (Some count) None found e = (count, refl, sym (same_Some _ _ e))
header_name_over-Some (Some count) (Some longer) found e = (count, refl, (found_where-Some (nat_le longer count) HeaderName count found e).1)

-- a header name that is found is one
found_header_name-IsTokenFront : (allowed : Bool) (text : List ℕ) (found : TokenKind × ℕ) → found_header_name allowed text ≡ Some found → IsTokenFront allowed text found
found_header_name-IsTokenFront false text found e = absurd (none-some found e)
found_header_name-IsTokenFront true text found e =
    let over = header_name_over-Some (header_name_length text) (string_length text) found e in
    IsTokenFront-Passes true text found is_header_name HeaderName over.0 over.2 (header_name_measures.passes text over.0 over.1)
    (kind_in-header_name (take over.0 text))

-- a header name of the length of the string literal is found before that
header_name_over-same : (count : ℕ) (name other : Option ℕ) → name ≡ Some count → other ≡ Some count → header_name_over name other ≡ None → ⊥
header_name_over-same count None other named quoted none = none-some count named
header_name_over-same count (Some one) None named quoted none = none-some count quoted
header_name_over-same count (Some one) (Some two) named quoted none =
    let longer : one < two = leb-false two one (found_where-None (nat_le two one) HeaderName one none) in
    let same : one ≡ count = same_Some _ _ named in
    let same_too : two ≡ count = same_Some _ _ quoted in
    absurd (omega arith)

-- where a string literal is found behind header names, it is no header name
found_header_name-string :
    (allowed : Bool) (text : List ℕ) (count : ℕ) → found_header_name allowed text ≡ None → string_length text ≡ Some count → count ≤ length text
    → (allowed && is_header_name (take count text)) ≡ false
found_header_name-string false text count none quoted within = refl
found_header_name-string true text count none quoted within =
    false_from_ne_true (is_header_name (take count text)) (λ named.
    let finds = header_name_measures.finds (take count text) (drop count text) named in
    let here = ap header_name_length (sym (take-append-drop count text)) ∙ finds ∙ ap Some (length-take-le count text within) in
    header_name_over-same count (header_name_length text) (string_length text) here quoted none)

-- The kind of what passes

-- a string literal that is no header name is of its kind
string-kind : (allowed : Bool) (front : List ℕ) → (allowed && is_header_name front) ≡ false → is_string front ≡ true → kind_in allowed front ≡ Some String
string-kind allowed front no_header_name is =
    kind_in-no_header_name allowed front no_header_name
    ∙ kind_in-string front (is_identifier-string front is) (is_number-string front is) (is_character-string front is) is

-- a character constant is of its kind
character-kind : (allowed : Bool) (front : List ℕ) → is_character front ≡ true → kind_in allowed front ≡ Some Character
character-kind allowed front is =
    kind_in-no_header_name allowed front (and_right allowed _ (is_header_name-character front is))
    ∙ kind_in-character front (is_identifier-character front is) (is_number-character front is) is

-- an identifier is of its kind
identifier-kind : (allowed : Bool) (front : List ℕ) → is_identifier front ≡ true → kind_in allowed front ≡ Some Identifier
identifier-kind allowed front is =
    kind_in-no_header_name allowed front (and_right allowed _ (is_header_name-identifier front is)) ∙ kind_in-identifier front is

-- a number is of its kind
number-kind : (allowed : Bool) (front : List ℕ) → is_number front ≡ true → kind_in allowed front ≡ Some Number
number-kind allowed front is =
    kind_in-no_header_name allowed front (and_right allowed _ (is_header_name-number front is))
    ∙ kind_in-number front (is_identifier-number front is) is

-- a punctuator is of its kind
punctuator-kind : (allowed : Bool) (front : List ℕ) (punctuator : TokenKind) → punctuator_of front ≡ Some punctuator → kind_in allowed front ≡ Some punctuator
punctuator-kind allowed front punctuator is =
    let none = punctuator-IsNoOther front punctuator is in
    kind_in-no_header_name allowed front (and_right allowed _ none.no_header_name)
    ∙ kind_in-punctuator front punctuator
    (record { no_identifier = none.no_identifier; no_number = none.no_number; no_character = none.no_character; no_string = none.no_string }) is

-- What is found behind one another

-- a string literal that is found behind header names is one
found_string-IsTokenFront :
    (allowed : Bool) (text : List ℕ) (found : TokenKind × ℕ) → found_header_name allowed text ≡ None → found_of String (string_length text) ≡ Some found
    → IsTokenFront allowed text found
found_string-IsTokenFront allowed text found no_header_name e =
    let inner = found_of-Some String (string_length text) found e in
    let passes = string_measures.passes text inner.0 inner.1 in
    IsTokenFront-Passes allowed text found is_string String inner.0 inner.2 passes
    (string-kind allowed (take inner.0 text) (found_header_name-string allowed text inner.0 no_header_name inner.1 passes.within))

-- a character constant that is found is one
found_character-IsTokenFront :
    (allowed : Bool) (text : List ℕ) (found : TokenKind × ℕ) → found_of Character (character_length text) ≡ Some found → IsTokenFront allowed text found
found_character-IsTokenFront allowed text found e =
    let inner = found_of-Some Character (character_length text) found e in
    IsTokenFront-Passes allowed text found is_character Character inner.0 inner.2 (character_measures.passes text inner.0 inner.1)
    (character-kind allowed (take inner.0 text))

-- an identifier that is found is one
found_identifier-IsTokenFront :
    (allowed : Bool) (text : List ℕ) (found : TokenKind × ℕ) → found_where (begins_identifier text) Identifier (word_length text) ≡ Some found
    → IsTokenFront allowed text found
found_identifier-IsTokenFront allowed text found e =
    let inner = found_where-Some (begins_identifier text) Identifier (word_length text) found e in
    IsTokenFront-Passes allowed text found is_identifier Identifier (word_length text) inner.1 (identifier-Passes text inner.0)
    (identifier-kind allowed (take (word_length text) text))

-- a number that is found is one
found_number-IsTokenFront : (allowed : Bool) (text : List ℕ) (found : TokenKind × ℕ) → found_number text ≡ Some found → IsTokenFront allowed text found
found_number-IsTokenFront allowed [] found e = absurd (none-some found e)
found_number-IsTokenFront allowed (b ∷ text) found e =
    let inner = found_where-Some (begins_number (b ∷ text)) Number _ found e in
    IsTokenFront-Passes allowed (b ∷ text) found is_number Number _ inner.1 (number-Passes b text inner.0)
    (number-kind allowed (b ∷ take (number_tail_length false 0 text) text))

-- a punctuator that is found is one
found_punctuator-IsTokenFront : (allowed : Bool) (text : List ℕ) (found : TokenKind × ℕ) → found_punctuator text ≡ Some found → IsTokenFront allowed text found
found_punctuator-IsTokenFront allowed text found e =
    let front = found_punctuator-IsPunctuatorFront text found e in
    record {
      some = front.some;
      within = front.within;
      is_kind = punctuator-kind allowed (take found.1 text) found.0 front.is_one;
    }

-- no other token begins here
record NothingElse (text : List ℕ) : Type 0 where
  no_string : string_length text ≡ None
  no_character : character_length text ≡ None
  no_identifier : begins_identifier text ≡ false
  no_number : found_number text ≡ None
  no_punctuator : found_punctuator text ≡ None

-- then the first byte alone is none of these
NothingElse-IsOther : (b : ℕ) (text : List ℕ) → NothingElse (b ∷ text) → IsOther (b ∷ [])
NothingElse-IsOther b text nothing = record {
  no_identifier =
      false_from_ne_true (is_identifier (b ∷ [])) (λ is. both_ways (begins_identifier (b ∷ text)) nothing.no_identifier (identifier-longest (b ∷ []) text is).0);
  no_number =
      false_from_ne_true (is_number (b ∷ []))
      (λ is. both_ways (begins_number (b ∷ text)) (found_where-None (begins_number (b ∷ text)) Number _ nothing.no_number) (number-longest b [] text is).0);
  no_character = not_measured character_length is_character character_measures (b ∷ []) text nothing.no_character;
  no_string = not_measured string_length is_string string_measures (b ∷ []) text nothing.no_string;
}

-- and no punctuator
NothingElse-punctuator : (b : ℕ) (text : List ℕ) → NothingElse (b ∷ text) → punctuator_of (b ∷ []) ≡ None
NothingElse-punctuator b text nothing =
    let three = (or_else-None (found_punctuator_of 4 (b ∷ text)) _ nothing.no_punctuator).1 in
    let two = (or_else-None (found_punctuator_of 3 (b ∷ text)) _ three).1 in
    let one = (or_else-None (found_punctuator_of 2 (b ∷ text)) _ two).1 in
    found_spelling-None (punctuator_of (b ∷ [])) (b ∷ []) one

-- a stray byte that is found last is one
found_stray-IsTokenFront : (allowed : Bool) (text : List ℕ) (found : TokenKind × ℕ) → NothingElse text → found_stray text ≡ Some found → IsTokenFront allowed text found
found_stray-IsTokenFront allowed [] found nothing e = absurd (none-some found e)
found_stray-IsTokenFront allowed (b ∷ text) found nothing e =
    let inner = found_where-Some (is_stray_byte b) Stray 1 found e in
    let no_header_name : is_header_name (b ∷ []) ≡ false = false_from_ne_true (is_header_name (b ∷ [])) (λ is. omega (arith, length-header_name (b ∷ []) is)) in
    subst (IsTokenFront allowed (b ∷ text)) (sym inner.1)
    (record {
      some = omega arith;
      within = omega arith;
      is_kind =
          kind_in-no_header_name allowed (b ∷ []) (and_right allowed _ no_header_name)
          ∙ kind_in-stray (b ∷ []) (NothingElse-IsOther b text nothing) (NothingElse-punctuator b text nothing) inner.0;
    })

-- what is found is a token of its kind
pub found_token-IsTokenFront : (allowed : Bool) (text : List ℕ) (found : TokenKind × ℕ) → found_token allowed text ≡ Some found → IsTokenFront allowed text found
found_token-IsTokenFront allowed text found e =
    ⊎_elim (found_header_name-IsTokenFront allowed text found)
    (λ at_string. ⊎_elim (found_string-IsTokenFront allowed text found at_string.0)
    (λ at_character. ⊎_elim (found_character-IsTokenFront allowed text found)
    (λ at_identifier. ⊎_elim (found_identifier-IsTokenFront allowed text found)
    (λ at_number. ⊎_elim (found_number-IsTokenFront allowed text found)
    (λ at_punctuator. ⊎_elim (found_punctuator-IsTokenFront allowed text found)
    (λ at_stray.
    found_stray-IsTokenFront allowed text found
    (record {
      no_string = found_of-None String (string_length text) at_character.0;
      no_character = found_of-None Character (character_length text) at_identifier.0;
      no_identifier = found_where-None (begins_identifier text) Identifier (word_length text) at_number.0;
      no_number = at_punctuator.0;
      no_punctuator = at_stray.0;
    })
    at_stray.1)
    (or_else-Some (found_punctuator text) _ found at_punctuator.1))
    (or_else-Some (found_number text) _ found at_number.1))
    (or_else-Some (found_where (begins_identifier text) Identifier (word_length text)) _ found at_identifier.1))
    (or_else-Some (found_of Character (character_length text)) _ found at_character.1))
    (or_else-Some (found_of String (string_length text)) _ found at_string.1))
    (or_else-Some (found_header_name allowed text) _ found e)
