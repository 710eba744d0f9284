-- Where a front of a text is a token, what is found there is no shorter.
use Rattle.std.proofs.Common.{◌≡◌, ℕ, ◌<◌, ◌≤◌, Bool, true, false, List, [], ◌∷◌, ◌++◌, length, Option, Some, None, refl, sym, ◌∙◌, subst, inl, inr, true≢false, arith, nat_le, leb-false, leb-true, le_of_lt, suc-le-suc, take, length-take-le}
use Rattle.std.proofs.lemmas.Bool.{cases_Bool, and_parts, both_ways}
use Rattle.std.proofs.lemmas.Option.{none-some, same_Some}
use Rattle.meaning_text.specs.Words.{begins_identifier, begins_number, is_word, is_identifier, is_number}
use Rattle.meaning_text.specs.Quoted.{is_character, is_string, is_header_name}
use Rattle.meaning_text.specs.Punctuators.{punctuator_of}
use Rattle.vocabulary.specs.declared.token_kind.TokenKind.{TokenKind}
use Rattle.vocabulary.specs.declared.token_kind.TokenKind.TheVariants.{Identifier, Number, Character, String, HeaderName, Stray}
use Rattle.meaning_text.specs.Kinds.{is_stray, is_stray_byte, kind_in}
use Rattle.meaning_text.specs.Fronts.{Found, word_length, character_length, string_length, header_name_length, or_else, found_where, found_of, header_name_over, found_header_name, found_punctuator, found_number, found_stray, found_token}
use Rattle.meaning_text.proofs.Literals.{character_measures, string_measures}
use Rattle.meaning_text.proofs.HeaderNames.{header_name_measures, length-header_name}
use Rattle.meaning_text.proofs.WordLengths.{identifier-longest}
use Rattle.meaning_text.proofs.NumberLengths.{number-longest}
use Rattle.meaning_text.proofs.FirstBytes.{opens_header_name, opens_number-alone, begins_number-opens, opens_header_name-identifier, opens_header_name-character, begins_identifier-opens, is_character-opens, header_name_length-none, string_length-none, character_length-none, begins_identifier-none}
use Rattle.meaning_text.proofs.Finding.{IsNoShorter, Reaches, or_else-None, or_else-Reaches, or_else-Reaches_first, found_where-IsNoShorter, found_where-None, found_where-Reaches, found_of-IsNoShorter, found_of-Reaches}
use Rattle.meaning_text.proofs.Punctuation.{StandsApart, punctuator-StandsApart, length-punctuator, found_punctuator-Reaches}
use Rattle.meaning_text.proofs.KindsOfSpellings.{OfHeaderName, OfIdentifier, OfNumber, OfCharacter, OfString, OfPunctuator, OfStray, OfNone, kind_cases}
use Rattle.meaning_text.proofs.Overlaps.{length-word_string, length-word_character, string_length-character}
use Rattle.meaning_text.proofs.FoundKinds.{found_token-IsTokenFront}

-- Header names

-- the header name that is found is no shorter, if none is
header_name_over-IsNoShorter :
    (count : ℕ) (name other : Option ℕ) → ((length : ℕ) → name ≡ Some length → count ≤ length) → IsNoShorter count (header_name_over name other)
header_name_over-IsNoShorter count None other long = tt
header_name_over-IsNoShorter count (Some length) None long = long length refl
header_name_over-IsNoShorter count (Some length) (Some longer) long = found_where-IsNoShorter count (nat_le longer length) HeaderName length (λ within. long length refl)

-- the same, where header names may not be allowed
found_header_name-IsNoShorter :
    (count : ℕ) (allowed : Bool) (text : List ℕ) → ((length : ℕ) → header_name_length text ≡ Some length → count ≤ length)
    → IsNoShorter count (found_header_name allowed text)
found_header_name-IsNoShorter count false text long = tt
found_header_name-IsNoShorter count true text long = header_name_over-IsNoShorter count (header_name_length text) (string_length text) long

-- the same, where there is none
found_header_name-nothing : (count : ℕ) (allowed : Bool) (text : List ℕ) → header_name_length text ≡ None → IsNoShorter count (found_header_name allowed text)
found_header_name-nothing count allowed text none = found_header_name-IsNoShorter count allowed text (λ length found. absurd (none-some length (sym none ∙ found)))

-- a header name that goes before a string literal is no shorter
header_name_over-string : (count : ℕ) (name other : Option ℕ) → other ≡ Some count → IsNoShorter count (header_name_over name other)
header_name_over-string count None other quoted = tt
header_name_over-string count (Some length) None quoted = absurd (none-some count quoted)
header_name_over-string count (Some length) (Some longer) quoted =
    found_where-IsNoShorter count (nat_le longer length) HeaderName length
    (λ within. subst (λ (n : ℕ). n ≤ length) (same_Some _ _ quoted) (leb-true longer length within))

-- the same, where header names may not be allowed
found_header_name-string : (count : ℕ) (allowed : Bool) (text : List ℕ) → string_length text ≡ Some count → IsNoShorter count (found_header_name allowed text)
found_header_name-string count false text quoted = tt
found_header_name-string count true text quoted = header_name_over-string count (header_name_length text) (string_length text) quoted

-- and where none goes before it, the string literal is longer
header_name_or_string :
    (count : ℕ) (name quoted : Option ℕ) (others : Found) → name ≡ Some count
    → Reaches count (or_else (header_name_over name quoted) (or_else (found_of String quoted) others))
header_name_or_string count None quoted others named = absurd (none-some count named)
header_name_or_string count (Some length) None others named = subst (λ (n : ℕ). count ≤ n) (sym (same_Some _ _ named)) (omega arith)
header_name_or_string count (Some length) (Some longer) others named =
    let same : length ≡ count = same_Some _ _ named in
    elim (cases_Bool (nat_le longer length)) [
      | inl within ↦
          or_else-Reaches_first count (found_where (nat_le longer length) HeaderName length) (Some (String, longer))
          (found_where-Reaches count (nat_le longer length) HeaderName length within (omega arith))
      | inr beyond ↦
          let further : length < longer = leb-false longer length beyond in
          or_else-Reaches count (found_where (nat_le longer length) HeaderName length) (Some (String, longer))
          (found_where-IsNoShorter count (nat_le longer length) HeaderName length (λ within. omega arith)) (omega arith)
    ]

-- What is found before

-- nothing is found where there is no length
nothing_of : (count : ℕ) (kind : TokenKind) (found : Option ℕ) → found ≡ None → IsNoShorter count (found_of kind found)
nothing_of count kind found none = found_of-IsNoShorter count kind found (λ length is. absurd (none-some length (sym none ∙ is)))

-- nothing is found where the test does not hold
nothing_where : (count : ℕ) (holds : Bool) (kind : TokenKind) (length : ℕ) → holds ≡ false → IsNoShorter count (found_where holds kind length)
nothing_where count holds kind length none = found_where-IsNoShorter count holds kind length (λ is. absurd (both_ways holds none is))

-- so far as to identifiers nothing shorter is found, and what is found behind reaches so far
module _ (count : ℕ) (allowed : Bool) (text : List ℕ) (named : IsNoShorter count (found_header_name allowed text))
    (quoted : IsNoShorter count (found_of String (string_length text))) where
  -- what is found behind string literals
  past_strings :
      Reaches count (or_else (found_of Character (character_length text))
      (or_else (found_where (begins_identifier text) Identifier (word_length text))
      (or_else (found_number text) (or_else (found_punctuator text) (found_stray text))))) → Reaches count (found_token allowed text)
  past_strings reaches =
      or_else-Reaches count (found_header_name allowed text) _ named
      (or_else-Reaches count (found_of String (string_length text)) _ quoted reaches)

  -- what is found behind character constants
  past_characters :
      IsNoShorter count (found_of Character (character_length text))
      → Reaches count (or_else (found_where (begins_identifier text) Identifier (word_length text))
      (or_else (found_number text) (or_else (found_punctuator text) (found_stray text)))) → Reaches count (found_token allowed text)
  past_characters single reaches = past_strings (or_else-Reaches count (found_of Character (character_length text)) _ single reaches)

  -- what is found behind identifiers
  past_identifiers :
      IsNoShorter count (found_of Character (character_length text)) → IsNoShorter count (found_where (begins_identifier text) Identifier (word_length text))
      → Reaches count (or_else (found_number text) (or_else (found_punctuator text) (found_stray text))) → Reaches count (found_token allowed text)
  past_identifiers single word reaches =
      past_characters single (or_else-Reaches count (found_where (begins_identifier text) Identifier (word_length text)) _ word reaches)

-- Each kind

-- what is found reaches each header name
header_name-Reaches : (allowed : Bool) (front rest : List ℕ) → allowed ≡ true → is_header_name front ≡ true → Reaches (length front) (found_token allowed (front ++ rest))
header_name-Reaches false front rest allowing is = absurd (true≢false (sym allowing))
header_name-Reaches true front rest allowing is =
    header_name_or_string (length front) (header_name_length (front ++ rest)) (string_length (front ++ rest)) _ (header_name_measures.finds front rest is)

-- each string literal
string-Reaches : (allowed : Bool) (front rest : List ℕ) → is_string front ≡ true → Reaches (length front) (found_token allowed (front ++ rest))
string-Reaches allowed front rest is =
    let found = string_measures.finds front rest is in
    or_else-Reaches (length front) (found_header_name allowed (front ++ rest)) _ (found_header_name-string (length front) allowed (front ++ rest) found)
    (or_else-Reaches_first (length front) (found_of String (string_length (front ++ rest))) _
    (found_of-Reaches (length front) String (string_length (front ++ rest)) found))

-- each character constant
character-Reaches : (allowed : Bool) (front rest : List ℕ) → is_character front ≡ true → Reaches (length front) (found_token allowed (front ++ rest))
character-Reaches allowed [] rest is = absurd (true≢false (sym is))
character-Reaches allowed (b ∷ front) rest is =
    let found = character_measures.finds (b ∷ front) rest is in
    let count : ℕ = length (b ∷ front) in
    let none = header_name_length-none b (front ++ rest) (opens_header_name-character b (is_character-opens b front is)) in
    past_strings count allowed (b ∷ front ++ rest)
    (found_header_name-nothing count allowed (b ∷ front ++ rest) none)
    (nothing_of count String (string_length (b ∷ front ++ rest)) (string_length-character (b ∷ front ++ rest) count found))
    (or_else-Reaches_first count (found_of Character (character_length (b ∷ front ++ rest))) _
    (found_of-Reaches count Character (character_length (b ∷ front ++ rest)) found))

-- each identifier
identifier-Reaches : (allowed : Bool) (front rest : List ℕ) → is_identifier front ≡ true → Reaches (length front) (found_token allowed (front ++ rest))
identifier-Reaches allowed [] rest is = absurd (true≢false (sym is))
identifier-Reaches allowed (b ∷ front) rest is =
    let parts = and_parts (begins_identifier (b ∷ front)) (is_word (b ∷ front)) is in
    let count : ℕ = length (b ∷ front) in
    let none = header_name_length-none b (front ++ rest) (opens_header_name-identifier b (begins_identifier-opens b front parts.0)) in
    let longest = identifier-longest (b ∷ front) rest is in
    past_characters count allowed (b ∷ front ++ rest)
    (found_header_name-nothing count allowed (b ∷ front ++ rest) none)
    (found_of-IsNoShorter count String (string_length (b ∷ front ++ rest)) (λ n found. le_of_lt (length-word_string (b ∷ front) rest n parts.1 found)))
    (found_of-IsNoShorter count Character (character_length (b ∷ front ++ rest)) (λ n found. le_of_lt (length-word_character (b ∷ front) rest n parts.1 found)))
    (or_else-Reaches_first count (found_where (begins_identifier (b ∷ front ++ rest)) Identifier (word_length (b ∷ front ++ rest))) _
    (found_where-Reaches count (begins_identifier (b ∷ front ++ rest)) Identifier (word_length (b ∷ front ++ rest)) longest.0 longest.1))

-- each number
number-Reaches : (allowed : Bool) (front rest : List ℕ) → is_number front ≡ true → Reaches (length front) (found_token allowed (front ++ rest))
number-Reaches allowed [] rest is = absurd (true≢false (sym is))
number-Reaches allowed (b ∷ front) rest is =
    let alone = opens_number-alone b (begins_number-opens b front (and_parts (begins_number (b ∷ front)) _ is).0) in
    let count : ℕ = length (b ∷ front) in
    let text : List ℕ = b ∷ front ++ rest in
    let longest = number-longest b front rest is in
    past_identifiers count allowed text
    (found_header_name-nothing count allowed text (header_name_length-none b (front ++ rest) alone.no_header_name))
    (nothing_of count String (string_length text) (string_length-none b (front ++ rest) alone.no_string))
    (nothing_of count Character (character_length text) (character_length-none b (front ++ rest) alone.no_character))
    (nothing_where count (begins_identifier text) Identifier (word_length text) (begins_identifier-none b (front ++ rest) alone.no_identifier))
    (or_else-Reaches_first count (found_number text) _ (found_where-Reaches count (begins_number text) Number _ longest.0 (suc-le-suc longest.1)))

-- a number that begins at a punctuator has at least its bytes
number_behind_punctuator : (b : ℕ) (front rest : List ℕ) → begins_number (b ∷ front) ≡ false → begins_number (b ∷ front ++ rest) ≡ true → length front ≡ 0
number_behind_punctuator b [] rest none begins = refl
number_behind_punctuator b (c ∷ front) rest none begins = absurd (both_ways (begins_number (b ∷ c ∷ front)) none begins)

-- and so has a header name
header_name_behind_punctuator :
    (b : ℕ) (front rest : List ℕ) (count : ℕ) → StandsApart b front → header_name_length (b ∷ front ++ rest) ≡ Some count → length (b ∷ front) ≤ count
header_name_behind_punctuator b front rest count apart found =
    elim (cases_Bool (opens_header_name b)) [
      | inl opens ↦
          let passes = header_name_measures.passes (b ∷ front ++ rest) count found in
          omega (
            arith,
            apart.within_header_name opens,
            length-header_name (take count (b ∷ front ++ rest)) passes.is_one,
            length-take-le count
                (b ∷ front ++ rest) passes.within,
          )
      | inr other ↦ absurd (none-some count (sym (header_name_length-none b (front ++ rest) other) ∙ found))
    ]

-- each punctuator
punctuator-Reaches :
    (allowed : Bool) (front rest : List ℕ) (punctuator : TokenKind) → punctuator_of front ≡ Some punctuator → Reaches (length front) (found_token allowed (front ++ rest))
punctuator-Reaches allowed [] rest punctuator is = absurd (omega (arith, length-punctuator [] punctuator is))
punctuator-Reaches allowed (b ∷ front) rest punctuator is =
    let apart = punctuator-StandsApart b front punctuator is in
    let count : ℕ = length (b ∷ front) in
    let text : List ℕ = b ∷ front ++ rest in
    past_identifiers count allowed text
    (found_header_name-IsNoShorter count allowed text (λ n found. header_name_behind_punctuator b front rest n apart found))
    (nothing_of count String (string_length text) (string_length-none b (front ++ rest) apart.no_string))
    (nothing_of count Character (character_length text) (character_length-none b (front ++ rest) apart.no_character))
    (nothing_where count (begins_identifier text) Identifier (word_length text) (begins_identifier-none b (front ++ rest) apart.no_identifier))
    (or_else-Reaches count (found_number text) _
    (found_where-IsNoShorter count (begins_number text) Number _ (λ begins. omega (arith, number_behind_punctuator b front rest apart.no_number begins)))
    (or_else-Reaches_first count (found_punctuator text) (found_stray text) (found_punctuator-Reaches (b ∷ front) rest punctuator is)))

-- where nothing is found no stray byte stands
pub found_token-stray : (allowed : Bool) (b : ℕ) (text : List ℕ) → found_token allowed (b ∷ text) ≡ None → is_stray_byte b ≡ false
found_token-stray allowed b text none =
    let at_string = or_else-None (found_header_name allowed (b ∷ text)) _ none in
    let at_character = or_else-None (found_of String (string_length (b ∷ text))) _ at_string.1 in
    let at_identifier = or_else-None (found_of Character (character_length (b ∷ text))) _ at_character.1 in
    let at_number = or_else-None (found_where (begins_identifier (b ∷ text)) Identifier (word_length (b ∷ text))) _ at_identifier.1 in
    let at_punctuator = or_else-None (found_number (b ∷ text)) _ at_number.1 in
    let at_stray = or_else-None (found_punctuator (b ∷ text)) (found_stray (b ∷ text)) at_punctuator.1 in
    found_where-None (is_stray_byte b) Stray 1 at_stray.1

-- what is found reaches so far, if it is something and no shorter
Reaches-from_some : (count : ℕ) (found : Found) → (found ≡ None → ⊥) → ((one : TokenKind × ℕ) → found ≡ Some one → count ≤ one.1) → Reaches count found
Reaches-from_some count None some long = some refl
Reaches-from_some count (Some one) some long = long one refl

-- each stray byte, since all that is found has a byte
stray-Reaches : (allowed : Bool) (front rest : List ℕ) → is_stray front ≡ true → Reaches (length front) (found_token allowed (front ++ rest))
stray-Reaches allowed [] rest is = absurd (true≢false (sym is))
stray-Reaches allowed (b ∷ []) rest is =
    Reaches-from_some 1 (found_token allowed (b ∷ rest)) (λ none. both_ways (is_stray_byte b) (found_token-stray allowed b rest none) is)
    (λ one found. (found_token-IsTokenFront allowed (b ∷ rest) one found).some)
stray-Reaches allowed (b ∷ c ∷ front) rest is = absurd (true≢false (sym is))

-- What is found at the front of a text reaches as far as each front that is a token.
pub kind_in-Reaches :
    (allowed : Bool) (front rest : List ℕ) (kind : TokenKind) → kind_in allowed front ≡ Some kind → Reaches (length front) (found_token allowed (front ++ rest))
kind_in-Reaches allowed front rest kind of_kind =
    elim (kind_cases allowed front) [
      | OfHeaderName allowing is ↦ header_name-Reaches allowed front rest allowing is
      | OfIdentifier is ↦ identifier-Reaches allowed front rest is
      | OfNumber is ↦ number-Reaches allowed front rest is
      | OfCharacter is ↦ character-Reaches allowed front rest is
      | OfString is ↦ string-Reaches allowed front rest is
      | OfPunctuator punctuator is ↦ punctuator-Reaches allowed front rest punctuator is
      | OfStray is ↦ stray-Reaches allowed front rest is
      | OfNone none ↦ absurd (none-some kind (sym none ∙ of_kind))
    ]
