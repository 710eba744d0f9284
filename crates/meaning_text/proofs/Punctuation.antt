-- What holds of each punctuator, by computing over the table, and which one is found at the front of a text.
use Rattle.std.proofs.Common.{◌≡◌, ℕ, ◌<◌, ◌≤◌, Bool, true, false, not, ◌&&◌, ◌||◌, List, [], ◌∷◌, ◌++◌, length, take, Some, nat_le, bytes_eq, refl, sym, ap, ◌∙◌, subst, inl, inr, ⊎_elim, true≢false, arith, length-take, leb-true, take_at}
use Rattle.std.specs.List.{list_all}
use Rattle.std.proofs.lemmas.Bool.{cases_Bool, cond-false, and_parts, or_cases, or_parts, not-true}
use Rattle.std.proofs.lemmas.List.{take_min}
use Rattle.std.proofs.lemmas.Option.{none-some}
use Rattle.std.proofs.lemmas.Slice.Eq.{bytes_eq-Decides}
use Rattle.meaning_text.specs.Bytes.{is_white}
use Rattle.meaning_text.specs.Words.{begins_number, is_identifier, is_number}
use Rattle.meaning_text.specs.Quoted.{is_character, is_string, is_header_name}
use Rattle.meaning_text.specs.Punctuators.{PunctuatorRow, plain_punctuators, digraphs, punctuators, punctuator_among, punctuator_of}
use Rattle.vocabulary.specs.declared.token_kind.TokenKind.{TokenKind}
use Rattle.meaning_text.specs.Fronts.{found_spelling, found_punctuator_of, found_punctuator}
use Rattle.meaning_text.proofs.FirstBytes.{opens_header_name, opens_string, opens_character, opens_identifier}
use Rattle.meaning_text.proofs.Finding.{or_else-Some, found_spelling-Some, IsNoShorter, Reaches, or_else-Reaches, or_else-Reaches_first, found_spelling-IsNoShorter, found_spelling-Reaches}

-- The table

-- what passes with each spelling of a table passes with a spelling that is found there
punctuator_among-passes :
    (test : List ℕ → Bool) (rows : List PunctuatorRow) (text : List ℕ) (punctuator : TokenKind) → list_all (λ row. test row.spelling) rows ≡ true
    → punctuator_among rows text ≡ Some punctuator → test text ≡ true
punctuator_among-passes test [] text punctuator all found = absurd (none-some punctuator found)
punctuator_among-passes test (row ∷ rows) text punctuator all found =
    let parts = and_parts (test row.spelling) (list_all (λ other. test other.spelling) rows) all in
    elim (cases_Bool (bytes_eq row.spelling text)) [
      | inl here ↦ ap test (sym ((bytes_eq-Decides row.spelling text).0 here)) ∙ parts.0
      | inr elsewhere ↦ punctuator_among-passes test rows text punctuator parts.1 (sym (cond-false (bytes_eq row.spelling text) _ _ elsewhere) ∙ found)
    ]

-- so it is with the table of punctuators
punctuator_of-passes :
    (test : List ℕ → Bool) (text : List ℕ) (punctuator : TokenKind) → list_all (λ row. test row.spelling) punctuators ≡ true → punctuator_of text ≡ Some punctuator → test text ≡ true
unfolding punctuator_of
punctuator_of-passes test text punctuator all found = punctuator_among-passes test punctuators text punctuator all found

-- a punctuator of more than three bytes does not begin with `<`, and none has more than four
abbrev is_short : List ℕ → Bool
is_short [] = false
is_short (b ∷ text) = nat_le (length text) 2 || (not (opens_header_name b) && nat_le (length text) 3)

-- none begins with what white space, a literal or an identifier begins with
abbrev opens_no_other : List ℕ → Bool
opens_no_other [] = false
opens_no_other (b ∷ text) = not (is_white b || opens_string b || opens_character b || opens_identifier b)

-- none is a token of another kind
abbrev is_no_other : List ℕ → Bool
is_no_other text = not (is_header_name text || is_identifier text || is_number text || is_character text || is_string text || begins_number text)

-- each punctuator is short
punctuator-is_short : (text : List ℕ) (punctuator : TokenKind) → punctuator_of text ≡ Some punctuator → is_short text ≡ true
unfolding punctuators plain_punctuators digraphs
punctuator-is_short text punctuator found = punctuator_of-passes is_short text punctuator refl found

-- each begins otherwise
punctuator-opens_no_other : (text : List ℕ) (punctuator : TokenKind) → punctuator_of text ≡ Some punctuator → opens_no_other text ≡ true
unfolding punctuators plain_punctuators digraphs
punctuator-opens_no_other text punctuator found = punctuator_of-passes opens_no_other text punctuator refl found

-- and each is nothing else
punctuator-is_no_other : (text : List ℕ) (punctuator : TokenKind) → punctuator_of text ≡ Some punctuator → is_no_other text ≡ true
unfolding punctuators plain_punctuators digraphs
punctuator-is_no_other text punctuator found = punctuator_of-passes is_no_other text punctuator refl found

-- what no punctuator begins with, and how long one is
pub record StandsApart (b : ℕ) (text : List ℕ) : Type 0 where
  pub no_white : is_white b ≡ false
  pub no_string : opens_string b ≡ false
  pub no_character : opens_character b ≡ false
  pub no_identifier : opens_identifier b ≡ false
  pub no_number : begins_number (b ∷ text) ≡ false
  pub within : length text ≤ 3
  pub within_header_name : opens_header_name b ≡ true → length text ≤ 2

-- so it is with each punctuator
pub punctuator-StandsApart : (b : ℕ) (text : List ℕ) (punctuator : TokenKind) → punctuator_of (b ∷ text) ≡ Some punctuator → StandsApart b text
punctuator-StandsApart b text punctuator found =
    let opens = not-true _ (punctuator-opens_no_other (b ∷ text) punctuator found) in
    let last = or_parts (is_white b || opens_string b || opens_character b) (opens_identifier b) opens in
    let third = or_parts (is_white b || opens_string b) (opens_character b) last.0 in
    let second = or_parts (is_white b) (opens_string b) third.0 in
    let other = not-true _ (punctuator-is_no_other (b ∷ text) punctuator found) in
    let short = or_cases (nat_le (length text) 2) _ (punctuator-is_short (b ∷ text) punctuator found) in
    record {
      no_white = second.0;
      no_string = second.1;
      no_character = third.1;
      no_identifier = last.1;
      no_number = (or_parts _ (begins_number (b ∷ text)) other).1;
      within = ⊎_elim (λ two. omega (arith, leb-true (length text) 2 two)) (λ three. leb-true (length text) 3 (and_parts (not (opens_header_name b)) _ three).1) short;
      within_header_name = λ opens_one.
          ⊎_elim (λ two. leb-true (length text) 2 two)
          (λ three. absurd (true≢false (sym opens_one ∙ not-true _ (and_parts (not (opens_header_name b)) _ three).0))) short;
    }

-- a punctuator is a token of no other kind
pub record IsNoOther (text : List ℕ) : Type 0 where
  pub no_header_name : is_header_name text ≡ false
  pub no_identifier : is_identifier text ≡ false
  pub no_number : is_number text ≡ false
  pub no_character : is_character text ≡ false
  pub no_string : is_string text ≡ false

-- so it is with each
pub punctuator-IsNoOther : (text : List ℕ) (punctuator : TokenKind) → punctuator_of text ≡ Some punctuator → IsNoOther text
punctuator-IsNoOther text punctuator found =
    let other = not-true _ (punctuator-is_no_other text punctuator found) in
    let fifth = or_parts (is_header_name text || is_identifier text || is_number text || is_character text || is_string text) (begins_number text) other in
    let fourth = or_parts (is_header_name text || is_identifier text || is_number text || is_character text) (is_string text) fifth.0 in
    let third = or_parts (is_header_name text || is_identifier text || is_number text) (is_character text) fourth.0 in
    let second = or_parts (is_header_name text || is_identifier text) (is_number text) third.0 in
    let first = or_parts (is_header_name text) (is_identifier text) second.0 in
    record { no_header_name = first.0; no_identifier = first.1; no_number = second.1; no_character = third.1; no_string = fourth.1 }

-- one has a byte at least and four at most
pub length-punctuator : (text : List ℕ) (punctuator : TokenKind) → punctuator_of text ≡ Some punctuator → (0 < length text) × (length text ≤ 4)
length-punctuator [] punctuator found = absurd (true≢false (sym (punctuator-is_short [] punctuator found)))
length-punctuator (b ∷ text) punctuator found = (omega arith, omega (arith, (punctuator-StandsApart b text punctuator found).within))

-- What is found

-- the front of the found length is that punctuator
pub record IsPunctuatorFront (text : List ℕ) (found : TokenKind × ℕ) : Type 0 where
  pub some : 0 < found.1
  pub within : found.1 ≤ length text
  pub is_one : punctuator_of (take found.1 text) ≡ Some found.0

-- so it is with what is found of so many bytes
found_punctuator_of-IsPunctuatorFront : (count : ℕ) (text : List ℕ) (found : TokenKind × ℕ) → found_punctuator_of count text ≡ Some found → IsPunctuatorFront text found
found_punctuator_of-IsPunctuatorFront count text found e =
    let known = found_spelling-Some (punctuator_of (take count text)) (take count text) found e in
    let size = length-take count text in
    let whole : take (length (take count text)) text ≡ take count text = ap (λ (n : ℕ). take n text) size ∙ take_min count text in
    subst (IsPunctuatorFront text) (sym known.2)
    (record {
      some = (length-punctuator (take count text) known.0 known.1).0;
      within = omega (arith, size);
      is_one = ap punctuator_of whole ∙ known.1;
    })

-- and with the longest that is found
pub found_punctuator-IsPunctuatorFront : (text : List ℕ) (found : TokenKind × ℕ) → found_punctuator text ≡ Some found → IsPunctuatorFront text found
found_punctuator-IsPunctuatorFront text found e =
    ⊎_elim (found_punctuator_of-IsPunctuatorFront 4 text found)
    (λ not_four. ⊎_elim (found_punctuator_of-IsPunctuatorFront 3 text found)
    (λ not_three. ⊎_elim (found_punctuator_of-IsPunctuatorFront 2 text found)
    (λ not_two. found_punctuator_of-IsPunctuatorFront 1 text found not_two.1)
    (or_else-Some (found_punctuator_of 2 text) _ found not_three.1))
    (or_else-Some (found_punctuator_of 3 text) _ found not_four.1))
    (or_else-Some (found_punctuator_of 4 text) _ found e)

-- what is found of more bytes is no shorter
found_punctuator_of-IsNoShorter : (least count : ℕ) (text : List ℕ) → least ≤ count → least ≤ length text → IsNoShorter least (found_punctuator_of count text)
found_punctuator_of-IsNoShorter least count text below within =
    found_spelling-IsNoShorter least (punctuator_of (take count text)) (take count text) (omega (arith, length-take count text))

-- a front that is a punctuator is found among fronts of its length
found_punctuator_of-Reaches :
    (count : ℕ) (front rest : List ℕ) (punctuator : TokenKind) → length front ≡ count → punctuator_of front ≡ Some punctuator
    → Reaches count (found_punctuator_of count (front ++ rest))
found_punctuator_of-Reaches count front rest punctuator size is =
    let whole = take_at front rest count size in
    subst (λ (spelling : List ℕ). Reaches count (found_spelling (punctuator_of spelling) spelling)) (sym whole)
    (found_spelling-Reaches count (punctuator_of front) front punctuator is (omega arith))

-- and none that is found is shorter
pub found_punctuator-Reaches : (front rest : List ℕ) (punctuator : TokenKind) → punctuator_of front ≡ Some punctuator → Reaches (length front) (found_punctuator (front ++ rest))
found_punctuator-Reaches [] rest punctuator is = absurd (omega (arith, length-punctuator [] punctuator is))
found_punctuator-Reaches (a ∷ []) rest punctuator is =
    or_else-Reaches 1 (found_punctuator_of 4 (a ∷ rest)) _ (found_punctuator_of-IsNoShorter 1 4 (a ∷ rest) (omega arith) (omega arith))
    (or_else-Reaches 1 (found_punctuator_of 3 (a ∷ rest)) _ (found_punctuator_of-IsNoShorter 1 3 (a ∷ rest) (omega arith) (omega arith))
    (or_else-Reaches 1 (found_punctuator_of 2 (a ∷ rest)) _ (found_punctuator_of-IsNoShorter 1 2 (a ∷ rest) (omega arith) (omega arith))
    (found_punctuator_of-Reaches 1 (a ∷ []) rest punctuator refl is)))
found_punctuator-Reaches (a ∷ b ∷ []) rest punctuator is =
    or_else-Reaches 2 (found_punctuator_of 4 (a ∷ b ∷ rest)) _ (found_punctuator_of-IsNoShorter 2 4 (a ∷ b ∷ rest) (omega arith) (omega arith))
    (or_else-Reaches 2 (found_punctuator_of 3 (a ∷ b ∷ rest)) _ (found_punctuator_of-IsNoShorter 2 3 (a ∷ b ∷ rest) (omega arith) (omega arith))
    (or_else-Reaches_first 2 (found_punctuator_of 2 (a ∷ b ∷ rest)) (found_punctuator_of 1 (a ∷ b ∷ rest))
    (found_punctuator_of-Reaches 2 (a ∷ b ∷ []) rest punctuator refl is)))
found_punctuator-Reaches (a ∷ b ∷ c ∷ []) rest punctuator is =
    or_else-Reaches 3 (found_punctuator_of 4 (a ∷ b ∷ c ∷ rest)) _ (found_punctuator_of-IsNoShorter 3 4 (a ∷ b ∷ c ∷ rest) (omega arith) (omega arith))
    (or_else-Reaches_first 3 (found_punctuator_of 3 (a ∷ b ∷ c ∷ rest)) _
    (found_punctuator_of-Reaches 3 (a ∷ b ∷ c ∷ []) rest punctuator refl is))
found_punctuator-Reaches (a ∷ b ∷ c ∷ d ∷ []) rest punctuator is =
    or_else-Reaches_first 4 (found_punctuator_of 4 (a ∷ b ∷ c ∷ d ∷ rest)) _
    (found_punctuator_of-Reaches 4 (a ∷ b ∷ c ∷ d ∷ []) rest punctuator refl is)
found_punctuator-Reaches (a ∷ b ∷ c ∷ d ∷ e ∷ front) rest punctuator is = absurd (omega (arith, length-punctuator (a ∷ b ∷ c ∷ d ∷ e ∷ front) punctuator is))
