-- The length of an identifier is that of the longest front that is spelled so.
use Rattle.std.proofs.Common.{◌≡◌, ℕ, zero, suc, ◌≤◌, true, false, ◌&&◌, ◌||◌, ◌==◌, List, [], ◌∷◌, ◌++◌, length, take, refl, sym, subst, inl, inr, ⊎_elim, true≢false, arith}
use Rattle.std.proofs.lemmas.Bool.{cases_Bool, cond-true, cond-false, and_parts, and_from, or_cases, or_left, or_right}
use Rattle.std.proofs.lemmas.Bool.Decides.{nat_tests}
use Rattle.std.specs.Char.{is_ascii_hexdigit}
use Rattle.meaning_text.specs.Bytes.{lower_u, upper_u, backslash, is_nondigit, is_word_byte}
use Rattle.meaning_text.specs.Words.{begins_hexadecimal, universal_length, begins_universal, word_goes_on, is_word, begins_identifier, is_identifier}
use Rattle.meaning_text.specs.Fronts.{word_length}
use Rattle.meaning_text.proofs.Scans.{Passes}
use Rattle.meaning_text.proofs.UniversalNames.{universal_length-short, universal_length-long, begins_universal-cases, begins_universal-append, begins_universal-take, universal_length-none}

-- a hexadecimal digit is a byte of words
is_word_byte-hexadecimal : (b : ℕ) → is_ascii_hexdigit b ≡ true → is_word_byte b ≡ true
is_word_byte-hexadecimal b is = grind (arith, nat_tests)

-- a byte that goes on counts
pub word_length-more : (b : ℕ) (text : List ℕ) → word_goes_on (b ∷ text) ≡ true → word_length (b ∷ text) ≡ suc (word_length text)
word_length-more b text goes_on = cond-true (word_goes_on (b ∷ text)) (suc (word_length text)) 0 goes_on

-- hexadecimal digits go on with an identifier
begins_hexadecimal-word_length : (count : ℕ) (text : List ℕ) → begins_hexadecimal count text ≡ true → count ≤ word_length text
begins_hexadecimal-word_length zero text is = omega arith
begins_hexadecimal-word_length (suc count) [] is = absurd (true≢false (sym is))
begins_hexadecimal-word_length (suc count) (b ∷ text) is =
    let parts = and_parts (is_ascii_hexdigit b) (begins_hexadecimal count text) is in
    let goes_on : word_goes_on (b ∷ text) ≡ true = or_left _ _ (is_word_byte-hexadecimal b parts.0) in
    let length = word_length-more b text goes_on in
    omega (arith, begins_hexadecimal-word_length count text parts.1)

-- what stands behind the backslash of a name goes on with an identifier
letter_goes_on : (c : ℕ) (text : List ℕ) → (c == lower_u || c == upper_u) ≡ true → word_length (c ∷ text) ≡ suc (word_length text)
letter_goes_on c text letter =
    let is_letter : is_word_byte c ≡ true = grind (arith, nat_tests) in
    word_length-more c text (or_left _ _ is_letter)

-- so all of the name does
pub universal_length-word_length : (b : ℕ) (text : List ℕ) → universal_length (b ∷ text) ≤ suc (word_length text)
universal_length-word_length b [] = omega arith
universal_length-word_length b (c ∷ text) =
    elim (cases_Bool (begins_universal (b ∷ c ∷ text))) [
      | inl is ↦ elim (begins_universal-cases b c text is) [
        | inl short ↦
            let parts = and_parts (b == backslash && c == lower_u) _ short in
            let letter = letter_goes_on c text (or_left _ _ (and_parts (b == backslash) _ parts.0).1) in
            omega (arith, universal_length-short b c text short, begins_hexadecimal-word_length 4 text parts.1)
        | inr long ↦
            let parts = and_parts (b == backslash && c == upper_u) _ long in
            let letter = letter_goes_on c text (or_right _ _ (and_parts (b == backslash) _ parts.0).1) in
            omega (arith, universal_length-long b c text long, begins_hexadecimal-word_length 8 text parts.1)
      ]
      | inr none ↦ omega (arith, universal_length-none (b ∷ c ∷ text) none)
    ]

-- Identifiers

-- another ends the word
pub word_length-none : (b : ℕ) (text : List ℕ) → word_goes_on (b ∷ text) ≡ false → word_length (b ∷ text) ≡ 0
word_length-none b text ends = cond-false (word_goes_on (b ∷ text)) (suc (word_length text)) 0 ends

-- what goes on stands in the text
word_length-within : (text : List ℕ) → word_length text ≤ length text
word_length-within [] = omega arith
word_length-within (b ∷ text) =
    elim (cases_Bool (word_goes_on (b ∷ text))) [
      | inl goes_on ↦ omega (arith, word_length-more b text goes_on, word_length-within text)
      | inr ends ↦ omega (arith, word_length-none b text ends)
    ]

-- what goes on in a front goes on in the text
pub word_goes_on-append : (front rest : List ℕ) → word_goes_on front ≡ true → word_goes_on (front ++ rest) ≡ true
word_goes_on-append [] rest is = absurd (true≢false (sym is))
word_goes_on-append (b ∷ front) rest is =
    ⊎_elim
    (λ byte. or_left _ _ byte)
    (λ universal. or_right (is_word_byte b) _ (begins_universal-append (b ∷ front) rest universal))
    (or_cases (is_word_byte b) (begins_universal (b ∷ front)) is)

-- a name at the front of a text is in the word that begins there
begins_universal-front :
    (b : ℕ) (text : List ℕ) (taken : ℕ) → word_length text ≤ taken → begins_universal (b ∷ text) ≡ true → begins_universal (b ∷ take taken text) ≡ true
begins_universal-front b text taken enough is =
    begins_universal-take (b ∷ text) (suc taken) (omega (arith, universal_length-word_length b text)) is

-- so what goes on in the text goes on in its word
pub word_goes_on-take : (b : ℕ) (text : List ℕ) (taken : ℕ) → word_length text ≤ taken → word_goes_on (b ∷ text) ≡ true → word_goes_on (b ∷ take taken text) ≡ true
word_goes_on-take b text taken enough is =
    ⊎_elim
    (λ byte. or_left _ _ byte)
    (λ universal. or_right (is_word_byte b) _ (begins_universal-front b text taken enough universal))
    (or_cases (is_word_byte b) (begins_universal (b ∷ text)) is)

-- what is found is a word
is_word-take : (text : List ℕ) → is_word (take (word_length text) text) ≡ true
is_word-take [] = refl
is_word-take (b ∷ text) =
    let IsWord : ℕ → Type 0 = λ count. is_word (take count (b ∷ text)) ≡ true in
    elim (cases_Bool (word_goes_on (b ∷ text))) [
      | inl goes_on ↦
          subst IsWord (sym (word_length-more b text goes_on))
          (and_from _ _ (word_goes_on-take b text (word_length text) (omega arith) goes_on) (is_word-take text))
      | inr ends ↦ subst IsWord (sym (word_length-none b text ends)) refl
    ]

-- no longer front is a word
length-is_word : (front rest : List ℕ) → is_word front ≡ true → length front ≤ word_length (front ++ rest)
length-is_word [] rest is = omega arith
length-is_word (b ∷ front) rest is =
    let parts = and_parts (word_goes_on (b ∷ front)) (is_word front) is in
    omega (arith, word_length-more b (front ++ rest) (word_goes_on-append (b ∷ front) rest parts.0), length-is_word front rest parts.1)

-- a nondigit is a byte of words
is_word_byte-nondigit : (b : ℕ) → is_nondigit b ≡ true → is_word_byte b ≡ true
is_word_byte-nondigit b is = or_left _ _ is

-- where an identifier begins, it goes on
begins_identifier-word_goes_on : (text : List ℕ) → begins_identifier text ≡ true → word_goes_on text ≡ true
begins_identifier-word_goes_on [] is = absurd (true≢false (sym is))
begins_identifier-word_goes_on (b ∷ text) is =
    ⊎_elim
    (λ byte. or_left _ _ (is_word_byte-nondigit b byte))
    (λ universal. or_right (is_word_byte b) _ universal)
    (or_cases (is_nondigit b) (begins_universal (b ∷ text)) is)

-- where one begins in a front, it begins in the text
begins_identifier-append : (front rest : List ℕ) → begins_identifier front ≡ true → begins_identifier (front ++ rest) ≡ true
begins_identifier-append [] rest is = absurd (true≢false (sym is))
begins_identifier-append (b ∷ front) rest is =
    ⊎_elim
    (λ byte. or_left _ _ byte)
    (λ universal. or_right (is_nondigit b) _ (begins_universal-append (b ∷ front) rest universal))
    (or_cases (is_nondigit b) (begins_universal (b ∷ front)) is)

-- where one begins in the text, it begins in what is found
begins_identifier-take : (b : ℕ) (text : List ℕ) → begins_identifier (b ∷ text) ≡ true → begins_identifier (b ∷ take (word_length text) text) ≡ true
begins_identifier-take b text is =
    ⊎_elim
    (λ byte. or_left _ _ byte)
    (λ universal. or_right (is_nondigit b) _ (begins_universal-front b text (word_length text) (omega arith) universal))
    (or_cases (is_nondigit b) (begins_universal (b ∷ text)) is)

-- where an identifier begins, what goes on with it is one
pub identifier-Passes : (text : List ℕ) → begins_identifier text ≡ true → Passes is_identifier text (word_length text)
identifier-Passes [] begins = absurd (true≢false (sym begins))
identifier-Passes (b ∷ text) begins =
    let goes_on = begins_identifier-word_goes_on (b ∷ text) begins in
    subst (Passes is_identifier (b ∷ text)) (sym (word_length-more b text goes_on))
    (record {
      some = omega arith;
      within = omega (arith, word_length-within text);
      is_one =
          and_from _ _ (begins_identifier-take b text begins)
          (and_from _ _ (word_goes_on-take b text (word_length text) (omega arith) goes_on) (is_word-take text));
    })

-- and no longer front is one
pub identifier-longest : (front rest : List ℕ) → is_identifier front ≡ true → (begins_identifier (front ++ rest) ≡ true) × (length front ≤ word_length (front ++ rest))
identifier-longest front rest is =
    let parts = and_parts (begins_identifier front) (is_word front) is in
    (begins_identifier-append front rest parts.0, length-is_word front rest parts.1)
