-- The length of a preprocessing number is that of the longest front that is spelled so.
use Rattle.std.proofs.Common.{◌≡◌, ℕ, suc, pred, ◌≤◌, Bool, true, false, ◌&&◌, ◌||◌, ◌==◌, if◌then◌else◌, List, [], ◌∷◌, ◌++◌, length, take, refl, sym, ap, ◌∙◌, subst, inl, inr, ⊎_elim, true≢false, arith, nat_lt}
use Rattle.std.proofs.lemmas.Bool.{cases_Bool, cond-true, cond-false, and_parts, and_from, or_cases, or_left, or_right}
use Rattle.std.proofs.lemmas.Bool.Decides.{nat_tests}
use Rattle.std.specs.Char.{is_ascii_digit}
use Rattle.meaning_text.specs.Bytes.{dot, backslash, is_nondigit, is_word_byte, is_sign}
use Rattle.meaning_text.specs.Words.{universal_length, begins_universal, word_goes_on, begins_digit, begins_number, number_goes_on, universal_left, sign_behind, is_number_tail, is_number}
use Rattle.meaning_text.specs.Fronts.{word_length, number_tail_length}
use Rattle.meaning_text.proofs.Scans.{Passes}
use Rattle.meaning_text.proofs.UniversalNames.{universal_length-append, universal_length-none, universal_length-take, begins_universal-backslash}
use Rattle.meaning_text.proofs.WordLengths.{word_length-more, word_length-none, universal_length-word_length, word_goes_on-append, word_goes_on-take}

-- a byte that goes on counts
number_tail_length-more :
    (sign : Bool) (left b : ℕ) (text : List ℕ) → number_goes_on sign (b ∷ text) ≡ true
    → number_tail_length sign left (b ∷ text) ≡ suc (number_tail_length (sign_behind left b) (universal_left left (b ∷ text)) text)
number_tail_length-more sign left b text goes_on = cond-true (number_goes_on sign (b ∷ text)) _ 0 goes_on

-- another ends the number
number_tail_length-none : (sign : Bool) (left b : ℕ) (text : List ℕ) → number_goes_on sign (b ∷ text) ≡ false → number_tail_length sign left (b ∷ text) ≡ 0
number_tail_length-none sign left b text ends = cond-false (number_goes_on sign (b ∷ text)) _ 0 ends

-- what goes on stands in the text
number_tail_length-within : (sign : Bool) (left : ℕ) (text : List ℕ) → number_tail_length sign left text ≤ length text
number_tail_length-within sign left [] = omega arith
number_tail_length-within sign left (b ∷ text) =
    elim (cases_Bool (number_goes_on sign (b ∷ text))) [
      | inl goes_on ↦
          omega (arith, number_tail_length-more sign left b text goes_on, number_tail_length-within (sign_behind left b) (universal_left left (b ∷ text)) text)
      | inr ends ↦ omega (arith, number_tail_length-none sign left b text ends)
    ]

-- what goes on with an identifier goes on with a number
number_goes_on-word : (sign : Bool) (b : ℕ) (text : List ℕ) → word_goes_on (b ∷ text) ≡ true → number_goes_on sign (b ∷ text) ≡ true
number_goes_on-word sign b text word = or_left _ _ (or_left _ (b == dot) word)

-- so a number goes on at least as far as an identifier
word_length-number_tail_length : (sign : Bool) (left : ℕ) (text : List ℕ) → word_length text ≤ number_tail_length sign left text
word_length-number_tail_length sign left [] = omega arith
word_length-number_tail_length sign left (b ∷ text) =
    elim (cases_Bool (word_goes_on (b ∷ text))) [
      | inl goes_on ↦
          omega (
            arith,
            word_length-more b text goes_on,
            number_tail_length-more sign left b text (number_goes_on-word sign b text goes_on),
            word_length-number_tail_length (sign_behind left b) (universal_left left (b ∷ text)) text,
          )
      | inr ends ↦ omega (arith, word_length-none b text ends)
    ]

-- if what goes on with an identifier stays, what goes on with a number stays
number_goes_on-kept :
    (sign : Bool) (b : ℕ) (text other : List ℕ) → (word_goes_on (b ∷ text) ≡ true → word_goes_on (b ∷ other) ≡ true) → number_goes_on sign (b ∷ text) ≡ true
    → number_goes_on sign (b ∷ other) ≡ true
number_goes_on-kept sign b text other kept is =
    ⊎_elim
    (λ inside. ⊎_elim
    (λ word. number_goes_on-word sign b other (kept word))
    (λ point. or_left _ _ (or_right (word_goes_on (b ∷ other)) _ point))
    (or_cases (word_goes_on (b ∷ text)) (b == dot) inside))
    (λ signed. or_right (word_goes_on (b ∷ other) || b == dot) _ signed)
    (or_cases (word_goes_on (b ∷ text) || b == dot) (sign && is_sign b) is)

-- a backslash goes on with a number only where a name begins
goes_on-backslash : (b : ℕ) (universal sign : Bool) → (b == backslash) ≡ true → (is_word_byte b || universal || b == dot || (sign && is_sign b)) ≡ true → universal ≡ true
goes_on-backslash b universal sign is goes_on = grind (arith, nat_tests)

-- what a name leaves is the same in a front and in the text
universal_length-front :
    (sign : Bool) (b : ℕ) (front rest : List ℕ) → number_goes_on sign (b ∷ front) ≡ true → universal_length (b ∷ front ++ rest) ≡ universal_length (b ∷ front)
universal_length-front sign b front rest goes_on =
    elim (cases_Bool (begins_universal (b ∷ front))) [
      | inl is ↦ universal_length-append (b ∷ front) rest is
      | inr none ↦ elim (cases_Bool (begins_universal (b ∷ front ++ rest))) [
        | inl is ↦ absurd (true≢false (sym (goes_on-backslash b (begins_universal (b ∷ front)) sign (begins_universal-backslash b (front ++ rest) is) goes_on) ∙ none))
        | inr nothing ↦ universal_length-none (b ∷ front ++ rest) nothing ∙ sym (universal_length-none (b ∷ front) none)
      ]
    ]

-- what a name leaves goes by its length
universal_left-same : (left : ℕ) (text other : List ℕ) → universal_length text ≡ universal_length other → universal_left left text ≡ universal_left left other
universal_left-same left text other same = ap (λ (n : ℕ). if nat_lt 0 n then pred n else pred left) same

-- no longer front goes on as a number does
length-is_number_tail :
    (sign : Bool) (left : ℕ) (front rest : List ℕ) → is_number_tail sign left front ≡ true → length front ≤ number_tail_length sign left (front ++ rest)
length-is_number_tail sign left [] rest is = omega arith
length-is_number_tail sign left (b ∷ front) rest is =
    let parts = and_parts (number_goes_on sign (b ∷ front)) _ is in
    let goes_on = number_goes_on-kept sign b front (front ++ rest) (word_goes_on-append (b ∷ front) rest) parts.0 in
    let same = universal_left-same left (b ∷ front) (b ∷ front ++ rest) (sym (universal_length-front sign b front rest parts.0)) in
    let behind = length-is_number_tail (sign_behind left b) (universal_left left (b ∷ front)) front rest parts.1 in
    let behind_too = subst (λ (n : ℕ). length front ≤ number_tail_length (sign_behind left b) n (front ++ rest)) same behind in
    omega (arith, number_tail_length-more sign left b (front ++ rest) goes_on, behind_too)

-- and what is found does
is_number_tail-take : (sign : Bool) (left : ℕ) (text : List ℕ) → is_number_tail sign left (take (number_tail_length sign left text) text) ≡ true
is_number_tail-take sign left [] = refl
is_number_tail-take sign left (b ∷ text) =
    let IsTail : ℕ → Type 0 = λ count. is_number_tail sign left (take count (b ∷ text)) ≡ true in
    elim (cases_Bool (number_goes_on sign (b ∷ text))) [
      | inl goes_on ↦
          let behind = is_number_tail-take (sign_behind left b) (universal_left left (b ∷ text)) text in
          let count : ℕ = number_tail_length (sign_behind left b) (universal_left left (b ∷ text)) text in
          let enough = word_length-number_tail_length (sign_behind left b) (universal_left left (b ∷ text)) text in
          let same =
          universal_left-same left (b ∷ text) (b ∷ take count text)
          (sym (universal_length-take (b ∷ text) (suc count) (omega (arith, universal_length-word_length b text, enough))))
          in
          subst IsTail (sym (number_tail_length-more sign left b text goes_on))
          (and_from _ _
          (number_goes_on-kept sign b text (take count text) (word_goes_on-take b text count enough) goes_on)
          (subst (λ (n : ℕ). is_number_tail (sign_behind left b) n (take count text) ≡ true) same behind))
      | inr ends ↦ subst IsTail (sym (number_tail_length-none sign left b text ends)) refl
    ]

-- a digit at the front of a front is one at that of the text
begins_digit-append : (front rest : List ℕ) → begins_digit front ≡ true → begins_digit (front ++ rest) ≡ true
begins_digit-append [] rest is = absurd (true≢false (sym is))
begins_digit-append (b ∷ front) rest is = is

-- and a digit of the text goes on
begins_digit-take : (sign : Bool) (left : ℕ) (text : List ℕ) → begins_digit text ≡ true → begins_digit (take (number_tail_length sign left text) text) ≡ true
begins_digit-take sign left [] is = absurd (true≢false (sym is))
begins_digit-take sign left (b ∷ text) is =
    let goes_on : number_goes_on sign (b ∷ text) ≡ true = number_goes_on-word sign b text (or_left _ _ (or_right (is_nondigit b) _ is)) in
    subst (λ (count : ℕ). begins_digit (take count (b ∷ text)) ≡ true) (sym (number_tail_length-more sign left b text goes_on)) is

-- if the digit behind a dot stays, a number begins still
begins_number-kept :
    (b : ℕ) (text other : List ℕ) → (begins_digit text ≡ true → begins_digit other ≡ true) → begins_number (b ∷ text) ≡ true → begins_number (b ∷ other) ≡ true
begins_number-kept b text other kept is =
    ⊎_elim
    (λ digit. or_left _ _ digit)
    (λ behind_dot.
    let parts = and_parts (b == dot) (begins_digit text) behind_dot in
    or_right (is_ascii_digit b) _ (and_from _ _ parts.0 (kept parts.1)))
    (or_cases (is_ascii_digit b) (b == dot && begins_digit text) is)

-- where a number begins, what goes on with it is one
pub number-Passes : (b : ℕ) (text : List ℕ) → begins_number (b ∷ text) ≡ true → Passes is_number (b ∷ text) (suc (number_tail_length false 0 text))
number-Passes b text begins = record {
  some = omega arith;
  within = omega (arith, number_tail_length-within false 0 text);
  is_one =
      and_from _ _ (begins_number-kept b text (take (number_tail_length false 0 text) text) (begins_digit-take false 0 text) begins)
      (is_number_tail-take false 0 text);
}

-- and no longer front is one
pub number-longest :
    (b : ℕ) (front rest : List ℕ) → is_number (b ∷ front) ≡ true
    → (begins_number (b ∷ front ++ rest) ≡ true) × (length front ≤ number_tail_length false 0 (front ++ rest))
number-longest b front rest is =
    let parts = and_parts (begins_number (b ∷ front)) (is_number_tail false 0 front) is in
    (begins_number-kept b front (front ++ rest) (begins_digit-append front rest) parts.0, length-is_number_tail false 0 front rest parts.1)
