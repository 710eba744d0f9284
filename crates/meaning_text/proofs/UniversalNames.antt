-- Universal character names at the front of a text and of its fronts.
use Rattle.std.proofs.Common.{◌≡◌, ℕ, zero, suc, ◌≤◌, Bool, true, false, ◌&&◌, ◌==◌, if◌then◌else◌, List, [], ◌∷◌, ◌++◌, take, drop, refl, sym, ap, ◌∙◌, ◌⊎◌, inl, inr, true≢false, arith, nat_lt, ltb-true, ltb-false, take-append-drop}
use Rattle.std.proofs.lemmas.Bool.{cases_Bool, cond-true, cond-false, and_parts, and_from, and_left, and_right}
use Rattle.std.proofs.lemmas.Bool.Decides.{nat_tests}
use Rattle.std.specs.Char.{is_ascii_hexdigit}
use Rattle.meaning_text.specs.Bytes.{lower_u, upper_u, backslash}
use Rattle.meaning_text.specs.Words.{begins_hexadecimal, universal_length, begins_universal}

-- digits at the front of a front stand at that of the text
begins_hexadecimal-append : (count : ℕ) (front rest : List ℕ) → begins_hexadecimal count front ≡ true → begins_hexadecimal count (front ++ rest) ≡ true
begins_hexadecimal-append zero front rest is = refl
begins_hexadecimal-append (suc count) [] rest is = absurd (true≢false (sym is))
begins_hexadecimal-append (suc count) (b ∷ front) rest is =
    let parts = and_parts (is_ascii_hexdigit b) (begins_hexadecimal count front) is in
    and_from _ _ parts.0 (begins_hexadecimal-append count front rest parts.1)

-- digits at the front of a text stand in a front that is long enough
begins_hexadecimal-take : (count taken : ℕ) (text : List ℕ) → count ≤ taken → begins_hexadecimal count text ≡ true → begins_hexadecimal count (take taken text) ≡ true
begins_hexadecimal-take zero taken text within is = refl
begins_hexadecimal-take (suc count) taken [] within is = absurd (true≢false (sym is))
begins_hexadecimal-take (suc count) zero (b ∷ text) within is = absurd (omega arith)
begins_hexadecimal-take (suc count) (suc taken) (b ∷ text) within is =
    let parts = and_parts (is_ascii_hexdigit b) (begins_hexadecimal count text) is in
    and_from _ _ parts.0 (begins_hexadecimal-take count taken text (omega arith) parts.1)

-- a name of four digits, and one of eight
abbrev pub short_name : ℕ → ℕ → List ℕ → Bool
short_name b c text = b == backslash && c == lower_u && begins_hexadecimal 4 text

abbrev pub long_name : ℕ → ℕ → List ℕ → Bool
long_name b c text = b == backslash && c == upper_u && begins_hexadecimal 8 text

-- one of four digits has six bytes
pub universal_length-short : (b c : ℕ) (text : List ℕ) → short_name b c text ≡ true → universal_length (b ∷ c ∷ text) ≡ 6
universal_length-short b c text short = cond-true (short_name b c text) 6 (if long_name b c text then 10 else 0) short

-- the two letters differ
no_lower_u-upper_u : (c : ℕ) → (c == upper_u) ≡ true → (c == lower_u) ≡ false
no_lower_u-upper_u c upper = grind (arith, nat_tests)

-- so no name is of both
no_short_name : (b c : ℕ) (text : List ℕ) → (c == upper_u) ≡ true → short_name b c text ≡ false
no_short_name b c text upper = and_left (b == backslash && c == lower_u) _ (and_right (b == backslash) _ (no_lower_u-upper_u c upper))

-- one of eight digits has ten bytes
pub universal_length-long : (b c : ℕ) (text : List ℕ) → long_name b c text ≡ true → universal_length (b ∷ c ∷ text) ≡ 10
universal_length-long b c text long =
    let upper = (and_parts (b == backslash) _ (and_parts (b == backslash && c == upper_u) _ long).0).1 in
    cond-false (short_name b c text) 6 (if long_name b c text then 10 else 0) (no_short_name b c text upper)
    ∙ cond-true (long_name b c text) 10 0 long

-- another text begins with none
universal_length-neither : (b c : ℕ) (text : List ℕ) → short_name b c text ≡ false → long_name b c text ≡ false → universal_length (b ∷ c ∷ text) ≡ 0
universal_length-neither b c text short long =
    cond-false (short_name b c text) 6 (if long_name b c text then 10 else 0) short ∙ cond-false (long_name b c text) 10 0 long

-- where a name begins, it is one of the two
pub begins_universal-cases : (b c : ℕ) (text : List ℕ) → begins_universal (b ∷ c ∷ text) ≡ true → (short_name b c text ≡ true) ⊎ (long_name b c text ≡ true)
begins_universal-cases b c text is =
    elim (cases_Bool (short_name b c text)) [
      | inl short ↦ inl short
      | inr no_short ↦ elim (cases_Bool (long_name b c text)) [
        | inl long ↦ inr long
        | inr no_long ↦ absurd (true≢false (sym is ∙ ap (nat_lt 0) (universal_length-neither b c text no_short no_long)))
      ]
    ]

-- the digits behind the letter are what counts
short_name-kept :
    (b c : ℕ) (text other : List ℕ) → (begins_hexadecimal 4 text ≡ true → begins_hexadecimal 4 other ≡ true) → short_name b c text ≡ true → short_name b c other ≡ true
short_name-kept b c text other digits short =
    let parts = and_parts (b == backslash && c == lower_u) _ short in
    and_from _ _ parts.0 (digits parts.1)

-- the same with eight digits
long_name-kept :
    (b c : ℕ) (text other : List ℕ) → (begins_hexadecimal 8 text ≡ true → begins_hexadecimal 8 other ≡ true) → long_name b c text ≡ true → long_name b c other ≡ true
long_name-kept b c text other digits long =
    let parts = and_parts (b == backslash && c == upper_u) _ long in
    and_from _ _ parts.0 (digits parts.1)

-- a name at the front of a front is the one at the front of the text
pub universal_length-append : (front rest : List ℕ) → begins_universal front ≡ true → universal_length (front ++ rest) ≡ universal_length front
universal_length-append [] rest is = absurd (true≢false (sym is))
universal_length-append (b ∷ []) rest is = absurd (true≢false (sym is))
universal_length-append (b ∷ c ∷ front) rest is =
    elim (begins_universal-cases b c front is) [
      | inl short ↦
          universal_length-short b c (front ++ rest) (short_name-kept b c front (front ++ rest) (begins_hexadecimal-append 4 front rest) short)
          ∙ sym (universal_length-short b c front short)
      | inr long ↦
          universal_length-long b c (front ++ rest) (long_name-kept b c front (front ++ rest) (begins_hexadecimal-append 8 front rest) long)
          ∙ sym (universal_length-long b c front long)
    ]

-- so one begins there
pub begins_universal-append : (front rest : List ℕ) → begins_universal front ≡ true → begins_universal (front ++ rest) ≡ true
begins_universal-append front rest is = ap (nat_lt 0) (universal_length-append front rest is) ∙ is

-- and a name at the front of the text is that of a front that is long enough
pub begins_universal-take : (text : List ℕ) (taken : ℕ) → universal_length text ≤ taken → begins_universal text ≡ true → begins_universal (take taken text) ≡ true
begins_universal-take [] taken within is = absurd (true≢false (sym is))
begins_universal-take (b ∷ []) taken within is = absurd (true≢false (sym is))
begins_universal-take (b ∷ c ∷ text) zero within is = absurd (omega (arith, ltb-true 0 (universal_length (b ∷ c ∷ text)) is))
begins_universal-take (b ∷ c ∷ text) (suc zero) within is =
    elim (begins_universal-cases b c text is) [
      | inl short ↦ absurd (omega (arith, universal_length-short b c text short))
      | inr long ↦ absurd (omega (arith, universal_length-long b c text long))
    ]
begins_universal-take (b ∷ c ∷ text) (suc (suc taken)) within is =
    elim (begins_universal-cases b c text is) [
      | inl short ↦
          let enough : 4 ≤ taken = omega (arith, universal_length-short b c text short) in
          ap (nat_lt 0) (universal_length-short b c (take taken text) (short_name-kept b c text (take taken text) (begins_hexadecimal-take 4 taken text enough) short))
      | inr long ↦
          let enough : 8 ≤ taken = omega (arith, universal_length-long b c text long) in
          ap (nat_lt 0) (universal_length-long b c (take taken text) (long_name-kept b c text (take taken text) (begins_hexadecimal-take 8 taken text enough) long))
    ]

-- where none begins, the length is zero
pub universal_length-none : (text : List ℕ) → begins_universal text ≡ false → universal_length text ≡ 0
universal_length-none text none = omega (arith, ltb-false 0 (universal_length text) none)

-- so a front that is long enough has the same length of a name
pub universal_length-take : (text : List ℕ) (taken : ℕ) → universal_length text ≤ taken → universal_length (take taken text) ≡ universal_length text
universal_length-take text taken within =
    elim (cases_Bool (begins_universal (take taken text))) [
      | inl is ↦ sym (universal_length-append (take taken text) (drop taken text) is) ∙ ap universal_length (take-append-drop taken text)
      | inr none ↦ elim (cases_Bool (begins_universal text)) [
        | inl is ↦ absurd (true≢false (sym (begins_universal-take text taken within is) ∙ none))
        | inr nothing ↦ universal_length-none (take taken text) none ∙ sym (universal_length-none text nothing)
      ]
    ]

-- a name begins with a backslash
pub begins_universal-backslash : (b : ℕ) (text : List ℕ) → begins_universal (b ∷ text) ≡ true → (b == backslash) ≡ true
begins_universal-backslash b [] is = absurd (true≢false (sym is))
begins_universal-backslash b (c ∷ text) is =
    elim (begins_universal-cases b c text is) [
      | inl short ↦ (and_parts (b == backslash) _ (and_parts (b == backslash && c == lower_u) _ short).0).0
      | inr long ↦ (and_parts (b == backslash) _ (and_parts (b == backslash && c == upper_u) _ long).0).0
    ]
