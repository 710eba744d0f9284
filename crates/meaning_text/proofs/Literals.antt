-- The lengths of character constants and string literals are those of the fronts that are spelled so.
use Rattle.std.proofs.Common.{◌≡◌, ℕ, zero, suc, ◌+◌, ◌-◌, ◌<◌, ◌≤◌, Bool, true, false, not, ◌&&◌, ◌==◌, List, [], ◌∷◌, ◌++◌, length, take, drop, Option, Some, refl, sym, ap, ◌∙◌, subst, inl, inr, true≢false, arith, one-add, length-drop}
use Rattle.std.proofs.lemmas.Bool.{cases_Bool, and_parts}
use Rattle.std.proofs.lemmas.Bool.Decides.{nat_tests}
use Rattle.std.proofs.lemmas.List.{drop-take, drop-append-le}
use Rattle.std.proofs.lemmas.Option.{none-some}
use Rattle.meaning_text.specs.Bytes.{new_line, double_quote, single_quote, lower_u, backslash, is_prefix_letter}
use Rattle.meaning_text.specs.Quoted.{ends_quoted, is_quoted, character_prefix, string_prefix, is_character, is_string}
use Rattle.meaning_text.specs.Fronts.{longer_by, quoted_tail_length, quoted_length, character_length, string_length}
use Rattle.meaning_text.proofs.Scans.{Passes, MeasuresFronts, longer_by-Some, longer_by_one, scan_measures}

-- Quotation marks

-- what is found up to the closing mark is what ends a literal
quoted_tail_measures : (quote : ℕ) (escaped : Bool) → MeasuresFronts (quoted_tail_length quote escaped) (ends_quoted quote escaped)
quoted_tail_measures quote =
    scan_measures (λ b. b == new_line) (λ escaped b. b == quote && not escaped) (λ escaped b. b == backslash && not escaped)
    (quoted_tail_length quote) (ends_quoted quote) (λ escaped. refl) (λ escaped b text. refl) (λ escaped. refl) (λ escaped b text. refl)

-- where a literal is closed, its front is quoted
quoted-passes : (quote : ℕ) (text : List ℕ) (count : ℕ) → quoted_length quote text ≡ Some count → Passes (is_quoted quote) text count
quoted-passes quote [] count e = absurd (none-some count e)
quoted-passes quote (b ∷ text) count e =
    elim (cases_Bool (b == quote)) [
      | inl opens ↦
          longer_by_one (Passes (is_quoted quote) (b ∷ text)) count (quoted_tail_length quote false text) (rw opens at e) (λ behind inner.
          let rest = (quoted_tail_measures quote false).passes text behind inner in
          record { some = omega arith; within = omega arith; is_one = rw opens rest.is_one })
      | inr other ↦ absurd (none-some count (rw other at e))
    ]

-- a front that is quoted is found
quoted-finds : (quote : ℕ) (front rest : List ℕ) → is_quoted quote front ≡ true → quoted_length quote (front ++ rest) ≡ Some (length front)
quoted-finds quote [] rest is = absurd (true≢false (sym is))
quoted-finds quote (b ∷ front) rest is =
    let parts = and_parts (b == quote) _ is in
    rw parts.0 (ap (longer_by 1) ((quoted_tail_measures quote false).finds front rest parts.1) ∙ ap Some (one-add (length front)))

-- so the two go together
pub quoted_measures : (quote : ℕ) → MeasuresFronts (quoted_length quote) (is_quoted quote)
quoted_measures quote = record { passes = quoted-passes quote; finds = quoted-finds quote }

-- Prefixes

-- whether a text begins with a prefix shows in each front that is longer
record IsPrefixLength (prefix : List ℕ → ℕ) : Type 0 where
  in_text : (front rest : List ℕ) → prefix front < length front → prefix (front ++ rest) ≡ prefix front
  in_front : (text : List ℕ) (count : ℕ) → prefix text < count → prefix (take count text) ≡ prefix text

-- the prefix of a front is that of the text
character_prefix-in_text : (front rest : List ℕ) → character_prefix front < length front → character_prefix (front ++ rest) ≡ character_prefix front
character_prefix-in_text [] rest below = absurd (omega arith)
character_prefix-in_text (b ∷ front) rest below = refl

-- the prefix of a text is that of its fronts
character_prefix-in_front : (text : List ℕ) (count : ℕ) → character_prefix text < count → character_prefix (take count text) ≡ character_prefix text
character_prefix-in_front text zero below = absurd (omega arith)
character_prefix-in_front [] (suc count) below = refl
character_prefix-in_front (b ∷ text) (suc count) below = refl

-- so it is with the prefixes of character constants
character_prefix-IsPrefixLength : IsPrefixLength character_prefix
character_prefix-IsPrefixLength = record { in_text = character_prefix-in_text; in_front = character_prefix-in_front }

-- a byte that is no prefix begins none
pub string_prefix-none : (b : ℕ) (text : List ℕ) → is_prefix_letter b ≡ false → string_prefix (b ∷ text) ≡ 0
string_prefix-none b [] none = rw none refl
string_prefix-none b (c ∷ text) none =
    let other : (b == lower_u) ≡ false = grind (arith, nat_tests) in
    rw (none, other) refl

-- where one byte has no prefix before it, it is none
character_prefix-zero : (b : ℕ) → character_prefix (b ∷ []) < 1 → is_prefix_letter b ≡ false
character_prefix-zero b below = grind (arith, nat_tests)

-- nor is it where more bytes have none
string_prefix-zero : (b c : ℕ) (text : List ℕ) → string_prefix (b ∷ c ∷ text) < 1 → is_prefix_letter b ≡ false
string_prefix-zero b c text below = grind (arith, nat_tests)

-- the prefix of a front is that of the text
string_prefix-in_text : (front rest : List ℕ) → string_prefix front < length front → string_prefix (front ++ rest) ≡ string_prefix front
string_prefix-in_text [] rest below = absurd (omega arith)
string_prefix-in_text (b ∷ []) rest below =
    let none = character_prefix-zero b below in
    string_prefix-none b rest none ∙ sym (string_prefix-none b [] none)
string_prefix-in_text (b ∷ c ∷ front) rest below = refl

-- the prefix of a text is that of its fronts
string_prefix-in_front : (text : List ℕ) (count : ℕ) → string_prefix text < count → string_prefix (take count text) ≡ string_prefix text
string_prefix-in_front text zero below = absurd (omega arith)
string_prefix-in_front [] (suc count) below = refl
string_prefix-in_front (b ∷ []) (suc zero) below = refl
string_prefix-in_front (b ∷ []) (suc (suc count)) below = refl
string_prefix-in_front (b ∷ c ∷ text) (suc zero) below =
    let none = string_prefix-zero b c text below in
    string_prefix-none b [] none ∙ sym (string_prefix-none b (c ∷ text) none)
string_prefix-in_front (b ∷ c ∷ text) (suc (suc count)) below = refl

-- so it is with the prefixes of string literals
string_prefix-IsPrefixLength : IsPrefixLength string_prefix
string_prefix-IsPrefixLength = record { in_text = string_prefix-in_text; in_front = string_prefix-in_front }

module _ (prefix : List ℕ → ℕ) (is_prefix : IsPrefixLength prefix) (found : List ℕ → Option ℕ) (is : List ℕ → Bool) (measures : MeasuresFronts found is) where
  -- what is found behind a prefix passes with it
  prefixed-passes :
      (text : List ℕ) (count : ℕ) → longer_by (prefix text) (found (drop (prefix text) text)) ≡ Some count → Passes (λ front. is (drop (prefix front) front)) text count
  prefixed-passes text count e =
      let inner = longer_by-Some (prefix text) count (found (drop (prefix text) text)) e in
      let rest = measures.passes (drop (prefix text) text) inner.0 inner.1 in
      let behind : inner.0 ≤ length text - prefix text = subst (λ (n : ℕ). inner.0 ≤ n) (length-drop (prefix text) text) rest.within in
      let longer : prefix text < prefix text + inner.0 = omega arith in
      subst (Passes (λ front. is (drop (prefix front) front)) text) (sym inner.2)
      (record {
        some = omega arith;
        within = omega arith;
        is_one =
            ap (λ (p : ℕ). is (drop p (take (prefix text + inner.0) text))) (is_prefix.in_front text (prefix text + inner.0) longer)
            ∙ ap is (drop-take (prefix text) inner.0 text) ∙ rest.is_one;
      })

  -- and what passes with it is found
  prefixed-finds :
      (front rest : List ℕ) → is (drop (prefix front) front) ≡ true
      → longer_by (prefix (front ++ rest)) (found (drop (prefix (front ++ rest)) (front ++ rest))) ≡ Some (length front)
  prefixed-finds front rest passing =
      let whole = drop (prefix front) front in
      let alone = measures.passes (whole ++ []) (length whole) (measures.finds whole [] passing) in
      let longer : prefix front < length front = omega (arith, alone.some, length-drop (prefix front) front) in
      let kept = drop-append-le (prefix front) front rest (omega arith) in
      ap (λ (p : ℕ). longer_by p (found (drop p (front ++ rest)))) (is_prefix.in_text front rest longer)
      ∙ ap (λ (t : List ℕ). longer_by (prefix front) (found t)) kept
      ∙ ap (longer_by (prefix front)) (measures.finds whole rest passing)
      ∙ ap Some (omega (arith, length-drop (prefix front) front))

-- the lengths of character constants
pub character_measures : MeasuresFronts character_length is_character
character_measures = record {
  passes = prefixed-passes character_prefix character_prefix-IsPrefixLength (quoted_length single_quote) (is_quoted single_quote) (quoted_measures single_quote);
  finds = prefixed-finds character_prefix character_prefix-IsPrefixLength (quoted_length single_quote) (is_quoted single_quote) (quoted_measures single_quote);
}

-- the lengths of string literals
pub string_measures : MeasuresFronts string_length is_string
string_measures = record {
  passes = prefixed-passes string_prefix string_prefix-IsPrefixLength (quoted_length double_quote) (is_quoted double_quote) (quoted_measures double_quote);
  finds = prefixed-finds string_prefix string_prefix-IsPrefixLength (quoted_length double_quote) (is_quoted double_quote) (quoted_measures double_quote);
}
