-- The lengths of header names are those of the fronts that are spelled so.
use Rattle.std.proofs.Common.{◌≡◌, ℕ, zero, suc, ◌<◌, ◌≤◌, true, false, not, ◌&&◌, ◌==◌, List, [], ◌∷◌, ◌++◌, length, take, Some, None, refl, sym, ap, ◌∙◌, inl, inr, ⊎_elim, true≢false, arith, one-add}
use Rattle.std.proofs.lemmas.Bool.{cases_Bool, cond-true, cond-false, and_parts, and_from, or_cases, or_left, or_right, not-true, not_from_false}
use Rattle.std.proofs.lemmas.Bool.Decides.{nat_tests}
use Rattle.std.proofs.lemmas.Option.{none-some}
use Rattle.meaning_text.specs.Bytes.{new_line, double_quote, less, greater}
use Rattle.meaning_text.specs.Quoted.{ends_name, closes_name, is_header_name}
use Rattle.meaning_text.specs.Fronts.{longer_by, name_tail_length, name_length, header_name_length}
use Rattle.meaning_text.proofs.Scans.{Passes, MeasuresFronts, longer_by_one, scan_measures}

-- what is found up to the closing byte is what ends a name
name_tail_measures : (closing : ℕ) → MeasuresFronts (name_tail_length closing) (ends_name closing)
name_tail_measures closing =
    scan_measures (λ b. b == new_line) (λ state b. b == closing) (λ state b. state)
    (λ state. name_tail_length closing) (λ state. ends_name closing) (λ state. refl) (λ state b text. refl) (λ state. refl) (λ state b text. refl) false

-- a name does not close at its first byte
closes_name-inside :
    (closing b : ℕ) (text : List ℕ) (count : ℕ) → (b == closing) ≡ false → 0 < count → ends_name closing (take count (b ∷ text)) ≡ true
    → closes_name closing (take count (b ∷ text)) ≡ true
closes_name-inside closing b text zero inside some ends = absurd (omega arith)
closes_name-inside closing b text (suc count) inside some ends = and_from _ _ (not_from_false _ inside) ends

-- a double quotation mark is no `<`
no_less-double_quote : (b : ℕ) → (b == double_quote) ≡ true → (b == less) ≡ false
no_less-double_quote b quoted = grind (arith, nat_tests)

-- where a name is closed, its front is one
name-passes : (closing : ℕ) (text : List ℕ) (count : ℕ) → name_length closing text ≡ Some count → Passes (closes_name closing) text count
name-passes closing [] count e = absurd (none-some count e)
name-passes closing (b ∷ text) count e =
    elim (cases_Bool (b == closing)) [
      | inl empty ↦ absurd (none-some count (sym (cond-true (b == closing) None (name_tail_length closing (b ∷ text)) empty) ∙ e))
      | inr inside ↦
          let tail = (name_tail_measures closing).passes (b ∷ text) count (sym (cond-false (b == closing) None (name_tail_length closing (b ∷ text)) inside) ∙ e) in
          record { some = tail.some; within = tail.within; is_one = closes_name-inside closing b text count inside tail.some tail.is_one }
    ]

-- a front that closes a name is found
name-finds : (closing : ℕ) (front rest : List ℕ) → closes_name closing front ≡ true → name_length closing (front ++ rest) ≡ Some (length front)
name-finds closing [] rest is = absurd (true≢false (sym is))
name-finds closing (b ∷ front) rest is =
    let parts = and_parts (not (b == closing)) (ends_name closing (b ∷ front)) is in
    cond-false (b == closing) None (name_tail_length closing (b ∷ front ++ rest)) (not-true (b == closing) parts.0)
    ∙ (name_tail_measures closing).finds (b ∷ front) rest parts.1

-- so the two go together
name_measures : (closing : ℕ) → MeasuresFronts (name_length closing) (closes_name closing)
name_measures closing = record { passes = name-passes closing; finds = name-finds closing }

-- where a header name is found, its front is one
header_name-passes : (text : List ℕ) (count : ℕ) → header_name_length text ≡ Some count → Passes is_header_name text count
header_name-passes [] count e = absurd (none-some count e)
header_name-passes (b ∷ text) count e =
    elim (cases_Bool (b == less)) [
      | inl opens ↦
          longer_by_one (Passes is_header_name (b ∷ text)) count (name_length greater text) (rw opens at e) (λ behind inner.
          let rest = (name_measures greater).passes text behind inner in
          record { some = omega arith; within = omega arith; is_one = or_left _ _ (and_from _ _ opens rest.is_one) })
      | inr other ↦ elim (cases_Bool (b == double_quote)) [
        | inl opens ↦
            longer_by_one (Passes is_header_name (b ∷ text)) count (name_length double_quote text) (rw (other, opens) at e) (λ behind inner.
            let rest = (name_measures double_quote).passes text behind inner in
            record { some = omega arith; within = omega arith; is_one = or_right _ _ (and_from _ _ opens rest.is_one) })
        | inr neither ↦ absurd (none-some count (rw (other, neither) at e))
      ]
    ]

-- a front that is a header name is found
header_name-finds : (front rest : List ℕ) → is_header_name front ≡ true → header_name_length (front ++ rest) ≡ Some (length front)
header_name-finds [] rest is = absurd (true≢false (sym is))
header_name-finds (b ∷ front) rest is =
    ⊎_elim
    (λ angled.
    let parts = and_parts (b == less) (closes_name greater front) angled in
    rw parts.0 (ap (longer_by 1) ((name_measures greater).finds front rest parts.1) ∙ ap Some (one-add (length front))))
    (λ quoted.
    let parts = and_parts (b == double_quote) (closes_name double_quote front) quoted in
    let other : (b == less) ≡ false = no_less-double_quote b parts.0 in
    rw (other, parts.0) (ap (longer_by 1) ((name_measures double_quote).finds front rest parts.1) ∙ ap Some (one-add (length front))))
    (or_cases (b == less && closes_name greater front) (b == double_quote && closes_name double_quote front) is)

-- so the two go together
pub header_name_measures : MeasuresFronts header_name_length is_header_name
header_name_measures = record { passes = header_name-passes; finds = header_name-finds }

-- a header name has a byte between those that enclose it
length-ends_name : (closing : ℕ) (front : List ℕ) → ends_name closing front ≡ true → 0 < length front
length-ends_name closing [] is = absurd (true≢false (sym is))
length-ends_name closing (b ∷ front) is = omega arith

-- one stands before that
length-closes_name : (closing : ℕ) (front : List ℕ) → closes_name closing front ≡ true → 2 ≤ length front
length-closes_name closing [] is = absurd (true≢false (sym is))
length-closes_name closing (b ∷ front) is =
    let parts = and_parts (not (b == closing)) (ends_name closing (b ∷ front)) is in
    let inside = not-true (b == closing) parts.0 in
    let ends = (and_parts (not (b == new_line)) _ parts.1).1 in
    omega (arith, length-ends_name closing front (rw inside at ends))

-- and one opens it
pub length-header_name : (front : List ℕ) → is_header_name front ≡ true → 3 ≤ length front
length-header_name [] is = absurd (true≢false (sym is))
length-header_name (b ∷ front) is =
    ⊎_elim
    (λ angled. omega (arith, length-closes_name greater front (and_parts (b == less) _ angled).1))
    (λ quoted. omega (arith, length-closes_name double_quote front (and_parts (b == double_quote) _ quoted).1))
    (or_cases (b == less && closes_name greater front) (b == double_quote && closes_name double_quote front) is)
