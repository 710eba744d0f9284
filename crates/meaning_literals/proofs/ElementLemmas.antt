-- The elements that are computed are those that the grammar spells.
use Rattle.std.proofs.Common.{◌≡◌, ℕ, suc, zero, ◌+◌, ◌<◌, ◌≤◌, true, false, Some, None, nat_le, List, [], ◌∷◌, ◌++◌, length, drop, codes, if◌then◌else◌, refl, sym, ap, ◌∙◌, subst, arith, ◌⊎◌}
use Rattle.std.specs.Str.{bytes_eq}
use Rattle.std.specs.List.{list_all}
use Rattle.std.proofs.Math.Seq.{drop-append_seam, drop-append-add}
use Rattle.std.proofs.lemmas.Bool.Decides.{nat_tests}
use Rattle.std.proofs.lemmas.Bool.{and_parts}
use Rattle.std.proofs.lemmas.List.Folds.{length-prefix_len}
use Rattle.meaning_literals.specs.Numbers.{Octal, Hexadecimal, is_digit_of, digits_of, number}
use Rattle.meaning_literals.specs.Bytes.{is_one_of}
use Rattle.meaning_literals.specs.Elements.{Element, Plain, Escape, UniversalName, Piece, unknown_escape, simple_value, octal_escape, hexadecimal_escape, universal_name, escape_at, piece_at, elements_of, elements_behind}
use Rattle.meaning_literals.specs.Grammar.{Spells, spells_plain, spells_simple, spells_octal, spells_hexadecimal, spells_short_name, spells_long_name, stops}
use Rattle.meaning_literals.proofs.Runs.{IsRun-append, take-run, prefix_len-ge, IsShortRun-append}

-- the first element of a text is computed so, and so is what follows it
pub record Reads (b : ℕ) (text : List ℕ) (element : Element) (rest : List ℕ) : Type 0 where
  pub first : (piece_at b text).element ≡ element
  pub behind : drop (piece_at b text).further text ≡ rest

-- an octal digit is no simple escape
octal_is_not_simple : (b : ℕ) → is_digit_of Octal b ≡ true → simple_value b ≡ None
octal_is_not_simple b digit = grind (arith, nat_tests)

-- the element that begins the one text begins the other
Reads-same : (b c : ℕ) (text other : List ℕ) (element : Element) (rest : List ℕ) → b ∷ text ≡ c ∷ other → Reads b text element rest → Reads c other element rest
Reads-same b c text other element rest same reads =
    let first : b ≡ c = cc in
    let behind : text ≡ other = cc in
    subst (λ t. Reads c t element rest) behind (subst (λ x. Reads x text element rest) first reads)

Reads-plain : (b : ℕ) (rest : List ℕ) → is_one_of (codes "\\") b ≡ false → Reads b rest (Plain b) rest
Reads-plain b rest plain = record { first = rw plain refl; behind = rw plain refl }

-- the backslash
abbrev pub mark : ℕ
mark = 92

Reads-simple : (b value : ℕ) (rest : List ℕ) → simple_value b ≡ Some value → Reads mark (b ∷ rest) (Escape value) rest
Reads-simple b value rest simple = record { first = rw simple refl; behind = rw simple refl }

-- an octal digit behind the backslash begins an octal escape sequence
pub escape_at-octal : (b : ℕ) (text : List ℕ) → is_digit_of Octal b ≡ true → escape_at (b ∷ text) ≡ octal_escape (b ∷ text)
escape_at-octal b text digit = rw (octal_is_not_simple b digit, digit) refl

Reads-octal :
    (b : ℕ) (digits rest : List ℕ) → list_all (is_digit_of Octal) (b ∷ digits) ≡ true → length (b ∷ digits) ≤ 3
    → (length (b ∷ digits) ≡ 3) ⊎ (stops (is_digit_of Octal) rest ≡ true) → Reads mark (b ∷ digits ++ rest) (Escape (number Octal (b ∷ digits))) rest
Reads-octal b digits rest passes few ends =
    let run = IsShortRun-append (is_digit_of Octal) (b ∷ digits) rest passes few ends in
    let piece = escape_at-octal b (digits ++ rest) (and_parts (is_digit_of Octal b) _ passes).0 in
    record {
      first = ap (λ (p : Piece). p.element) piece ∙ ap (λ ds. Escape (number Octal ds)) run.front;
      behind =
          ap (λ (p : Piece). drop p.further (b ∷ digits ++ rest)) piece ∙ ap (λ ds. drop (length ds) (b ∷ digits ++ rest)) run.front ∙ drop-append_seam (b ∷ digits) rest;
    }

-- with a digit there is a hexadecimal escape sequence
pub hexadecimal_escape-some :
    (text digits : List ℕ) → digits_of Hexadecimal text ≡ digits → 0 < length digits
    → hexadecimal_escape text ≡ record { element = Escape (number Hexadecimal digits); further = 1 + length digits }
hexadecimal_escape-some text [] front some = absurd (omega arith)
hexadecimal_escape-some text (b ∷ digits) front some =
    ap (λ ds. let p : Piece = if bytes_eq ds [] then unknown_escape else record { element = Escape (number Hexadecimal ds); further = 1 + length ds } in p) front

Reads-hexadecimal :
    (digits rest : List ℕ) → list_all (is_digit_of Hexadecimal) digits ≡ true → 0 < length digits → stops (is_digit_of Hexadecimal) rest ≡ true
    → Reads mark (codes "x" ++ digits ++ rest) (Escape (number Hexadecimal digits)) rest
Reads-hexadecimal digits rest passes some ends =
    let text = digits ++ rest in
    let run = IsRun-append (is_digit_of Hexadecimal) digits rest passes ends in
    let piece = hexadecimal_escape-some text digits (take-run (is_digit_of Hexadecimal) text digits rest run) some in
    record {
      first = ap (λ (p : Piece). p.element) piece;
      behind = ap (λ (p : Piece). drop p.further (codes "x" ++ text)) piece ∙ drop-append-add (codes "x") text (length digits) ∙ drop-append_seam digits rest;
    }

-- so many digits make a universal character name
universal_name-some :
    (count : ℕ) (text : List ℕ) → count ≤ length (digits_of Hexadecimal text) → universal_name count text ≡ record { element = UniversalName; further = 1 + count }
universal_name-some count text enough =
    let test : nat_le count (length (digits_of Hexadecimal text)) ≡ true = grind (arith, nat_tests) in
    rw test refl

-- digits at the front of a text are among those that are found there
enough_digits : (digits rest : List ℕ) → list_all (is_digit_of Hexadecimal) digits ≡ true → length digits ≤ length (digits_of Hexadecimal (digits ++ rest))
enough_digits digits rest passes =
    omega (arith, prefix_len-ge (is_digit_of Hexadecimal) digits rest passes, length-prefix_len (is_digit_of Hexadecimal) (digits ++ rest))

-- the name behind its letter
Reads-name :
    (b count : ℕ) (digits rest : List ℕ) → escape_at (b ∷ digits ++ rest) ≡ universal_name count (digits ++ rest)
    → list_all (is_digit_of Hexadecimal) digits ≡ true → length digits ≡ count → Reads mark (b ∷ digits ++ rest) UniversalName rest
Reads-name b count digits rest name passes counted =
    let enough : count ≤ length (digits_of Hexadecimal (digits ++ rest)) = omega (arith, enough_digits digits rest passes) in
    let piece = name ∙ universal_name-some count (digits ++ rest) enough in
    record {
      first = ap (λ (p : Piece). p.element) piece;
      behind =
          ap (λ (p : Piece). drop p.further (b ∷ digits ++ rest)) piece ∙ drop-append-add (b ∷ []) (digits ++ rest) count
          ∙ ap (λ n. drop n (digits ++ rest)) (sym counted) ∙ drop-append_seam digits rest;
    }

-- an element that is spelled here is the one that is computed
pub Reads-Spells : (element : Element) (bytes rest : List ℕ) → Spells element bytes rest → (b : ℕ) (text : List ℕ) → bytes ++ rest ≡ b ∷ text → Reads b text element rest
Reads-Spells _ _ _ (spells_plain {b = c} {rest = rest} plain) b text same = Reads-same c b rest text _ rest same (Reads-plain c rest plain)
Reads-Spells _ _ _ (spells_simple {b = c} {value = value} {rest = rest} simple) b text same =
    Reads-same mark b (c ∷ rest) text _ rest same (Reads-simple c value rest simple)
Reads-Spells _ _ _ (spells_octal {digits = []} passes some few ends) b text same = absurd (omega arith)
Reads-Spells _ _ _ (spells_octal {digits = c ∷ digits} {rest = rest} passes some few ends) b text same =
    Reads-same mark b (c ∷ digits ++ rest) text _ rest same (Reads-octal c digits rest passes few ends)
Reads-Spells _ _ _ (spells_hexadecimal {digits = digits} {rest = rest} passes some ends) b text same =
    Reads-same mark b (codes "x" ++ digits ++ rest) text _ rest same (Reads-hexadecimal digits rest passes some ends)
Reads-Spells _ _ _ (spells_short_name {digits = digits} {rest = rest} passes counted) b text same =
    Reads-same mark b (codes "u" ++ digits ++ rest) text _ rest same (Reads-name 117 4 digits rest refl passes counted)
Reads-Spells _ _ _ (spells_long_name {digits = digits} {rest = rest} passes counted) b text same =
    Reads-same mark b (codes "U" ++ digits ++ rest) text _ rest same (Reads-name 85 8 digits rest refl passes counted)

-- the elements behind some bytes are those of the text without them
elements_behind-drop : (skipped : ℕ) (text : List ℕ) → elements_behind skipped text ≡ elements_of (drop skipped text)
elements_behind-drop zero [] = refl
elements_behind-drop (suc skipped) [] = refl
elements_behind-drop zero (b ∷ text) = refl
elements_behind-drop (suc skipped) (b ∷ text) = elements_behind-drop skipped text

-- the first element, and those behind it
pub elements_of-cons : (b : ℕ) (text : List ℕ) → elements_of (b ∷ text) ≡ (piece_at b text).element ∷ elements_of (drop (piece_at b text).further text)
elements_of-cons b text =
    ap (λ others. (piece_at b text).element ∷ others) (elements_behind-drop (piece_at b text).further text)
