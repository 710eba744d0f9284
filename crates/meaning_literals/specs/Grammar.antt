-- The elements of a literal as the standard's grammar spells them (C11 6.4.4.4 p1, 6.4.3).
use Rattle.std.specs.Prelude.{◌≡◌, ℕ, ◌<◌, ◌≤◌, Bool, true, false, not, Some, List, [], ◌∷◌, ◌++◌, length, codes, ◌⊎◌}
use Rattle.std.specs.List.{list_all}
use Rattle.meaning_literals.specs.Numbers.{Base, Octal, Hexadecimal, is_digit_of, number}
use Rattle.meaning_literals.specs.Bytes.{is_one_of}
use Rattle.meaning_literals.specs.Elements.{Element, Plain, Escape, UnknownEscape, UniversalName, simple_value}

-- all bytes are digits of the base
abbrev pub are_digits : Base → List ℕ → Bool
are_digits base digits = list_all (is_digit_of base) digits

-- the first byte of a text fails the test, if there is one
abbrev pub stops : (ℕ → Bool) → List ℕ → Bool
stops test [] = true
stops test (b ∷ text) = not (test b)

-- the text doesn't go on with a digit
abbrev pub has_no_digit : Base → List ℕ → Bool
has_no_digit base text = stops (is_digit_of base) text

-- These bytes spell the element before this rest; an octal or hexadecimal escape sequence is the longest that
-- there can be (6.4.4.4 p7).
pub data Spells : Element → List ℕ → List ℕ → Type 0 where
  spells_plain : {b : ℕ} {rest : List ℕ} → is_one_of (codes "\\") b ≡ false → Spells (Plain b) (b ∷ []) rest
  spells_simple : {b value : ℕ} {rest : List ℕ} → simple_value b ≡ Some value → Spells (Escape value) (codes "\\" ++ b ∷ []) rest
  spells_octal : {digits rest : List ℕ} → are_digits Octal digits ≡ true → 0 < length digits → length digits ≤ 3
      → (length digits ≡ 3) ⊎ (has_no_digit Octal rest ≡ true) → Spells (Escape (number Octal digits)) (codes "\\" ++ digits) rest
  spells_hexadecimal : {digits rest : List ℕ} → are_digits Hexadecimal digits ≡ true → 0 < length digits
      → has_no_digit Hexadecimal rest ≡ true → Spells (Escape (number Hexadecimal digits)) (codes "\\x" ++ digits) rest
  spells_short_name : {digits rest : List ℕ} → are_digits Hexadecimal digits ≡ true → length digits ≡ 4
      → Spells UniversalName (codes "\\u" ++ digits) rest
  spells_long_name : {digits rest : List ℕ} → are_digits Hexadecimal digits ≡ true → length digits ≡ 8
      → Spells UniversalName (codes "\\U" ++ digits) rest

-- These bytes are a backslash, with the byte behind it if there is one, and no element is spelled there.
pub record IsUnknown (bytes rest : List ℕ) : Type 0 where
  pub backslash : ((bytes ≡ codes "\\") × (rest ≡ [])) ⊎ ((b : ℕ) × (bytes ≡ codes "\\" ++ b ∷ []))
  pub none : (element : Element) (front others : List ℕ) → bytes ++ rest ≡ front ++ others → Spells element front others → ⊥

-- the element has these bytes before this rest
abbrev pub HasBytes : Element → List ℕ → List ℕ → Type 0
HasBytes element bytes rest = Spells element bytes rest ⊎ ((element ≡ UnknownEscape) × IsUnknown bytes rest)

-- the text is made of these elements, one behind the other
abbrev pub IsMadeOf : List ℕ → List Element → Type 0
IsMadeOf text [] = text ≡ []
IsMadeOf text (element ∷ elements) =
    (bytes rest : List ℕ) × (text ≡ bytes ++ rest) × HasBytes element bytes rest × IsMadeOf rest elements
