-- What stands between the quotation marks of a literal (C11 6.4.4.4 p1, 6.4.5 p1).
use Rattle.std.specs.Prelude.{ℕ, zero, suc, ◌+◌, ◌==◌, Option, Some, None, option_map, List, [], ◌∷◌, ◌++◌, take, length, find, zip, codes, nat_le, if◌then◌else◌}
use Rattle.std.specs.Str.{bytes_eq}
use Rattle.meaning_literals.specs.Numbers.{Octal, Hexadecimal, is_digit_of, digits_of, number}
use Rattle.meaning_literals.specs.Bytes.{is_one_of}

-- what a literal is made of between its quotation marks
pub data Element : Type 0 where
  -- a byte that stands for itself
  Plain : ℕ → Element
  -- an escape sequence, with its value
  Escape : ℕ → Element
  -- a backslash, with the byte behind it, that begins none
  UnknownEscape : Element
  -- a universal character name (6.4.3)
  UniversalName : Element

-- an element, and how many bytes behind its first one belong to it
pub record Piece : Type 0 where
  pub element : Element
  pub further : ℕ

-- the bytes that name themselves behind a backslash, and then the letters (6.4.4.4 p3, p4)
abbrev pub simple_escapes : List ℕ
simple_escapes = codes "'\"?\\" ++ codes "abfnrtv"

-- what they stand for: the letters for alert, backspace, form feed, new-line, carriage return, horizontal
-- and vertical tab (5.2.2 p2), as ASCII numbers them, which is our choice
abbrev pub simple_values : List ℕ
simple_values = codes "'\"?\\" ++ 7 ∷ 8 ∷ 12 ∷ 10 ∷ 13 ∷ 9 ∷ 11 ∷ []

-- the value of a simple escape sequence, by the byte behind its backslash
abbrev pub simple_value : ℕ → Option ℕ
simple_value b = option_map (λ row. row.1) (find (λ row. b == row.0) (zip simple_escapes simple_values))

-- a backslash with the byte behind it, where they begin no escape sequence
abbrev pub unknown_escape : Piece
unknown_escape = record { element = UnknownEscape; further = 1 }

-- at most three octal digits, as many as there can be (6.4.4.4 p7)
abbrev pub octal_escape : List ℕ → Piece
octal_escape text =
    record { element = Escape (number Octal (digits_of Octal (take 3 text))); further = length (digits_of Octal (take 3 text)) }

-- what follows `\x`: hexadecimal digits, at least one and as many as there can be
abbrev pub hexadecimal_escape : List ℕ → Piece
hexadecimal_escape text =
    if bytes_eq (digits_of Hexadecimal text) [] then unknown_escape
    else record { element = Escape (number Hexadecimal (digits_of Hexadecimal text)); further = 1 + length (digits_of Hexadecimal text) }

-- what follows `\u` or `\U`: so many hexadecimal digits (6.4.3)
abbrev pub universal_name : ℕ → List ℕ → Piece
universal_name count text =
    if nat_le count (length (digits_of Hexadecimal text)) then record { element = UniversalName; further = 1 + count }
    else unknown_escape

-- the escape sequences with a letter, from that letter on
abbrev pub lettered_escape : ℕ → List ℕ → Piece
lettered_escape b text =
    if is_one_of (codes "x") b then hexadecimal_escape text
    else (if is_one_of (codes "u") b then universal_name 4 text
    else (if is_one_of (codes "U") b then universal_name 8 text
    else unknown_escape))

-- an escape sequence whose byte behind the backslash has this simple value, if any
abbrev pub escape_with : Option ℕ → ℕ → List ℕ → Piece
escape_with (Some value) b text = record { element = Escape value; further = 1 }
escape_with None b text = if is_digit_of Octal b then octal_escape (b ∷ text) else lettered_escape b text

-- what a backslash begins, from the byte behind it on
abbrev pub escape_at : List ℕ → Piece
escape_at [] = record { element = UnknownEscape; further = 0 }
escape_at (b ∷ text) = escape_with (simple_value b) b text

-- the element that begins with this byte, before this text
abbrev pub piece_at : ℕ → List ℕ → Piece
piece_at b text =
    if is_one_of (codes "\\") b then escape_at text
    else record { element = Plain b; further = 0 }

-- the elements behind the first bytes, so many of them
abbrev pub elements_behind : ℕ → List ℕ → List Element
elements_behind skipped [] = []
elements_behind zero (b ∷ text) = (piece_at b text).element ∷ elements_behind (piece_at b text).further text
elements_behind (suc skipped) (b ∷ text) = elements_behind skipped text

-- the elements of which a text is made, from the left
abbrev pub elements_of : List ℕ → List Element
elements_of text = elements_behind 0 text
