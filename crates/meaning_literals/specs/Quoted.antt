-- The values of character constants (C11 6.4.4.4) and string literals (6.4.5). A character is a byte.
use Rattle.std.specs.Prelude.{ℕ, ◌+◌, ◌-◌, ◌^◌, Bool, false, Result, Ok, Err, List, [], ◌∷◌, length, slice_range, codes, nat_le, if◌then◌else◌}
use Rattle.vocabulary.specs.declared.int_kind.IntKind.TheVariants.{Int}
use Rattle.meaning_literals.specs.Constants.{Constant, Fault, BadEscapeFault, EmptyFault, WideFault, UniversalFault}
use Rattle.meaning_literals.specs.Bytes.{is_one_of}
use Rattle.meaning_literals.specs.Elements.{Element, Plain, Escape, UnknownEscape, UniversalName, elements_of}

-- the text begins with this mark, so no prefix goes before it
abbrev pub begins_with_mark : List ℕ → List ℕ → Bool
begins_with_mark mark [] = false
begins_with_mark mark (b ∷ text) = is_one_of mark b

-- what stands between the first byte and the last one
abbrev pub content : List ℕ → List ℕ
content text = slice_range text 1 (length text - 1)

-- the byte that an element is; the value of an escape sequence is one of unsigned char (6.4.4.4 p9)
abbrev pub byte_of : Element → Result ℕ Fault
byte_of (Plain b) = Ok b
byte_of (Escape value) = if nat_le value 255 then Ok value else Err BadEscapeFault
byte_of UnknownEscape = Err BadEscapeFault
byte_of UniversalName = Err UniversalFault

-- an int with the value that the byte has as a char, which is signed (6.4.4.4 p10)
abbrev pub char_constant : ℕ → Constant
char_constant b = record { kind = Int; bits = if nat_le b 127 then b else b + (2 ^ 64 - 256) }

-- the fault of a constant of two bytes or more: that of the first, or else what is found at the second
abbrev pub fault_of_two : Result ℕ Fault → Result ℕ Fault → Fault
fault_of_two (Err fault) second = fault
fault_of_two (Ok b) (Err fault) = fault
fault_of_two (Ok b) (Ok c) = BadEscapeFault

-- the one byte of these elements
abbrev pub single_byte : List Element → Result ℕ Fault
single_byte [] = Err EmptyFault
single_byte (element ∷ []) = byte_of element
single_byte (element ∷ other ∷ elements) = Err (fault_of_two (byte_of element) (byte_of other))

-- the constant of a byte, or the fault for which there is no byte
abbrev pub char_constant_of : Result ℕ Fault → Result Constant Fault
char_constant_of (Ok b) = Ok (char_constant b)
char_constant_of (Err fault) = Err fault

-- the constant that is spelled so, or its fault: a prefix, no character, the first from the left
abbrev pub char_of : List ℕ → Result Constant Fault
char_of text =
    if begins_with_mark (codes "'") text then char_constant_of (single_byte (elements_of (content text)))
    else Err WideFault

-- the byte before the bytes
abbrev pub with_byte : Result ℕ Fault → Result (List ℕ) Fault → Result (List ℕ) Fault
with_byte (Err fault) others = Err fault
with_byte (Ok b) (Err fault) = Err fault
with_byte (Ok b) (Ok bytes) = Ok (b ∷ bytes)

-- the bytes of these elements, or the first fault from the left
abbrev pub bytes_of : List Element → Result (List ℕ) Fault
bytes_of [] = Ok []
bytes_of (element ∷ elements) = with_byte (byte_of element) (bytes_of elements)

-- the bytes that are spelled so, without a last zero, or the fault: a prefix, the first from the left
abbrev pub string_of : List ℕ → Result (List ℕ) Fault
string_of text = if begins_with_mark (codes "\"") text then bytes_of (elements_of (content text)) else Err WideFault
