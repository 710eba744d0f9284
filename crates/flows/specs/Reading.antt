-- What is read at the front of a text: spaces, marks and numbers.
use Rattle.std.specs.Prelude.{ℕ, ◌+◌, ◌-◌, ◌*◌, ◌^◌, ℤ, pos, neg_ℤ, Bool, ◌&&◌, ◌==◌, nat_le, List, [], ◌∷◌, length, if◌then◌else◌}
use Rattle.flows.specs.declared.wrong.Fault.{Fault}
use Rattle.flows.specs.declared.wrong.Wrong.{Wrong}
use Rattle.flows.specs.declared.wrong.Wrong.TheVariants.{NoNumber, LargeNumber}

-- Something was read, and this text stands behind it; or something is wrong, and so many bytes stand there and behind.
pub data Reading (X : Type 0) : Type 0 where
  Reads : X → List ℕ → Reading X
  Fails : Wrong → (left : ℕ) → Reading X

abbrev pub fault_at : (wrong : Wrong) (left : ℕ) → Fault
fault_at wrong left = record { left = left; wrong = wrong }

-- what is read on behind something, if that was read
abbrev pub reads_on : {X Y : Type 0} → Reading X → (X → List ℕ → Reading Y) → Reading Y
reads_on (Reads x rest) next = next x rest
reads_on (Fails wrong left) next = Fails wrong left

abbrev pub behind_spaces : List ℕ → List ℕ
behind_spaces [] = []
behind_spaces (byte ∷ rest) = if byte == 32 then behind_spaces rest else byte ∷ rest

-- the mark stands at the front, or this is wrong
abbrev pub mark_at : (mark : ℕ) → Wrong → List ℕ → Reading (Unit {0})
mark_at mark wrong [] = Fails wrong 0
mark_at mark wrong (byte ∷ rest) = if byte == mark then Reads tt rest else Fails wrong (1 + length rest)

abbrev pub is_digit : ℕ → Bool
is_digit byte = nat_le 48 byte && nat_le byte 57

-- a number behind digits at the front of a text, given the one before them; and what stands behind them
abbrev pub digits_from : (number : ℕ) → List ℕ → ℕ × List ℕ
digits_from number [] = (number, [])
digits_from number (byte ∷ rest) = if is_digit byte then digits_from (number * 10 + (byte - 48)) rest else (number, byte ∷ rest)

-- the number, if it is at most so large
abbrev pub bounded : (most left : ℕ) → ℕ × List ℕ → Reading ℕ
bounded most left digits = if nat_le digits.0 most then Reads digits.0 digits.1 else Fails LargeNumber left

-- a number in decimal, at most so large
abbrev pub number_at : (most : ℕ) → List ℕ → Reading ℕ
number_at most [] = Fails NoNumber 0
number_at most (byte ∷ rest) = if is_digit byte then bounded most (1 + length rest) (digits_from (byte - 48) rest) else Fails NoNumber (1 + length rest)

abbrev pub positive_at : List ℕ → Reading ℤ
positive_at text = reads_on (number_at (2 ^ 63 - 1) text) (λ number rest. Reads (pos number) rest)

abbrev pub negative_at : List ℕ → Reading ℤ
negative_at text = reads_on (number_at (2 ^ 63) text) (λ number rest. Reads (neg_ℤ (pos number)) rest)

-- a number between -2^63 and 2^63 - 1, with a sign or without one
abbrev pub signed_at : List ℕ → Reading ℤ
signed_at [] = Fails NoNumber 0
signed_at (byte ∷ rest) =
    if byte == 45 then negative_at rest
    else if byte == 43 then positive_at rest
    else positive_at (byte ∷ rest)
