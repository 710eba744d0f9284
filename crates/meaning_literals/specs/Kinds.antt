-- Which kind an integer constant has (C11 6.4.4.1 p5).
use Rattle.std.specs.Prelude.{ℕ, Option, List, [], ◌∷◌, find, pos, int_le}
use Rattle.vocabulary.specs.declared.int_kind.IntKind.{IntKind}
use Rattle.vocabulary.specs.declared.int_kind.IntKind.TheVariants.{Int, UInt, Long, ULong, LLong, ULLong}
use Rattle.meaning_types.specs.Ranges.{greatest}
use Rattle.meaning_literals.specs.Numbers.{Base, Octal, Decimal, Hexadecimal}
use Rattle.meaning_literals.specs.Suffixes.{Suffix, NoSuffix, U, L, UL, LL, ULL}

-- the column of decimal constants in the table of 6.4.4.1 p5
abbrev pub decimal_kinds : Suffix → List IntKind
decimal_kinds NoSuffix = Int ∷ Long ∷ LLong ∷ []
decimal_kinds U = UInt ∷ ULong ∷ ULLong ∷ []
decimal_kinds L = Long ∷ LLong ∷ []
decimal_kinds UL = ULong ∷ ULLong ∷ []
decimal_kinds LL = LLong ∷ []
decimal_kinds ULL = ULLong ∷ []

-- the column of octal and hexadecimal ones
abbrev pub octal_kinds : Suffix → List IntKind
octal_kinds NoSuffix = Int ∷ UInt ∷ Long ∷ ULong ∷ LLong ∷ ULLong ∷ []
octal_kinds U = UInt ∷ ULong ∷ ULLong ∷ []
octal_kinds L = Long ∷ ULong ∷ LLong ∷ ULLong ∷ []
octal_kinds UL = ULong ∷ ULLong ∷ []
octal_kinds LL = LLong ∷ ULLong ∷ []
octal_kinds ULL = ULLong ∷ []

-- the kinds that a constant may have, in the order in which they are tried
abbrev pub kinds_of : Base → Suffix → List IntKind
kinds_of Octal suffix = octal_kinds suffix
kinds_of Decimal suffix = decimal_kinds suffix
kinds_of Hexadecimal suffix = octal_kinds suffix

-- the first of them that holds the value
abbrev pub first_that_holds : ℕ → List IntKind → Option IntKind
first_that_holds value kinds = find (λ kind. int_le (pos value) (greatest kind)) kinds
