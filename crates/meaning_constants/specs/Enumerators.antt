-- The constants of enumerators, and the type of their enumeration (C11 6.7.2.2).
use Rattle.std.specs.Prelude.{ℤ, pos, ◌+ℤ◌, int_le, Bool, true, ◌&&◌, Option, Some, None, List, [], ◌∷◌, if◌then◌else◌}
use Rattle.vocabulary.specs.declared.int_kind.IntKind.{IntKind}
use Rattle.vocabulary.specs.declared.int_kind.IntKind.TheVariants as kinds
use Rattle.meaning_types.specs.Ranges.{least, greatest}
use Rattle.meaning_constants.specs.Numbers.{converted}
use Rattle.meaning_constants.specs.Constants.{Constant}

-- the kind has the number
abbrev pub holds : IntKind → ℤ → Bool
holds kind number = int_le (least kind) number && int_le number (greatest kind)

abbrev pub holds_all : IntKind → List ℤ → Bool
holds_all kind [] = true
holds_all kind (number ∷ numbers) = holds kind number && holds_all kind numbers

-- the first of the kinds that has all the numbers
abbrev pub first_kind : List IntKind → List ℤ → Option IntKind
first_kind [] numbers = None
first_kind (kind ∷ others) numbers = if holds_all kind numbers then Some kind else first_kind others numbers

-- the kinds of an enumeration, and of an enumerator that goes on from the one before it (6.7.2.2 p4: our choice)
abbrev pub enumeration_kinds : List IntKind
enumeration_kinds = kinds.Int ∷ kinds.UInt ∷ kinds.Long ∷ kinds.ULong ∷ []

-- the kind of an enumeration whose enumerators have these numbers
abbrev pub enumeration_kind : List ℤ → Option IntKind
enumeration_kind numbers = first_kind enumeration_kinds numbers

-- An enumerator with an expression is an int where int has its number, else it has the type of the expression; a fouled
-- number is converted to that type first.
abbrev pub enumerator_of : Constant → Constant
enumerator_of value =
    if holds kinds.Int (converted value.kind value.number)
    then record { kind = kinds.Int; number = converted value.kind value.number }
    else record { kind = value.kind; number = converted value.kind value.number }

-- one whose expression is restricted keeps its kind
abbrev pub restricted_enumerator_of : Constant → Constant
restricted_enumerator_of value = record { kind = value.kind; number = converted value.kind value.number }

-- an enumerator of this kind, if there is one that has its number
abbrev pub with_enumerator_kind : Option IntKind → ℤ → Option Constant
with_enumerator_kind None number = None
with_enumerator_kind (Some kind) number = Some (record { kind = kind; number = number })

-- an enumerator with this number and no expression (6.7.2.2 p3)
abbrev pub counted_enumerator : ℤ → Option Constant
counted_enumerator number = with_enumerator_kind (first_kind enumeration_kinds (number ∷ [])) number

-- the first enumerator without an expression is 0
abbrev pub first_enumerator : Option Constant
first_enumerator = counted_enumerator (pos 0)

-- and each other one is 1 more than the one before it
abbrev pub next_enumerator : (before : Constant) → Option Constant
next_enumerator before = counted_enumerator (before.number +ℤ pos 1)
