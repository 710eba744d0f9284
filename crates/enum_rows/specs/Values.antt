-- Enumerators by themselves: their types and their numbers.
use Rattle.std.specs.Prelude.{ℕ, ℤ, pos, ◌+ℤ◌, Option, Some, None, if◌then◌else◌}
use Rattle.vocabulary.specs.declared.int_kind.IntKind.{IntKind}
use Rattle.vocabulary.specs.declared.int_kind.IntKind.TheVariants as kinds
use Rattle.sparse_model.specs.declared.ids.Restrict.{Restrict}
use Rattle.meaning_types.specs.Conversions.{promoted}
use Rattle.vocabulary.specs.declared.error_kind.ErrorKind.TheVariants.{EnumeratorIsNotConstant}
use Rattle.meaning_constants.specs.Constants.{Constant}
use Rattle.meaning_constants.specs.Numbers.{IsInRange, converted}
use Rattle.meaning_typing.specs.Enumerations as meaning
use Rattle.meaning_typing.specs.EnumRows.{constant_value}
use Rattle.meaning_typing.specs.Rows.{Row, breaks, breaks_at, known, nothing}
use Rattle.c_types.specs.Operands.{identity_seen}
use Rattle.enum_rows.specs.declared.integers.IntegerType.{IntegerType}
use Rattle.enum_rows.specs.declared.values.EnumeratorValue.{EnumeratorValue}
use Rattle.enum_rows.specs.Integers.{has_span, kind_of_span, only_number, plain_integer, type_of_integer}

abbrev pub constant_in : EnumeratorValue → Constant
constant_in value = record { kind = value.of.kind; number = value.number }

abbrev pub value_seen : EnumeratorValue → meaning.EnumeratorValue
value_seen value = record { constant = constant_in value; identity = identity_seen value.of.identity }

-- 64 bits tell its number
abbrev pub IsKept : EnumeratorValue → Type 0
IsKept value = IsInRange (promoted value.of.kind) value.number

abbrev pub value_by : Option IntegerType → (number : Option ℤ) → Option EnumeratorValue
value_by (Some of) (Some number) = Some (record { of = of; number = number })
value_by of number = None

-- With an expression

-- an int where int has the number
abbrev pub kind_settled : IntKind → ℤ → IntKind
kind_settled kind number = if has_span kinds.Int (only_number number) then kinds.Int else kind

-- a restricted one keeps its kind
abbrev pub type_settled : Option Restrict → IntKind → ℤ → IntegerType
type_settled None kind number = plain_integer (kind_settled kind number)
type_settled (Some identity) kind number = record { kind = kind; identity = Some identity }

-- the value of an expression as an enumerator has it
abbrev pub settled : EnumeratorValue → EnumeratorValue
settled value =
    record {
      of = type_settled value.of.identity value.of.kind (converted value.of.kind value.number);
      number = converted value.of.kind value.number;
    }

-- Without one

abbrev pub with_kind : Option IntKind → ℤ → Option EnumeratorValue
with_kind None number = None
with_kind (Some kind) number = Some (record { of = plain_integer kind; number = number })

-- one that has this number
abbrev pub counted : ℤ → Option EnumeratorValue
counted number = with_kind (kind_of_span (only_number number)) number

-- 1 more than another
abbrev pub next : EnumeratorValue → Option EnumeratorValue
next before = counted (before.number +ℤ pos 1)

abbrev pub next_if : Option EnumeratorValue → Option EnumeratorValue
next_if None = None
next_if (Some before) = next before

-- Rows by values

abbrev pub value_row : EnumeratorValue → Row
value_row value = known (constant_value (type_of_integer value.of) value.number)

-- of an expression, if it is an integer constant
abbrev pub valued_row : (token : ℕ) → Option EnumeratorValue → Row
valued_row token None = breaks (breaks_at EnumeratorIsNotConstant token)
valued_row token (Some value) = value_row (settled value)

-- of what is counted, if a type has the number
abbrev pub counted_row : Option EnumeratorValue → Row
counted_row None = nothing
counted_row (Some value) = value_row value
