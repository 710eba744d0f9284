-- What holds of the literals of C.
use Rattle.std.specs.Prelude.{◌≡◌, ℕ, pos, ◌≤ℤ◌, int_le, List, Ok, decimal, if◌then◌else◌}
use Rattle.vocabulary.specs.declared.int_kind.IntKind.TheVariants.{Int, Long}
use Rattle.meaning_types.specs.Ranges.{greatest}
use Rattle.meaning_literals.specs.Integers.{integer_of}
use Rattle.meaning_literals.specs.Elements.{Element, elements_of}
use Rattle.meaning_literals.specs.Grammar.{IsMadeOf}

-- each text is made of the elements that are computed
abbrev pub TextsAreMadeOfElements : Type 0
TextsAreMadeOfElements = (text : List ℕ) → IsMadeOf text (elements_of text)

-- and of no others
abbrev pub ElementsAreThose : Type 0
ElementsAreThose = (text : List ℕ) (elements : List Element) → IsMadeOf text elements → elements ≡ elements_of text

-- the decimal digits of a number that a long holds are that number, an int where that holds it
abbrev pub DecimalsAreRead : Type 0
DecimalsAreRead =
    (n : ℕ) → pos n ≤ℤ greatest Long
    → integer_of (decimal n) ≡ Ok (record { kind = if int_le (pos n) (greatest Int) then Int else Long; bits = n })
