-- A kind has the numbers of a list where it has a span of them.
use Rattle.std.proofs.Common.{◌≡◌, ℤ, int_le, int_lt, Bool, true, false, ◌&&◌, if◌then◌else◌, refl, ◌∙◌, arith}
use Rattle.std.proofs.lemmas.Int.{ints}
use Rattle.vocabulary.specs.declared.int_kind.IntKind.{IntKind}
use Rattle.meaning_types.specs.Ranges.{least, greatest}
use Rattle.meaning_constants.specs.Enumerators.{holds}
use Rattle.enum_rows.specs.declared.integers.Span.{Span}
use Rattle.enum_rows.specs.Enumerations.{wider}
use Rattle.enum_rows.specs.Integers.{has_span}

-- The ends of a span with one more number

lower-end : (low least number : ℤ) → int_le low (if int_lt number least then number else least) ≡ (int_le low least && int_le low number)
lower-end low least number = grind (arith, ints)

upper-end : (high greatest number : ℤ) → int_le (if int_lt greatest number then number else greatest) high ≡ (int_le greatest high && int_le number high)
upper-end high greatest number = grind (arith, ints)

-- the first of two pairs, then the second
and-twisted : (a b c d : Bool) → ((a && b) && (c && d)) ≡ ((a && c) && (b && d))
and-twisted true true c d = refl
and-twisted true false true d = refl
and-twisted true false false d = refl
and-twisted false b c d = refl

-- a kind has a span and one more number where it has both
pub wider_spanned : (kind : IntKind) (span : Span) (number : ℤ) → has_span kind (wider span number) ≡ (has_span kind span && holds kind number)
wider_spanned kind span number =
    (λ i. lower-end (least kind) span.least number i && upper-end (greatest kind) span.greatest number i)
    ∙ and-twisted (int_le (least kind) span.least) (int_le (least kind) number) (int_le span.greatest (greatest kind)) (int_le number (greatest kind))
