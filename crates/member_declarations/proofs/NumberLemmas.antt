-- Numbers of widths, by comparing.
use Rattle.std.proofs.Common.{◌≡◌, ℕ, ℤ, pos, negsuc, int_le, nat_eq, nat_lt, Bool, true, ◌&&◌, not, Some, refl, ap, ◌∙◌, arith}
use Rattle.std.specs.Ordering.{int_eq}
use Rattle.std.proofs.lemmas.Bool.Decides.{nat_tests}
use Rattle.std.proofs.lemmas.Int.{ints}
use Rattle.vocabulary.specs.declared.int_kind.IntKind.{IntKind}
use Rattle.meaning_types.specs.Ranges.{width}
use Rattle.meaning_typing.specs.MemberRows.{is_good_number, is_number_one}

eq_told : (number other : ℕ) → int_eq (pos number) (pos other) ≡ nat_eq number other
eq_told number other = grind (arith, ints, nat_tests)

le_told : (number other : ℕ) → int_le (pos number) (pos other) ≡ not (nat_lt other number)
le_told number other = grind (arith, ints, nat_tests)

pub one_told : (number : ℤ) → int_eq number (pos 1) ≡ is_number_one (Some number)
one_told (pos number) = eq_told number 1
one_told (negsuc number) = refl

pub good_told : (is_named : Bool) (kind : IntKind) (number : ℤ)
    → (int_le (pos 0) number && (int_le number (pos (width kind)) && not (is_named && int_eq number (pos 0)))) ≡ is_good_number is_named kind (Some number)
good_told is_named kind (pos number) =
    (λ i. le_told 0 number i && (le_told number (width kind) i && not (is_named && eq_told number 0 i)))
    ∙ ap (λ test. test && (not (nat_lt (width kind) number) && not (is_named && nat_eq number 0))) least
  where
    least : not (nat_lt number 0) ≡ true
    least = grind (arith, nat_tests)
good_told is_named kind (negsuc number) = refl

pub ruleset numbers = (one_told, good_told)
