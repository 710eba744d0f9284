-- The least constraint of two lists, and of a row that knows nothing where one is broken.
use Rattle.std.proofs.Common.{◌≡◌, ℕ, Bool, true, false, ◌||◌, ◌&&◌, nat_lt, nat_eq, List, [], ◌∷◌, ◌++◌, Option, Some, None, if◌then◌else◌, refl, ap, ◌∙◌, arith}
use Rattle.std.proofs.lemmas.Bool.Decides.{nat_tests}
use Rattle.vocabulary.specs.Errors.{error_number}
use Rattle.meaning_operands.specs.Failures.{Broken}
use Rattle.meaning_typing.specs.Facts.{Fact, Unknown}
use Rattle.meaning_typing.specs.Rows.{unless_broken}
use Rattle.meaning_rules.specs.Rules.{goes_before, least_broken, lesser}
use Rattle.expression_rows.specs.Parts.{unless}

-- by token, then by number
abbrev before : (token number other another : ℕ) → Bool
before token number other another = nat_lt token other || (nat_eq token other && nat_lt number another)

before_through : (a b c d e f : ℕ) → before a b c d ≡ true → before c d e f ≡ true → before a b e f ≡ true
before_through a b c d e f first second = grind (arith, nat_tests)

not_before_through : (a b c d e f : ℕ) → before a b c d ≡ false → before c d e f ≡ false → before a b e f ≡ false
not_before_through a b c d e f first second = grind (arith, nat_tests)

goes_through : (x y z : Broken) → goes_before z y ≡ true → goes_before y x ≡ true → goes_before z x ≡ true
goes_through x y z =
    before_through z.token (error_number z.constraint) y.token (error_number y.constraint) x.token (error_number x.constraint)

stays_through : (x y z : Broken) → goes_before z y ≡ false → goes_before y x ≡ false → goes_before z x ≡ false
stays_through x y z =
    not_before_through z.token (error_number z.constraint) y.token (error_number y.constraint) x.token (error_number x.constraint)

three : (x y z : Broken) → lesser (Some x) (lesser (Some y) (Some z)) ≡ lesser (lesser (Some x) (Some y)) (Some z)
three x y z = by (goes_before z y) (goes_before y x) refl refl
  where
    by : (first second : Bool) → goes_before z y ≡ first → goes_before y x ≡ second
        → lesser (Some x) (if first then Some z else Some y) ≡ lesser (if second then Some y else Some x) (Some z)
    by true true e f = rw (goes_through x y z e f, e) refl
    by true false e f = refl
    by false true e f = rw (f, e) refl
    by false false e f = rw (stays_through x y z e f, f) refl

pub lesser_on : (first second third : Option Broken) → lesser first (lesser second third) ≡ lesser (lesser first second) third
lesser_on None second third = refl
lesser_on (Some x) None third = refl
lesser_on (Some x) (Some y) None = by (goes_before y x)
  where
    by : (test : Bool) → (if test then Some y else Some x) ≡ lesser (if test then Some y else Some x) None
    by true = refl
    by false = refl
lesser_on (Some x) (Some y) (Some z) = three x y z

pub least_both : (first second : List Broken) → least_broken (first ++ second) ≡ lesser (least_broken first) (least_broken second)
least_both [] second = refl
least_both (broken ∷ first) second =
    ap (lesser (Some broken)) (least_both first second) ∙ lesser_on (Some broken) (least_broken first) (least_broken second)

-- something is broken where there is a least
unless_lesser : (broken : Broken) (least : Option Broken) (fact : Fact) → unless (lesser (Some broken) least) fact ≡ Unknown
unless_lesser broken None fact = refl
unless_lesser broken (Some other) fact = by (goes_before other broken)
  where
    by : (test : Bool) → unless (if test then Some other else Some broken) fact ≡ Unknown
    by true = refl
    by false = refl

pub unless_told : (broken : List Broken) (fact : Fact) → unless (least_broken broken) fact ≡ unless_broken broken fact
unless_told [] fact = refl
unless_told (broken ∷ others) fact = unless_lesser broken (least_broken others) fact
