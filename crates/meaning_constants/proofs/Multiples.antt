-- Numbers that differ by a multiple of how many a kind has are wrapped to one, and sums, differences and products keep that.
use Rattle.std.proofs.Common.{◌≡◌, ℕ, suc, zero, ◌+◌, ◌-◌, ◌*◌, ◌^◌, ◌<◌, ◌≤◌, ℤ, pos, negsuc, ◌+ℤ◌, ◌-ℤ◌, ◌*ℤ◌, neg_ℤ, refl, sym, ap, ◌∙◌, arith, suc-mul}
use borrow.Author.Differences.{up, down, sum_is_lem, neg_is, product_is}
use lib.IntN.{*ℤ_comm}
use Rattle.std.specs.Int.{int_rem_euclid, int_div_euclid}
use Rattle.std.proofs.lemmas.Int.{ints}
use Rattle.std.proofs.lemmas.Nat.{pow_pos, pow-add}
use Rattle.vocabulary.specs.declared.int_kind.IntKind.{IntKind}
use Rattle.vocabulary.specs.declared.int_kind.IntKind.TheVariants as kinds
use Rattle.meaning_types.specs.Ranges.{width, least, greatest}
use Rattle.meaning_constants.specs.Numbers.{number_count, wrapped}
use Rattle.meaning_constants.proofs.Numbers.{remainder-below, whole, apart, least-below}

-- Products of sums and of products

product-sum : (left right by : ℤ) → (left +ℤ right) *ℤ by ≡ left *ℤ by +ℤ right *ℤ by
product-sum left right by =
    let sum = sum_is_lem left right in
    let above = ap (λ part. part * up by) sum in
    let below = ap (λ part. part * down by) sum in
    omega (arith, ints, above, below)

product-opposite : (number by : ℤ) → neg_ℤ number *ℤ by ≡ neg_ℤ (number *ℤ by)
product-opposite number by =
    let opposite = neg_is number in
    let above = ap (λ part. part * up by) opposite.0 in
    let below = ap (λ part. part * down by) opposite.0 in
    let over = ap (λ part. part * up by) opposite.1 in
    let under = ap (λ part. part * down by) opposite.1 in
    omega (arith, ints, above, below, over, under)

product-grouped : (left right by : ℤ) → (left *ℤ right) *ℤ by ≡ left *ℤ (right *ℤ by)
product-grouped left right by =
    let first = product_is left right in
    let last = product_is right by in
    let above = ap (λ part. part * up by) first.0 in
    let below = ap (λ part. part * down by) first.0 in
    let over = ap (λ part. part * up by) first.1 in
    let under = ap (λ part. part * down by) first.1 in
    let above_last = ap (λ part. up left * part) last.0 in
    let below_last = ap (λ part. down left * part) last.0 in
    let over_last = ap (λ part. up left * part) last.1 in
    let under_last = ap (λ part. down left * part) last.1 in
    omega (arith, ints, above, below, over, under, above_last, below_last, over_last, under_last)

-- Multiples

-- two numbers differ by a multiple of a third
abbrev pub IsFar : ℕ → ℤ → ℤ → Type 0
IsFar count number other = (times : ℤ) × (number ≡ other +ℤ times *ℤ pos count)

-- each from itself, two from each other, and from one between
pub far-same : (count : ℕ) (number : ℤ) → IsFar count number number
far-same count number = (pos 0, omega (arith, ints))

pub far-opposite : (count : ℕ) (number other : ℤ) → IsFar count number other → IsFar count (neg_ℤ number) (neg_ℤ other)
far-opposite count number other (times, is) = (neg_ℤ times, omega (arith, ints, is, product-opposite times (pos count)))

pub far-back : (count : ℕ) (number other : ℤ) → IsFar count number other → IsFar count other number
far-back count number other (times, is) = (neg_ℤ times, omega (arith, ints, is, product-opposite times (pos count)))

pub far-through : (count : ℕ) (number between other : ℤ) → IsFar count number between → IsFar count between other → IsFar count number other
far-through count number between other (times, is) (more, also) = (times +ℤ more, omega (arith, ints, is, also, product-sum times more (pos count)))

-- by a divisor of it too
pub far-less : (more count : ℕ) (number other : ℤ) → IsFar (more * count) number other → IsFar count number other
far-less more count number other (times, is) = (times *ℤ pos more, is ∙ ap (λ far. other +ℤ far) (sym (product-grouped times (pos more) (pos count))))

-- Operators keep that

pub far-sum : (count : ℕ) (left right other second : ℤ) → IsFar count left other → IsFar count right second → IsFar count (left +ℤ right) (other +ℤ second)
far-sum count left right other second (times, is) (more, also) = (times +ℤ more, omega (arith, ints, is, also, product-sum times more (pos count)))

pub far-difference : (count : ℕ) (left right other second : ℤ) → IsFar count left other → IsFar count right second → IsFar count (left -ℤ right) (other -ℤ second)
far-difference count left right other second far also = far-sum count left (neg_ℤ right) other (neg_ℤ second) far (far-opposite count right second also)

far-scaled : (count : ℕ) (number other by : ℤ) → IsFar count number other → IsFar count (number *ℤ by) (other *ℤ by)
far-scaled count number other by (times, is) =
    let each : number *ℤ by ≡ other *ℤ by +ℤ (times *ℤ pos count) *ℤ by = ap (λ of. of *ℤ by) is ∙ product-sum other (times *ℤ pos count) by in
    let far : (times *ℤ pos count) *ℤ by ≡ (times *ℤ by) *ℤ pos count =
    product-grouped times (pos count) by ∙ ap (λ part. times *ℤ part) (*ℤ_comm (pos count) by) ∙ sym (product-grouped times by (pos count)) in
    (times *ℤ by, each ∙ ap (λ part. other *ℤ by +ℤ part) far)

pub far-product : (count : ℕ) (left right other second : ℤ) → IsFar count left other → IsFar count right second → IsFar count (left *ℤ right) (other *ℤ second)
far-product count left right other second far also =
    let turned : IsFar count (other *ℤ right) (other *ℤ second) =
    let (times, is) = far-scaled count right second other also in (times, *ℤ_comm other right ∙ is ∙ ap (λ part. part +ℤ times *ℤ pos count) (*ℤ_comm second other)) in
    far-through count (left *ℤ right) (other *ℤ right) (other *ℤ second) (far-scaled count left other right far) turned

-- Remainders

-- two below the divisor that differ by a multiple of it are one
close : (rest other : ℕ) (times : ℤ) (count : ℕ) → rest < count → other < count → pos rest ≡ pos other +ℤ times *ℤ pos count → rest ≡ other
close rest other (pos zero) count below beside is = omega (arith, ints, is)
close rest other (pos (suc m)) count below beside is = omega (arith, ints, is, suc-mul m count)
close rest other (negsuc m) count below beside is = omega (arith, ints, is, suc-mul m count)

pub far-remainder : (number other : ℤ) (count : ℕ) → 0 < count → IsFar count number other → int_rem_euclid number (pos count) ≡ int_rem_euclid other (pos count)
far-remainder number other count some (times, far) =
    let (rest, is_rest, below) = remainder-below number count some in
    let (beside, is_beside, under) = remainder-below other count some in
    let quotient = int_div_euclid number (pos count) in
    let second = int_div_euclid other (pos count) in
    let all : quotient *ℤ pos count +ℤ pos rest ≡ number = ap (λ left. quotient *ℤ pos count +ℤ left) (sym is_rest) ∙ whole number count some in
    let every : second *ℤ pos count +ℤ pos beside ≡ other = ap (λ left. second *ℤ pos count +ℤ left) (sym is_beside) ∙ whole other count some in
    let sum = product-sum (second +ℤ times) (neg_ℤ quotient) (pos count) in
    let together = product-sum second times (pos count) in
    let opposite = product-opposite quotient (pos count) in
    is_rest ∙ ap pos (close rest beside ((second +ℤ times) -ℤ quotient) count below under (omega (arith, ints, far, all, every, sum, together, opposite)))
    ∙ sym is_beside

-- Kinds

-- a kind has a number for each choice of its bits
pub number_count-is : (kind : IntKind) → number_count kind ≡ pos (2 ^ width kind)
number_count-is kinds.Bool = refl
number_count-is kinds.Char = refl
number_count-is kinds.SChar = refl
number_count-is kinds.UChar = refl
number_count-is kinds.Short = refl
number_count-is kinds.UShort = refl
number_count-is kinds.Int = refl
number_count-is kinds.UInt = refl
number_count-is kinds.Long = refl
number_count-is kinds.ULong = refl
number_count-is kinds.LLong = refl
number_count-is kinds.ULLong = refl

-- two numbers that differ by a multiple of how many it has
abbrev pub IsFarIn : IntKind → ℤ → ℤ → Type 0
IsFarIn kind number other = IsFar (2 ^ width kind) number other

-- are wrapped to one
pub wrapped-far : (kind : IntKind) (number other : ℤ) → IsFarIn kind number other → wrapped kind number ≡ wrapped kind other
wrapped-far kind number other (times, far) =
    let same : (from : ℤ) → int_rem_euclid from (number_count kind) ≡ int_rem_euclid from (pos (2 ^ width kind)) = λ from. ap (int_rem_euclid from) (number_count-is kind) in
    let one = far-remainder (number -ℤ least kind) (other -ℤ least kind) (2 ^ width kind) (pow_pos (width kind)) (times, omega (arith, ints, far)) in
    ap (λ rest. least kind +ℤ rest) (same (number -ℤ least kind) ∙ one ∙ sym (same (other -ℤ least kind)))

-- as a number and the one to which it is wrapped do
pub far-wrapped : (kind : IntKind) (number : ℤ) → IsFarIn kind number (wrapped kind number)
far-wrapped kind number =
    let (times, is) = apart (least kind) (greatest kind) number (least-below kind) in
    (times, is ∙ ap (λ count. wrapped kind number +ℤ times *ℤ count) (number_count-is kind))

-- and of a kind that isn't wider those do that differ so of the other one
pub far-narrow : (narrow wide : IntKind) (number other : ℤ) → width narrow ≤ width wide → IsFarIn wide number other → IsFarIn narrow number other
far-narrow narrow wide number other order (times, is) =
    let more = width wide - width narrow in
    let sum : width wide ≡ more + width narrow = omega (arith, order) in
    let power : 2 ^ width wide ≡ 2 ^ more * 2 ^ width narrow = ap (λ bits. 2 ^ bits) sum ∙ pow-add 2 more (width narrow) in
    far-less (2 ^ more) (2 ^ width narrow) number other (times, is ∙ ap (λ count. other +ℤ times *ℤ pos count) power)
