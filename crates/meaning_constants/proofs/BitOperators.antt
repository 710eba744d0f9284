-- The bits of numbers that were wrapped are those of the numbers themselves, and tell a number of the kind.
use Rattle.std.proofs.Common.{◌≡◌, ◌⊎◌, inl, inr, ℕ, suc, ◌+◌, ◌-◌, ◌*◌, ◌^◌, ◌<◌, ◌≤◌, ◌/◌, ◌%◌, ℤ, pos, negsuc, ◌+ℤ◌, ◌*ℤ◌, ◌≤ℤ◌, Some, refl, sym, ap, ◌∙◌, arith, unsigned_abs, to_z, of_z, bit_and, bit_or, bit_xor, mod-lt, suc-mul, subst}
use Rattle.std.specs.Int.{w128}
use Rattle.std.specs.Int.Signed.{le_z_yes}
use Rattle.std.proofs.Math.Facts.{to_z-neg}
use Rattle.std.proofs.lemmas.Int.{ints, by_lt_z, to_z_pos}
use Rattle.std.proofs.lemmas.Nat.{pow_pos, pow-add, pow_below, shr_split, shr_high, and_le_l, or_lt, xor_lt, and_mod, or_mod, xor_mod, and_shr, or_shr, xor_shr}
use Rattle.vocabulary.specs.declared.int_kind.IntKind.{IntKind}
use Rattle.vocabulary.specs.declared.int_kind.IntKind.TheVariants as kinds
use Rattle.vocabulary.specs.declared.operator.Operator.TheVariants as operators
use Rattle.meaning_types.specs.Ranges.{width, least, greatest}
use Rattle.meaning_types.specs.Conversions.{usual}
use Rattle.meaning_constants.specs.Numbers.{IsInRange, wrapped}
use Rattle.meaning_constants.specs.laws.Wrapping.{HasBits, BitsWrapOnce, NarrowsOnce}
use Rattle.meaning_constants.proofs.Numbers.{wrapped_is_in_range, wrapped_is_kept}
use Rattle.meaning_constants.proofs.Multiples.{IsFar, far-back, far-through, far-less, far-remainder, wrapped-far}
use Rattle.meaning_constants.proofs.Wrapping.{wrapped-near, wrapped-between}

-- 128 bits

-- how many choices of them there are
abbrev all_bits : ℕ
all_bits = 340282366920938463463374607431768211456

-- the bits of a number differ from it by a multiple of these
bits-far : (number : ℤ) → HasBits number → IsFar all_bits (pos (of_z w128 number)) number
bits-far (pos m) fits = (pos 0, omega (arith, ints))
bits-far (negsuc m) fits = let small : m < 170141183460469231731687303715884105728 = fits.sfits in (pos 1, omega (arith, ints, small))

bits-below : (number : ℤ) → HasBits number → of_z w128 number < all_bits
bits-below (pos m) fits = let small : m < 170141183460469231731687303715884105728 = fits.sfits in omega (arith, small)
bits-below (negsuc m) fits = omega arith

-- and so does the number that bits tell
number-far : (rest : ℕ) → rest < all_bits → IsFar all_bits (pos rest) (to_z w128 rest)
number-far rest below =
    by_lt_z (pos rest) (pos 170141183460469231731687303715884105728) (λ low. (pos 0, omega (arith, ints, low)))
    (λ high.
    let least : 170141183460469231731687303715884105728 ≤ rest = omega (arith, ints, high) in
    let complement : ℕ = 340282366920938463463374607431768211455 - rest in
    let same : rest ≡ 340282366920938463463374607431768211456 - suc complement = omega (arith, below) in
    let is : to_z w128 rest ≡ negsuc complement = ap (to_z w128) same ∙ to_z-neg w128 complement (omega (arith, least, below)) in
    (pos 1, omega (arith, ints, is, least, below)))

-- fewer bits are a divisor
fewer : (k : ℕ) (number other : ℤ) → k ≤ 128 → IsFar all_bits number other → IsFar (2 ^ k) number other
fewer k number other order (times, is) =
    let sum : 128 ≡ (128 - k) + k = omega (arith, order) in
    let power : all_bits ≡ 2 ^ (128 - k) * 2 ^ k = ap (λ bits. 2 ^ bits) sum ∙ pow-add 2 (128 - k) k in
    far-less (2 ^ (128 - k)) (2 ^ k) number other (times, is ∙ ap (λ count. other +ℤ times *ℤ pos count) power)

width-few : (kind : IntKind) → width kind ≤ 128
width-few kinds.Bool = omega arith
width-few kinds.Char = omega arith
width-few kinds.SChar = omega arith
width-few kinds.UChar = omega arith
width-few kinds.Short = omega arith
width-few kinds.UShort = omega arith
width-few kinds.Int = omega arith
width-few kinds.UInt = omega arith
width-few kinds.Long = omega arith
width-few kinds.ULong = omega arith
width-few kinds.LLong = omega arith
width-few kinds.ULLong = omega arith

-- An operator on bits goes bit by bit.

-- what it gives of two numbers
abbrev on_bits : (ℕ → ℕ → ℕ) → ℤ → ℤ → ℤ
on_bits bit left right = to_z w128 (bit (of_z w128 left) (of_z w128 right))

-- the last bits of the result are those of the last bits, the first those of the first, and no bits come in before them
record IsBitwise (bit : ℕ → ℕ → ℕ) : Type 0 where
  last : (left right k : ℕ) → bit left right % 2 ^ k ≡ bit (left % 2 ^ k) (right % 2 ^ k)
  first : (left right k : ℕ) → bit left right / 2 ^ k ≡ bit (left / 2 ^ k) (right / 2 ^ k)
  within : (k left right : ℕ) → left < 2 ^ k → right < 2 ^ k → bit left right < 2 ^ k

and-bitwise : IsBitwise bit_and
and-bitwise = record { last = and_mod; first = and_shr; within = λ k left right small few. omega (arith, small, and_le_l left right) }

or-bitwise : IsBitwise bit_or
or-bitwise = record { last = or_mod; first = or_shr; within = or_lt }

xor-bitwise : IsBitwise bit_xor
xor-bitwise = record { last = xor_mod; first = xor_shr; within = xor_lt }

-- The last bits

residue : (k left right : ℕ) → IsFar (2 ^ k) (pos left) (pos right) → left % 2 ^ k ≡ right % 2 ^ k
residue k left right far = ap unsigned_abs (far-remainder (pos left) (pos right) (2 ^ k) (pow_pos k) far)

residue-far : (k number : ℕ) → IsFar (2 ^ k) (pos number) (pos (number % 2 ^ k))
residue-far k number = (pos (number / 2 ^ k), omega (arith, ints, shr_split number k))

same-residue-far : (k left right : ℕ) → left % 2 ^ k ≡ right % 2 ^ k → IsFar (2 ^ k) (pos left) (pos right)
same-residue-far k left right same =
    far-through (2 ^ k) (pos left) (pos (right % 2 ^ k)) (pos right)
    (let (times, is) = residue-far k left in (times, is ∙ ap (λ rest. pos rest +ℤ times *ℤ pos (2 ^ k)) same))
    (far-back (2 ^ k) (pos right) (pos (right % 2 ^ k)) (residue-far k right))

-- numbers that differ by a multiple of 2^k have the same last bits
last-bits : (k : ℕ) → k ≤ 128 → (number other : ℤ) → HasBits number → HasBits other → IsFar (2 ^ k) number other → of_z w128 number % 2 ^ k ≡ of_z w128 other % 2 ^ k
last-bits k order number other fits fit far =
    residue k (of_z w128 number) (of_z w128 other)
    (far-through (2 ^ k) (pos (of_z w128 number)) number (pos (of_z w128 other)) (fewer k _ number order (bits-far number fits))
    (far-through (2 ^ k) number other (pos (of_z w128 other)) far (far-back (2 ^ k) (pos (of_z w128 other)) other (fewer k _ other order (bits-far other fit)))))

result-below : (bit : ℕ → ℕ → ℕ) → IsBitwise bit → (left right : ℤ) → HasBits left → HasBits right → bit (of_z w128 left) (of_z w128 right) < all_bits
result-below bit law left right fits fit = law.within 128 _ _ (bits-below left fits) (bits-below right fit)

far-bits : (bit : ℕ → ℕ → ℕ) → IsBitwise bit → (k : ℕ) → k ≤ 128 → (left right other second : ℤ) → HasBits left → HasBits right → HasBits other → HasBits second
    → IsFar (2 ^ k) left other → IsFar (2 ^ k) right second → IsFar (2 ^ k) (on_bits bit left right) (on_bits bit other second)
far-bits bit law k order left right other second fits fit has have far also =
    let one = of_z w128 left in let two = of_z w128 right in let three = of_z w128 other in let four = of_z w128 second in
    let same : bit one two % 2 ^ k ≡ bit three four % 2 ^ k =
    law.last one two k ∙ ap (λ part. bit part (two % 2 ^ k)) (last-bits k order left other fits has far)
    ∙ ap (λ part. bit (three % 2 ^ k) part) (last-bits k order right second fit have also) ∙ sym (law.last three four k) in
    far-through (2 ^ k) (on_bits bit left right) (pos (bit one two)) (on_bits bit other second) (far-back (2 ^ k) (pos (bit one two)) (on_bits bit left right) (fewer k _ _ order (number-far (bit one two) (result-below bit law left right fits fit))))
    (far-through (2 ^ k) (pos (bit one two)) (pos (bit three four)) (on_bits bit other second) (same-residue-far k (bit one two) (bit three four) same)
    (fewer k _ _ order (number-far (bit three four) (result-below bit law other second has have))))

-- The first bits

-- the bits before the last k ones: all 0, or all 1
abbrev ones : ℕ → ℕ
ones k = 2 ^ (128 - k) - 1

abbrev IsEnd : (all first : ℕ) → Type 0
IsEnd all first = (first ≡ 0) ⊎ (first ≡ all)

-- the operator gives such bits of such bits
record IsClosed (bit : ℕ → ℕ → ℕ) (all : ℕ) : Type 0 where
  none : IsEnd all (bit 0 0)
  right : IsEnd all (bit 0 all)
  left : IsEnd all (bit all 0)
  both : IsEnd all (bit all all)

ends : (bit : ℕ → ℕ → ℕ) (all : ℕ) → IsClosed bit all → (left right : ℕ) → IsEnd all left → IsEnd all right → IsEnd all (bit left right)
ends bit all closed left right (inl is) (inl also) = rw (is, also) closed.none
ends bit all closed left right (inl is) (inr also) = rw (is, also) closed.right
ends bit all closed left right (inr is) (inl also) = rw (is, also) closed.left
ends bit all closed left right (inr is) (inr also) = rw (is, also) closed.both

-- a number with a sign and k bits
abbrev IsSigned : ℕ → ℤ → Type 0
IsSigned k number = (negsuc (2 ^ k - 1) ≤ℤ number) × (number ≤ℤ pos (2 ^ k - 1))

-- all 128 bits are these and the last ones
all-split : (k : ℕ) → k < 127 → all_bits ≡ ones k * 2 ^ k + 2 ^ k
all-split k order =
    let sum : 128 ≡ (128 - k) + k = omega (arith, order) in
    let one : 2 ^ (128 - k) ≡ suc (ones k) = omega (arith, pow_pos (128 - k)) in
    ap (λ bits. 2 ^ bits) sum ∙ pow-add 2 (128 - k) k ∙ ap (λ part. part * 2 ^ k) one ∙ omega (arith, suc-mul (ones k) (2 ^ k))

signed-in : (k : ℕ) → k < 127 → (number : ℤ) → IsSigned k number → IsEnd (ones k) (of_z w128 number / 2 ^ k)
signed-in k order (pos m) within =
    let small : m < 2 ^ k = omega (arith, ints, within.1, pow_pos k) in
    let is : m ≡ 0 * 2 ^ k + m = omega arith in
    inl (ap (λ part. part / 2 ^ k) is ∙ shr_high 0 k m small)
signed-in k order (negsuc m) within =
    let small : m < 2 ^ k = omega (arith, ints, within.0, pow_pos k) in
    let rest : ℕ = 2 ^ k - suc m in
    let is : of_z w128 (negsuc m) ≡ ones k * 2 ^ k + rest = omega (arith, all-split k order, small) in
    inr (ap (λ part. part / 2 ^ k) is ∙ shr_high (ones k) k rest (omega (arith, small)))

signed-out : (k : ℕ) → k < 127 → (rest : ℕ) → rest < all_bits → IsEnd (ones k) (rest / 2 ^ k) → IsSigned k (to_z w128 rest)
signed-out k order rest below (inl is) =
    let none : rest / 2 ^ k * 2 ^ k ≡ 0 * 2 ^ k = ap (λ part. part * 2 ^ k) is in
    let small : rest < 2 ^ k = omega (arith, none, shr_split rest k, mod-lt rest (pow_pos k)) in
    rw (to_z_pos w128 rest (omega (arith, small, pow_below k 127 order))) (omega (arith, ints, small), omega (arith, ints, small))
signed-out k order rest below (inr is) =
    let all : rest / 2 ^ k * 2 ^ k ≡ ones k * 2 ^ k = ap (λ part. part * 2 ^ k) is in
    let complement : ℕ = 340282366920938463463374607431768211455 - rest in
    let small : complement < 2 ^ k = omega (arith, all, shr_split rest k, all-split k order, below) in
    let same : rest ≡ 340282366920938463463374607431768211456 - suc complement = omega (arith, below) in
    let is : to_z w128 rest ≡ negsuc complement = ap (to_z w128) same ∙ to_z-neg w128 complement (omega (arith, small, below, pow_below k 127 order)) in
    rw is (omega (arith, ints, small), omega (arith, ints, small))

-- a number of a kind has bits
has-room : (number : ℤ) → negsuc 170141183460469231731687303715884105727 ≤ℤ number → number ≤ℤ pos 170141183460469231731687303715884105727 → HasBits number
has-room (pos m) low high = record { sfits = omega (arith, ints, high) }
has-room (negsuc m) low high = record { sfits = omega (arith, ints, low) }

kind-room : (kind : IntKind) → (negsuc 170141183460469231731687303715884105727 ≤ℤ least kind) × (greatest kind ≤ℤ pos 170141183460469231731687303715884105727)
kind-room kinds.Bool = (le_z_yes tt, le_z_yes tt)
kind-room kind = (le_z_yes tt, le_z_yes tt)

has-bits : (kind : IntKind) (number : ℤ) → IsInRange kind number → HasBits number
has-bits kind number within =
    let room = kind-room kind in has-room number (omega (arith, ints, room.0, within.0)) (omega (arith, ints, room.1, within.1))

signed-kept : (bit : ℕ → ℕ → ℕ) → IsBitwise bit → (k : ℕ) → k < 127 → IsClosed bit (ones k) → (left right : ℤ) → HasBits left → HasBits right
    → IsSigned k left → IsSigned k right → IsSigned k (on_bits bit left right)
signed-kept bit law k order closed left right fits fit within inside =
    let one = of_z w128 left in let two = of_z w128 right in
    let first = law.first one two k in
    let is_end = ends bit (ones k) closed (one / 2 ^ k) (two / 2 ^ k) (signed-in k order left within) (signed-in k order right inside) in
    signed-out k order (bit one two) (result-below bit law left right fits fit) (subst (IsEnd (ones k)) (sym first) is_end)

-- and one without a sign
abbrev IsUnsigned : ℕ → ℤ → Type 0
IsUnsigned k number = (pos 0 ≤ℤ number) × (number ≤ℤ pos (2 ^ k - 1))

unsigned-kept : (bit : ℕ → ℕ → ℕ) → IsBitwise bit → (k : ℕ) → k < 127 → (left right : ℤ) → IsUnsigned k left → IsUnsigned k right → IsUnsigned k (on_bits bit left right)
unsigned-kept bit law k order (pos m) (pos n) within inside =
    let some = pow_pos k in
    let small : bit m n < 2 ^ k = law.within k m n (omega (arith, ints, within.1, some)) (omega (arith, ints, inside.1, some)) in
    rw (to_z_pos w128 (bit m n) (omega (arith, small, pow_below k 127 order))) (omega (arith, ints), omega (arith, ints, small))
unsigned-kept bit law k order (negsuc m) right within inside = absurd within.0.le
unsigned-kept bit law k order (pos m) (negsuc n) within inside = absurd inside.0.le

-- Kinds

abbrev IsClosedIn : (ℕ → ℕ → ℕ) → IntKind → Type 0
IsClosedIn bit kind = IsClosed bit (2 ^ (129 - width kind) - 1)

and-closed : (kind : IntKind) → IsClosedIn bit_and kind
and-closed kinds.Bool = record { none = inl refl; right = inl refl; left = inl refl; both = inr refl }
and-closed kind = record { none = inl refl; right = inl refl; left = inl refl; both = inr refl }

or-closed : (kind : IntKind) → IsClosedIn bit_or kind
or-closed kinds.Bool = record { none = inl refl; right = inr refl; left = inr refl; both = inr refl }
or-closed kind = record { none = inl refl; right = inr refl; left = inr refl; both = inr refl }

xor-closed : (kind : IntKind) → IsClosedIn bit_xor kind
xor-closed kinds.Bool = record { none = inl refl; right = inr refl; left = inr refl; both = inl refl }
xor-closed kind = record { none = inl refl; right = inr refl; left = inr refl; both = inl refl }

-- the bits of two numbers of a kind are a number of it
bits-kept : (bit : ℕ → ℕ → ℕ) → IsBitwise bit → ((kind : IntKind) → IsClosedIn bit kind) → (kind : IntKind) (left right : ℤ) → HasBits left → HasBits right
    → IsInRange kind left → IsInRange kind right → IsInRange kind (on_bits bit left right)
bits-kept bit law closed kinds.Bool left right fits fit = unsigned-kept bit law 1 (omega arith) left right
bits-kept bit law closed kinds.UChar left right fits fit = unsigned-kept bit law 8 (omega arith) left right
bits-kept bit law closed kinds.UShort left right fits fit = unsigned-kept bit law 16 (omega arith) left right
bits-kept bit law closed kinds.UInt left right fits fit = unsigned-kept bit law 32 (omega arith) left right
bits-kept bit law closed kinds.ULong left right fits fit = unsigned-kept bit law 64 (omega arith) left right
bits-kept bit law closed kinds.ULLong left right fits fit = unsigned-kept bit law 64 (omega arith) left right
bits-kept bit law closed kinds.Char left right fits fit = signed-kept bit law 7 (omega arith) (closed kinds.Char) left right fits fit
bits-kept bit law closed kinds.SChar left right fits fit = signed-kept bit law 7 (omega arith) (closed kinds.SChar) left right fits fit
bits-kept bit law closed kinds.Short left right fits fit = signed-kept bit law 15 (omega arith) (closed kinds.Short) left right fits fit
bits-kept bit law closed kinds.Int left right fits fit = signed-kept bit law 31 (omega arith) (closed kinds.Int) left right fits fit
bits-kept bit law closed kinds.Long left right fits fit = signed-kept bit law 63 (omega arith) (closed kinds.Long) left right fits fit
bits-kept bit law closed kinds.LLong left right fits fit = signed-kept bit law 63 (omega arith) (closed kinds.LLong) left right fits fit

-- of wrapped ones, too
wrapped-kept : (bit : ℕ → ℕ → ℕ) → IsBitwise bit → ((kind : IntKind) → IsClosedIn bit kind) → (kind : IntKind) (left right : ℤ)
    → wrapped kind (on_bits bit (wrapped kind left) (wrapped kind right)) ≡ on_bits bit (wrapped kind left) (wrapped kind right)
wrapped-kept bit law closed kind left right =
    let within = wrapped_is_in_range kind left in
    let inside = wrapped_is_in_range kind right in
    wrapped_is_kept kind _ (bits-kept bit law closed kind _ _ (has-bits kind _ within) (has-bits kind _ inside) within inside)

wrapped-has : (kind : IntKind) (number : ℤ) → HasBits (wrapped kind number)
wrapped-has kind number = has-bits kind (wrapped kind number) (wrapped_is_in_range kind number)

-- Laws

bits-wrap : (bit : ℕ → ℕ → ℕ) → IsBitwise bit → ((kind : IntKind) → IsClosedIn bit kind) → (kind : IntKind) (left right : ℤ) → HasBits left → HasBits right
    → on_bits bit (wrapped kind left) (wrapped kind right) ≡ wrapped kind (on_bits bit left right)
bits-wrap bit law closed kind left right fits fit =
    sym (wrapped-kept bit law closed kind left right)
    ∙ wrapped-far kind (on_bits bit (wrapped kind left) (wrapped kind right)) (on_bits bit left right)
    (far-bits bit law (width kind) (width-few kind) (wrapped kind left) (wrapped kind right) left right (wrapped-has kind left) (wrapped-has kind right) fits fit
    (wrapped-near kind left) (wrapped-near kind right))

pub ands_wrap : BitsWrapOnce operators.BitwiseAnd
ands_wrap kind left right fits fit = ap Some (bits-wrap bit_and and-bitwise and-closed kind left right fits fit)

pub ors_wrap : BitsWrapOnce operators.BitwiseOr
ors_wrap kind left right fits fit = ap Some (bits-wrap bit_or or-bitwise or-closed kind left right fits fit)

pub exclusive_ors_wrap : BitsWrapOnce operators.BitwiseExclusiveOr
exclusive_ors_wrap kind left right fits fit = ap Some (bits-wrap bit_xor xor-bitwise xor-closed kind left right fits fit)

bits-narrow : (bit : ℕ → ℕ → ℕ) → IsBitwise bit → ((kind : IntKind) → IsClosedIn bit kind) → (narrow wide : IntKind) (left right : ℤ) → width narrow ≤ width wide
    → wrapped narrow (on_bits bit (wrapped wide left) (wrapped wide right)) ≡ on_bits bit (wrapped narrow left) (wrapped narrow right)
bits-narrow bit law closed narrow wide left right order =
    wrapped-far narrow (on_bits bit (wrapped wide left) (wrapped wide right)) (on_bits bit (wrapped narrow left) (wrapped narrow right))
    (far-bits bit law (width narrow) (width-few narrow) (wrapped wide left) (wrapped wide right) (wrapped narrow left) (wrapped narrow right)
    (wrapped-has wide left) (wrapped-has wide right) (wrapped-has narrow left) (wrapped-has narrow right)
    (wrapped-between narrow wide left order) (wrapped-between narrow wide right order))
    ∙ wrapped-kept bit law closed narrow left right

pub ands_narrow : NarrowsOnce operators.BitwiseAnd
ands_narrow kind other narrow left right order = ap Some (bits-narrow bit_and and-bitwise and-closed narrow (usual kind other) left right order)

pub ors_narrow : NarrowsOnce operators.BitwiseOr
ors_narrow kind other narrow left right order = ap Some (bits-narrow bit_or or-bitwise or-closed narrow (usual kind other) left right order)

pub exclusive_ors_narrow : NarrowsOnce operators.BitwiseExclusiveOr
exclusive_ors_narrow kind other narrow left right order = ap Some (bits-narrow bit_xor xor-bitwise xor-closed narrow (usual kind other) left right order)
