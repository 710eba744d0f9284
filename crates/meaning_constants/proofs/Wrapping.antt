-- Operators give of numbers that were wrapped what they give of the numbers themselves.
use Rattle.std.proofs.Common.{◌≡◌, ◌≢◌, ◌≤◌, ◌^◌, true, ℤ, pos, negsuc, ◌*ℤ◌, Some, refl, ap, ◌∙◌, arith, unsigned_abs}
use Rattle.std.proofs.lemmas.Int.{ints}
use Rattle.vocabulary.specs.declared.int_kind.IntKind.{IntKind}
use Rattle.vocabulary.specs.declared.int_kind.IntKind.TheVariants as kinds
use Rattle.vocabulary.specs.declared.operator.Operator.TheVariants as operators
use Rattle.meaning_types.specs.Ranges.{width}
use Rattle.meaning_types.specs.Conversions.{promoted, usual}
use Rattle.meaning_constants.specs.Numbers.{wrapped, converted}
use Rattle.meaning_constants.specs.Operations.{is_in_width, if_in_width}
use Rattle.meaning_constants.specs.laws.Wrapping.{WrapsOnce, ShiftWrapsOnce, WrapsOnceAlone, ConversionsCompose, NarrowsOnce, ShiftNarrowsOnce}
use Rattle.meaning_constants.proofs.Multiples.{IsFarIn, far-same, far-back, far-through, far-opposite, far-sum, far-difference, far-product, wrapped-far, far-wrapped, far-narrow}

-- the number to which a number is wrapped differs from it so, too
pub wrapped-near : (kind : IntKind) (number : ℤ) → IsFarIn kind (wrapped kind number) number
wrapped-near kind number = far-back (2 ^ width kind) number (wrapped kind number) (far-wrapped kind number)

-- Wrapped before

pub sums_wrap : WrapsOnce operators.Addition
sums_wrap kind left right = ap Some
    (wrapped-far kind _ _ (far-sum (2 ^ width kind) (wrapped kind left) (wrapped kind right) left right (wrapped-near kind left) (wrapped-near kind right)))

pub differences_wrap : WrapsOnce operators.Subtraction
differences_wrap kind left right = ap Some
    (wrapped-far kind _ _ (far-difference (2 ^ width kind) (wrapped kind left) (wrapped kind right) left right (wrapped-near kind left) (wrapped-near kind right)))

pub products_wrap : WrapsOnce operators.Multiplication
products_wrap kind left right = ap Some
    (wrapped-far kind _ _ (far-product (2 ^ width kind) (wrapped kind left) (wrapped kind right) left right (wrapped-near kind left) (wrapped-near kind right)))

pub shifts_wrap : ShiftWrapsOnce operators.LeftShift
shifts_wrap kind left count = ap (if_in_width kind count)
    (wrapped-far kind _ _ (far-product (2 ^ width kind) (wrapped kind left) (pos (2 ^ unsigned_abs count)) left (pos (2 ^ unsigned_abs count)) (wrapped-near kind left) (far-same (2 ^ width kind) _)))

pub complements_wrap : WrapsOnceAlone operators.Complement
complements_wrap kind number = ap Some
    (wrapped-far kind _ _ (far-difference (2 ^ width kind) (negsuc 0) (wrapped kind number) (negsuc 0) number (far-same (2 ^ width kind) (negsuc 0)) (wrapped-near kind number)))

pub negations_wrap : WrapsOnceAlone operators.Negation
negations_wrap kind number = ap Some (wrapped-far kind _ _ (far-opposite (2 ^ width kind) (wrapped kind number) number (wrapped-near kind number)))

-- Wrapped to less

pub wrapped_narrower : (narrow wide : IntKind) (number : ℤ) → width narrow ≤ width wide → wrapped narrow (wrapped wide number) ≡ wrapped narrow number
wrapped_narrower narrow wide number order = wrapped-far narrow _ _ (far-narrow narrow wide (wrapped wide number) number order (wrapped-near wide number))

-- a kind but _Bool has more than one bit, and converts by wrapping
by_wrapping : (P : (ℤ → ℤ) → Type 0) (kind : IntKind) → kind ≢ kinds.Bool → P (wrapped kind) → P (converted kind)
by_wrapping P kinds.Bool other wraps = absurd (other refl)
by_wrapping P kind other wraps = wraps

not-narrow : (narrow wide : IntKind) → narrow ≢ kinds.Bool → width narrow ≤ width wide → wide ≢ kinds.Bool
not-narrow kinds.Bool wide other order same = absurd (other refl)
not-narrow narrow wide other order same = omega (arith, order, ap width same)

pub conversions_compose : ConversionsCompose
conversions_compose narrow wide number other order =
    by_wrapping (λ convert. convert (converted wide number) ≡ convert number) narrow other
    (by_wrapping (λ convert. wrapped narrow (convert number) ≡ wrapped narrow number) wide (not-narrow narrow wide other order) (wrapped_narrower narrow wide number order))

-- a number that is wrapped to one of the kinds differs so from the one in the other
pub wrapped-between : (narrow wide : IntKind) (number : ℤ) → width narrow ≤ width wide → IsFarIn narrow (wrapped wide number) (wrapped narrow number)
wrapped-between narrow wide number order =
    far-through (2 ^ width narrow) (wrapped wide number) number (wrapped narrow number) (far-narrow narrow wide (wrapped wide number) number order (wrapped-near wide number)) (far-wrapped narrow number)

pub sums_narrow : NarrowsOnce operators.Addition
sums_narrow kind other narrow left right order = ap Some
    (wrapped_narrower narrow (usual kind other) _ order
    ∙ wrapped-far narrow _ _ (far-sum (2 ^ width narrow) _ _ _ _ (wrapped-between narrow (usual kind other) left order) (wrapped-between narrow (usual kind other) right order)))

pub differences_narrow : NarrowsOnce operators.Subtraction
differences_narrow kind other narrow left right order = ap Some
    (wrapped_narrower narrow (usual kind other) _ order
    ∙ wrapped-far narrow _ _ (far-difference (2 ^ width narrow) _ _ _ _ (wrapped-between narrow (usual kind other) left order) (wrapped-between narrow (usual kind other) right order)))

pub products_narrow : NarrowsOnce operators.Multiplication
products_narrow kind other narrow left right order = ap Some
    (wrapped_narrower narrow (usual kind other) _ order
    ∙ wrapped-far narrow _ _ (far-product (2 ^ width narrow) _ _ _ _ (wrapped-between narrow (usual kind other) left order) (wrapped-between narrow (usual kind other) right order)))

-- a count that is in a width is in a greater one
in-wider : (narrow wide : IntKind) (count : ℤ) → width narrow ≤ width wide → is_in_width narrow count ≡ true → is_in_width wide count ≡ true
in-wider narrow wide (pos n) order within = grind (arith, ints, order, within)
in-wider narrow wide (negsuc n) order within = grind (arith, ints, within)

pub shifts_narrow : ShiftNarrowsOnce operators.LeftShift
shifts_narrow kind other narrow left count order within =
    let wide = promoted kind in
    let power = pos (2 ^ unsigned_abs count) in
    rw (within, in-wider narrow wide count order within)
    (ap Some
    (wrapped_narrower narrow wide (left *ℤ power) order
    ∙ wrapped-far narrow (left *ℤ power) (wrapped narrow left *ℤ power) (far-product (2 ^ width narrow) left power (wrapped narrow left) power (far-wrapped narrow left) (far-same (2 ^ width narrow) power))))
