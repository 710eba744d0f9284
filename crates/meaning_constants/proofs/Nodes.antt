-- The number of each node's constant is one of its promoted kind.
use Rattle.std.proofs.Common.{Bool, true, false, List, [], ◌∷◌, Option, Some, None, ℤ, pos, if◌then◌else◌, arith}
use Rattle.std.proofs.lemmas.Int.{ints}
use Rattle.std.proofs.lemmas.Option.{none-some}
use Rattle.std.specs.Ordering.{int_eq}
use Rattle.vocabulary.specs.declared.int_kind.IntKind.{IntKind}
use Rattle.vocabulary.specs.declared.int_kind.IntKind.TheVariants as kinds
use Rattle.vocabulary.specs.declared.operator.Operator.TheVariants as operators
use Rattle.meaning_types.specs.Conversions.{promoted}
use Rattle.meaning_constants.specs.Numbers.{IsInRange}
use Rattle.meaning_constants.specs.Constants.{Constant, Part, own_constant, unary_constant, binary_constant, and_constant, or_constant, conditional_constant, is_fouled_by}
use Rattle.meaning_constants.specs.Sizes.{Sizes}
use Rattle.meaning_constants.specs.Nodes.{Fold, NoFold, LiteralFold, NameFold, OwnFold, UnaryFold, BinaryFold, AndFold, OrFold, ConditionalFold, CastFold, SizeFold, AlignFold, OffsetFold, NodeFacts, with_part, of_one, of_two, of_arms, folded, fold_of}
use Rattle.meaning_constants.specs.laws.Constants.{IsOfItsKindIfAny}
use Rattle.meaning_constants.specs.laws.Nodes.{FitsItsKind, PartFits, PartsFit, NodeConstantsFit}
use Rattle.meaning_constants.proofs.Ranges.{constants_are_in_range, of_kind, of_number}

-- a promoted kind has all numbers of the kind
promoted-has : (kind : IntKind) (number : ℤ) → IsInRange kind number → IsInRange (promoted kind) number
promoted-has kinds.Bool number within = (omega (arith, ints, within.0), omega (arith, ints, within.1))
promoted-has kinds.Char number within = (omega (arith, ints, within.0), omega (arith, ints, within.1))
promoted-has kinds.SChar number within = (omega (arith, ints, within.0), omega (arith, ints, within.1))
promoted-has kinds.UChar number within = (omega (arith, ints, within.0), omega (arith, ints, within.1))
promoted-has kinds.Short number within = (omega (arith, ints, within.0), omega (arith, ints, within.1))
promoted-has kinds.UShort number within = (omega (arith, ints, within.0), omega (arith, ints, within.1))
promoted-has kind number within = within

none : FitsItsKind None
none constant is = absurd (none-some constant is)

-- a constant of its kind, or of the promoted one where it is fouled, fits
fits : (fouled : Bool) (found : Option Constant) → IsOfItsKindIfAny fouled found → FitsItsKind found
fits true found law = law
fits false found law = λ constant is. promoted-has constant.kind constant.number (law constant is)

-- what comes of parts fits where it fits whatever the parts are

of_part : (known : Option Part) (next : Part → Option Constant) → ((part : Part) → FitsItsKind (next part)) → FitsItsKind (with_part known next)
of_part None next each = none
of_part (Some part) next each = each part

one : (next : Part → Option Constant) (parts : List (Option Part)) → ((part : Part) → FitsItsKind (next part)) → FitsItsKind (of_one next parts)
one next [] each = none
one next (only ∷ []) each = of_part only next each
one next (first ∷ second ∷ parts) each = none

two : (next : Part → Part → Option Constant) (parts : List (Option Part)) → ((first second : Part) → FitsItsKind (next first second)) → FitsItsKind (of_two next parts)
two next [] each = none
two next (only ∷ []) each = none
two next (first ∷ second ∷ []) each = of_part first _ (λ left. of_part second _ (λ right. each left right))
two next (first ∷ second ∷ third ∷ parts) each = none

own : (parts : List (Option Part)) → PartsFit parts → FitsItsKind (of_one own_constant parts)
own [] fit = none
own (only ∷ []) fit = fit.0
own (first ∷ second ∷ parts) fit = none

conditional : (condition second third : Part) → FitsItsKind (conditional_constant condition second third)
conditional condition second third =
    let fouled = is_fouled_by operators.Conditional second third in
    fits fouled _
    (of_kind fouled condition.of _
    (λ kind. of_number fouled condition.number _
    (λ number. constants_are_in_range.arms (if int_eq number (pos 0) then third else second) second third)))

arms : (parts : List (Option Part)) → FitsItsKind (of_arms parts)
arms [] = none
arms (only ∷ []) = none
arms (first ∷ third ∷ []) = of_part first _ (λ condition. of_part third _ (λ right. conditional condition condition right))
arms (first ∷ second ∷ third ∷ []) = of_part first _ (λ condition. of_part second _ (λ left. of_part third _ (λ right. conditional condition left right)))
arms (first ∷ second ∷ third ∷ fourth ∷ parts) = none

-- each way to a constant

by_fold : (sizes : Sizes) (fold : Fold) (node : NodeFacts) → PartsFit node.parts → PartFits node.enumerator → FitsItsKind (folded sizes fold node)
by_fold sizes NoFold node fit named = none
by_fold sizes (LiteralFold kind) node fit named = fits false _ (constants_are_in_range.literals kind node.number)
by_fold sizes NameFold node fit named = named
by_fold sizes OwnFold node fit named = own node.parts fit
by_fold sizes (UnaryFold operator) node fit named =
    one (unary_constant operator) node.parts (λ part. fits (is_fouled_by operator part part) _ (constants_are_in_range.unary operator part))
by_fold sizes (BinaryFold operator) node fit named =
    two (binary_constant operator) node.parts (λ left right. fits (is_fouled_by operator left right) _ (constants_are_in_range.binary operator left right))
by_fold sizes AndFold node fit named = two and_constant node.parts (λ left right. fits false _ (constants_are_in_range.both left right))
by_fold sizes OrFold node fit named = two or_constant node.parts (λ left right. fits false _ (constants_are_in_range.either left right))
by_fold sizes ConditionalFold node fit named = arms node.parts
by_fold sizes CastFold node fit named = two _ node.parts (λ name part. fits false _ (constants_are_in_range.casts name.of part))
by_fold sizes SizeFold node fit named = one _ node.parts (λ part. fits false _ (constants_are_in_range.sizes (sizes.size part.of)))
by_fold sizes AlignFold node fit named = one _ node.parts (λ part. fits false _ (constants_are_in_range.sizes (sizes.align part.of)))
by_fold sizes OffsetFold node fit named = fits false _ (constants_are_in_range.sizes node.offset)

pub node_constants_fit : NodeConstantsFit
node_constants_fit sizes node = by_fold sizes (fold_of node.kind) node
