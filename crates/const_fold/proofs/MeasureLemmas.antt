-- A node asks for one number of bytes.
use Rattle.std.proofs.Common.{◌≡◌, ℕ, List, [], ◌∷◌, Option, Some, None, refl}
use Rattle.meaning_types.specs.Types.{TypeTree}
use Rattle.meaning_constants.specs.Constants.{Part, size_constant}
use Rattle.meaning_constants.specs.Nodes.{Fold, NoFold, LiteralFold, NameFold, OwnFold, UnaryFold, BinaryFold, AndFold, OrFold, ConditionalFold, CastFold, SizeFold, AlignFold, OffsetFold, NodeFacts, fold_of, folded, of_one}
use Rattle.meaning_constants.specs.Sizes.{Sizes}
use Rattle.const_fold.specs.Measured.{MeasuringIsEnough, bytes_asked, measure_of_only, measured, with_bytes}

only-measured : (measure : TypeTree → Option ℕ) (parts : List (Option Part))
    → of_one (λ part. size_constant (measure_of_only measure parts)) parts ≡ of_one (λ part. size_constant (measure part.of)) parts
only-measured measure [] = refl
only-measured measure (None ∷ []) = refl
only-measured measure (Some part ∷ []) = refl
only-measured measure (first ∷ second ∷ parts) = refl

by_fold : (sizes : Sizes) (fold : Fold) (node : NodeFacts)
    → folded (measured (bytes_asked sizes fold node)) fold (with_bytes (bytes_asked sizes fold node) node) ≡ folded sizes fold node
by_fold sizes NoFold node = refl
by_fold sizes (LiteralFold kind) node = refl
by_fold sizes NameFold node = refl
by_fold sizes OwnFold node = refl
by_fold sizes (UnaryFold operator) node = refl
by_fold sizes (BinaryFold operator) node = refl
by_fold sizes AndFold node = refl
by_fold sizes OrFold node = refl
by_fold sizes ConditionalFold node = refl
by_fold sizes CastFold node = refl
by_fold sizes SizeFold node = only-measured sizes.size node.parts
by_fold sizes AlignFold node = only-measured sizes.align node.parts
by_fold sizes OffsetFold node = refl

pub measuring_is_enough : MeasuringIsEnough
measuring_is_enough sizes node = by_fold sizes (fold_of node.kind) node
