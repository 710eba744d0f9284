-- What a node asks of the sizes of types: one number of bytes, which whoever folds it brings.
use Rattle.std.specs.Prelude.{◌≡◌, ℕ, List, [], ◌∷◌, Option, Some, None}
use Rattle.meaning_types.specs.Types.{TypeTree}
use Rattle.meaning_constants.specs.Constants.{Part}
use Rattle.meaning_constants.specs.Nodes.{Fold, SizeFold, AlignFold, OffsetFold, NodeFacts, fold_of, node_constant}
use Rattle.meaning_constants.specs.Sizes.{Sizes}

-- sizes and alignments of types, of which one is asked: that has so many bytes
abbrev pub measured : Option ℕ → Sizes
measured bytes = record { size = λ of. bytes; align = λ of. bytes }

-- what the only part measures, if it is known
abbrev pub measure_of_only : (TypeTree → Option ℕ) → List (Option Part) → Option ℕ
measure_of_only measure (Some part ∷ []) = measure part.of
measure_of_only measure parts = None

-- the bytes that a node asks for: the size or the alignment of its part, or how far its member lies
abbrev pub bytes_asked : Sizes → Fold → NodeFacts → Option ℕ
bytes_asked sizes SizeFold node = measure_of_only sizes.size node.parts
bytes_asked sizes AlignFold node = measure_of_only sizes.align node.parts
bytes_asked sizes OffsetFold node = node.offset
bytes_asked sizes fold node = None

-- what is known of a node that was measured
abbrev pub with_bytes : Option ℕ → NodeFacts → NodeFacts
with_bytes bytes node =
    record { kind = node.kind; number = node.number; parts = node.parts; enumerator = node.enumerator; offset = bytes }

-- a node has the constant that it has by these sizes where it has it by the bytes that it asks for
abbrev pub MeasuringIsEnough : Type 0
MeasuringIsEnough =
    (sizes : Sizes) (node : NodeFacts)
    → node_constant (measured (bytes_asked sizes (fold_of node.kind) node)) (with_bytes (bytes_asked sizes (fold_of node.kind) node) node) ≡ node_constant sizes node
