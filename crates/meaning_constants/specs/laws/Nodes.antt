-- What holds of the constants of nodes.
use Rattle.std.specs.Prelude.{◌≡◌, ℤ, List, [], ◌∷◌, Option, Some}
use Rattle.std.specs.List.{AllByRecursion}
use Rattle.vocabulary.specs.declared.int_kind.IntKind.{IntKind}
use Rattle.meaning_types.specs.Conversions.{promoted}
use Rattle.meaning_constants.specs.Numbers.{IsInRange}
use Rattle.meaning_constants.specs.Bits.{bits_of_number, number_of_bits}
use Rattle.meaning_constants.specs.Constants.{Constant, Part, own_constant}
use Rattle.meaning_constants.specs.Sizes.{Sizes}
use Rattle.meaning_constants.specs.Nodes.{NodeFacts, of_one, node_constant}

-- the number of a constant is one of its promoted kind, if there is one
abbrev pub FitsItsKind : Option Constant → Type 0
FitsItsKind found = (constant : Constant) → found ≡ Some constant → IsInRange (promoted constant.kind) constant.number

-- so is that of a part
abbrev pub PartFits : Option Part → Type 0
PartFits part = FitsItsKind (of_one own_constant (part ∷ []))

abbrev pub PartsFit : List (Option Part) → Type 0
PartsFit parts = AllByRecursion PartFits parts

-- the constant of a node fits where those of its parts do
abbrev pub NodeConstantsFit : Type 0
NodeConstantsFit = (sizes : Sizes) (node : NodeFacts) → PartsFit node.parts → PartFits node.enumerator → FitsItsKind (node_constant sizes node)

-- and is told by its kind and 64 bits
abbrev pub BitsTellNumbers : Type 0
BitsTellNumbers = (kind : IntKind) (number : ℤ) → IsInRange (promoted kind) number → number_of_bits kind (bits_of_number number) ≡ number
