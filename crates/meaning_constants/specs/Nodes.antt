-- The constant of a node by its kind and by what is known of its parts (C11 6.6), or none.
use Rattle.std.specs.Prelude.{ℕ, nat_lt, List, [], ◌∷◌, Option, Some, None, if◌then◌else◌}
use Rattle.vocabulary.specs.declared.int_kind.IntKind.{IntKind}
use Rattle.vocabulary.specs.declared.int_kind.IntKind.TheVariants as kinds
use Rattle.vocabulary.specs.declared.node_kind.NodeKind.{NodeKind}
use Rattle.vocabulary.specs.declared.node_kind.NodeKind.TheVariants as nodes
use Rattle.vocabulary.specs.declared.operator.Operator.{Operator}
use Rattle.vocabulary.specs.declared.operator.Operator.TheVariants as operators
use Rattle.meaning_types.specs.Types.{TypeTree, Typed, IntegerTree}
use Rattle.meaning_types.specs.Conversions.{promoted}
use Rattle.meaning_types.specs.Ranges.{width}
use Rattle.meaning_constants.specs.Constants.{Constant, Part, literal_constant, size_constant, cast_constant, own_constant, unary_constant, binary_constant, and_constant, or_constant, conditional_constant, conditional_without_middle}
use Rattle.meaning_constants.specs.Sizes.{Sizes}

-- The type of what is loaded from a place of this type, where that is a bit-field of so many bits: it is promoted, and an int can
-- have all numbers of an unsigned int that has fewer bits (6.3.1.1 p2).
abbrev pub loaded_kind : (bits : ℕ) → IntKind → IntKind
loaded_kind bits kinds.UInt = if nat_lt bits (width kinds.UInt) then kinds.Int else kinds.UInt
loaded_kind bits kind = promoted kind

abbrev pub loaded_type : Option ℕ → TypeTree → TypeTree
loaded_type (Some bits) (Typed (IntegerTree kind) qualifiers flags) = Typed (IntegerTree (loaded_kind bits kind)) qualifiers flags
loaded_type bits of = of

-- how a node comes by its constant
pub data Fold : Type 0 where
  -- it has none: a call, a comma, an assignment, a selection, an address, a statement expression, `__builtin_expect`, and all that
  -- is no expression
  NoFold : Fold
  -- a literal of this kind has it in its bits
  LiteralFold : IntKind → Fold
  -- a name has that of the enumerator that it names
  NameFold : Fold
  -- a parenthesis has that of its only part
  OwnFold : Fold
  UnaryFold : Operator → Fold
  BinaryFold : Operator → Fold
  AndFold : Fold
  OrFold : Fold
  -- `?:`, with or without its middle operand
  ConditionalFold : Fold
  -- a type name, and an operand
  CastFold : Fold
  -- the size, or the alignment, of an expression or a type name
  SizeFold : Fold
  AlignFold : Fold
  OffsetFold : Fold

-- the one of each kind
abbrev pub fold_of : NodeKind → Fold
fold_of nodes.Name = NameFold
fold_of (nodes.IntegerConstant kind) = LiteralFold kind
fold_of (nodes.CharacterConstant kind) = LiteralFold kind
fold_of nodes.Parenthesized = OwnFold
fold_of nodes.UnaryPlus = UnaryFold operators.UnaryPlus
fold_of nodes.Negation = UnaryFold operators.Negation
fold_of nodes.Complement = UnaryFold operators.Complement
fold_of nodes.LogicalNot = UnaryFold operators.LogicalNot
fold_of nodes.Multiplication = BinaryFold operators.Multiplication
fold_of nodes.Division = BinaryFold operators.Division
fold_of nodes.Remainder = BinaryFold operators.Remainder
fold_of nodes.Addition = BinaryFold operators.Addition
fold_of nodes.Subtraction = BinaryFold operators.Subtraction
fold_of nodes.LeftShift = BinaryFold operators.LeftShift
fold_of nodes.RightShift = BinaryFold operators.RightShift
fold_of nodes.Less = BinaryFold operators.Less
fold_of nodes.Greater = BinaryFold operators.Greater
fold_of nodes.LessOrEqual = BinaryFold operators.LessOrEqual
fold_of nodes.GreaterOrEqual = BinaryFold operators.GreaterOrEqual
fold_of nodes.Equal = BinaryFold operators.Equal
fold_of nodes.NotEqual = BinaryFold operators.NotEqual
fold_of nodes.BitwiseAnd = BinaryFold operators.BitwiseAnd
fold_of nodes.BitwiseExclusiveOr = BinaryFold operators.BitwiseExclusiveOr
fold_of nodes.BitwiseOr = BinaryFold operators.BitwiseOr
fold_of nodes.LogicalAnd = AndFold
fold_of nodes.LogicalOr = OrFold
fold_of nodes.Conditional = ConditionalFold
fold_of nodes.Cast = CastFold
fold_of nodes.SizeofExpression = SizeFold
fold_of nodes.SizeofType = SizeFold
fold_of nodes.AlignofType = AlignFold
fold_of nodes.BuiltinOffsetof = OffsetFold
fold_of kind = NoFold

-- What is known of a node. Of a part nothing is known where it has no type; one that isn't evaluated may be any typed
-- expression.
pub record NodeFacts : Type 0 where
  pub kind : NodeKind
  pub number : ℕ
  pub parts : List (Option Part)
  -- of a name, the enumerator that it names, if it is one
  pub enumerator : Option Part
  -- of `__builtin_offsetof`, how far on the designated part lies, if it does
  pub offset : Option ℕ

-- what comes of a part that is known
abbrev pub with_part : Option Part → (Part → Option Constant) → Option Constant
with_part None next = None
with_part (Some part) next = next part

-- of the only part, of two, and of the parts of `?:`
abbrev pub of_one : (Part → Option Constant) → List (Option Part) → Option Constant
of_one next (part ∷ []) = with_part part next
of_one next parts = None

abbrev pub of_two : (Part → Part → Option Constant) → List (Option Part) → Option Constant
of_two next (first ∷ second ∷ []) = with_part first (λ left. with_part second (λ right. next left right))
of_two next parts = None

abbrev pub of_arms : List (Option Part) → Option Constant
of_arms (first ∷ third ∷ []) = with_part first (λ condition. with_part third (λ right. conditional_without_middle condition right))
of_arms (first ∷ second ∷ third ∷ []) =
    with_part first (λ condition. with_part second (λ left. with_part third (λ right. conditional_constant condition left right)))
of_arms parts = None

-- the constant that comes so
abbrev pub folded : Sizes → Fold → NodeFacts → Option Constant
folded sizes NoFold node = None
folded sizes (LiteralFold kind) node = literal_constant kind node.number
folded sizes NameFold node = of_one own_constant (node.enumerator ∷ [])
folded sizes OwnFold node = of_one own_constant node.parts
folded sizes (UnaryFold operator) node = of_one (unary_constant operator) node.parts
folded sizes (BinaryFold operator) node = of_two (binary_constant operator) node.parts
folded sizes AndFold node = of_two and_constant node.parts
folded sizes OrFold node = of_two or_constant node.parts
folded sizes ConditionalFold node = of_arms node.parts
folded sizes CastFold node = of_two (λ name operand. cast_constant name.of operand) node.parts
folded sizes SizeFold node = of_one (λ part. size_constant (sizes.size part.of)) node.parts
folded sizes AlignFold node = of_one (λ part. size_constant (sizes.align part.of)) node.parts
folded sizes OffsetFold node = size_constant node.offset

-- the constant of a node, where types have these sizes
abbrev pub node_constant : Sizes → NodeFacts → Option Constant
node_constant sizes node = folded sizes (fold_of node.kind) node
