-- Which units are typed: those whose nodes are all of these kinds. What a node of another kind comes to isn't said yet.
use Rattle.std.specs.Prelude.{◌≡◌, Bool, true, false, All}
use Rattle.vocabulary.specs.declared.node_kind.NodeKind.{NodeKind}
use Rattle.vocabulary.specs.declared.node_kind.NodeKind.TheVariants as kinds
use Rattle.meaning_typing.specs.Units.{UnitNodes}
use Rattle.meaning_typing.specs.Operations.{Operation, NoOperation, operation_of}

abbrev pub is_operator : Operation → Bool
is_operator NoOperation = false
is_operator other = true

abbrev pub is_typed_kind : NodeKind → Bool
-- C11 6.7: declarations, specifiers and declarators of arithmetic types, pointers, arrays and functions, and names of types
is_typed_kind kinds.TranslationUnit = true
is_typed_kind kinds.EmptyDeclaration = true
is_typed_kind kinds.Declaration = true
is_typed_kind kinds.FunctionDefinition = true
is_typed_kind kinds.LeadingAttributes = true
is_typed_kind kinds.Specifiers = true
is_typed_kind kinds.TypedefSpecifier = true
is_typed_kind kinds.ExternSpecifier = true
is_typed_kind kinds.StaticSpecifier = true
is_typed_kind kinds.AutoSpecifier = true
is_typed_kind kinds.RegisterSpecifier = true
is_typed_kind kinds.InlineSpecifier = true
is_typed_kind kinds.NoreturnSpecifier = true
is_typed_kind kinds.ConstQualifier = true
is_typed_kind kinds.VolatileQualifier = true
is_typed_kind kinds.RestrictQualifier = true
is_typed_kind kinds.VoidSpecifier = true
is_typed_kind kinds.CharSpecifier = true
is_typed_kind kinds.ShortSpecifier = true
is_typed_kind kinds.IntSpecifier = true
is_typed_kind kinds.LongSpecifier = true
is_typed_kind kinds.SignedSpecifier = true
is_typed_kind kinds.UnsignedSpecifier = true
is_typed_kind kinds.BoolSpecifier = true
is_typed_kind kinds.TypedefName = true
is_typed_kind kinds.TypeofType = true
is_typed_kind kinds.TypeofExpression = true
is_typed_kind kinds.Declarator = true
is_typed_kind kinds.PointerDeclarator = true
is_typed_kind kinds.ArrayDeclarator = true
is_typed_kind kinds.FunctionDeclarator = true
is_typed_kind kinds.ParenthesizedAttributes = true
is_typed_kind kinds.Parameter = true
is_typed_kind kinds.Ellipsis = true
is_typed_kind kinds.TypeName = true
is_typed_kind kinds.AttributeList = true
is_typed_kind kinds.NoderefAttribute = true
is_typed_kind kinds.AddressSpaceAttribute = true
is_typed_kind kinds.BitwiseAttribute = true
is_typed_kind kinds.ForceAttribute = true
is_typed_kind kinds.PackedAttribute = true
is_typed_kind kinds.AlignedAttribute = true
is_typed_kind kinds.NoreturnAttribute = true
-- 6.8
is_typed_kind kinds.CompoundStatement = true
is_typed_kind kinds.ExpressionStatement = true
is_typed_kind kinds.ReturnStatement = true
-- 6.5
is_typed_kind kinds.Name = true
is_typed_kind (kinds.IntegerConstant kind) = true
is_typed_kind (kinds.CharacterConstant kind) = true
is_typed_kind kinds.StringLiteral = true
is_typed_kind kinds.StringPiece = true
is_typed_kind kinds.Parenthesized = true
is_typed_kind kinds.Subscript = true
is_typed_kind kinds.Call = true
is_typed_kind kinds.Address = true
is_typed_kind kinds.Indirection = true
is_typed_kind kinds.Assignment = true
is_typed_kind kind = is_operator (operation_of kind)

abbrev pub AreTyped : UnitNodes → Type 0
AreTyped nodes = All (λ node. is_typed_kind node.kind ≡ true) nodes
