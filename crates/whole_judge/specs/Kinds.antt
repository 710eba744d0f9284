-- Kinds of nodes by whose row they have.
use Rattle.std.specs.Prelude.{Bool, true, false}
use Rattle.vocabulary.specs.declared.node_kind.NodeKind.{NodeKind}
use Rattle.vocabulary.specs.declared.node_kind.NodeKind.TheVariants as kinds

-- no expressions, but nodes that say something of a unit: declarations, names of types, tags, assertions and `return`
abbrev pub is_of_unit : NodeKind → Bool
is_of_unit kinds.Specifiers = true
is_of_unit kinds.StructSpecifier = true
is_of_unit kinds.UnionSpecifier = true
is_of_unit kinds.EnumSpecifier = true
is_of_unit kinds.Enumerator = true
is_of_unit kinds.BitFieldWidth = true
is_of_unit kinds.Declarator = true
is_of_unit kinds.ArrayDeclarator = true
is_of_unit kinds.FunctionDeclarator = true
is_of_unit kinds.Parameter = true
is_of_unit kinds.TypedefName = true
is_of_unit kinds.TypeName = true
is_of_unit kinds.TypeofType = true
is_of_unit kinds.TypeofExpression = true
is_of_unit kinds.StaticAssertion = true
is_of_unit kinds.TranslationUnit = true
is_of_unit kinds.ReturnStatement = true
is_of_unit kind = false

-- expressions that ask nothing of aggregates and are no operators with a row of their own: primary ones, `&` and `*`
abbrev pub is_plain : NodeKind → Bool
is_plain (kinds.IntegerConstant kind) = true
is_plain (kinds.CharacterConstant kind) = true
is_plain kinds.StringLiteral = true
is_plain kinds.Parenthesized = true
is_plain kinds.Address = true
is_plain kinds.Indirection = true
is_plain kind = false

-- those that do: members, elements, calls and assignments
abbrev pub is_of_members : NodeKind → Bool
is_of_members kinds.Member = true
is_of_members kinds.PointerMember = true
is_of_members kinds.BuiltinOffsetof = true
is_of_members kinds.Subscript = true
is_of_members kinds.Call = true
is_of_members kinds.Assignment = true
is_of_members kind = false
