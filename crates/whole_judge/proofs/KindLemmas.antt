-- The row of an expression by its kind.
use Rattle.std.proofs.Common.{◌≡◌, ◌≢◌, ℕ, Bool, true, false, true≢false, List, refl}
use Rattle.vocabulary.specs.declared.node_kind.NodeKind.{NodeKind}
use Rattle.vocabulary.specs.declared.node_kind.NodeKind.TheVariants as kinds
use Rattle.meaning_typing.specs.Aggregates.{KnownAggregates}
use Rattle.meaning_typing.specs.Facts.{Fact}
use Rattle.meaning_typing.specs.Operations.{operation_of}
use Rattle.meaning_typing.specs.Surroundings.{Surrounding}
use Rattle.meaning_typing.specs.Units.{UnitNodes}
use Rattle.meaning_typing.specs.WholeTyping.{keeps_constant, whole_operation_row, whole_row_of}
use Rattle.whole_judge.specs.Kinds.{is_of_members, is_of_unit, is_plain}

-- a constant is asked of it
pub asks_constant : (kind : NodeKind) → is_of_unit kind ≡ false → keeps_constant kind ≡ false
asks_constant kinds.Enumerator unit = absurd (true≢false unit)
asks_constant kinds.BitFieldWidth unit = absurd (true≢false unit)
asks_constant kind unit = refl

pub not_plain : (kind : NodeKind) → ((of : _) → kind ≢ kinds.IntegerConstant of) → ((of : _) → kind ≢ kinds.CharacterConstant of)
    → kind ≢ kinds.StringLiteral → kind ≢ kinds.Parenthesized → kind ≢ kinds.Address → kind ≢ kinds.Indirection → is_plain kind ≡ false
not_plain (kinds.IntegerConstant of) integer character string parenthesized address indirection = absurd (integer of refl)
not_plain (kinds.CharacterConstant of) integer character string parenthesized address indirection = absurd (character of refl)
not_plain kinds.StringLiteral integer character string parenthesized address indirection = absurd (string refl)
not_plain kinds.Parenthesized integer character string parenthesized address indirection = absurd (parenthesized refl)
not_plain kinds.Address integer character string parenthesized address indirection = absurd (address refl)
not_plain kinds.Indirection integer character string parenthesized address indirection = absurd (indirection refl)
not_plain kind integer character string parenthesized address indirection = refl

pub not_of_members : (kind : NodeKind) → kind ≢ kinds.Member → kind ≢ kinds.PointerMember → kind ≢ kinds.BuiltinOffsetof → kind ≢ kinds.Subscript
    → kind ≢ kinds.Call → kind ≢ kinds.Assignment → is_of_members kind ≡ false
not_of_members kinds.Member member pointer offset subscript call assignment = absurd (member refl)
not_of_members kinds.PointerMember member pointer offset subscript call assignment = absurd (pointer refl)
not_of_members kinds.BuiltinOffsetof member pointer offset subscript call assignment = absurd (offset refl)
not_of_members kinds.Subscript member pointer offset subscript call assignment = absurd (subscript refl)
not_of_members kinds.Call member pointer offset subscript call assignment = absurd (call refl)
not_of_members kinds.Assignment member pointer offset subscript call assignment = absurd (assignment refl)
not_of_members kind member pointer offset subscript call assignment = refl

-- all other kinds have the row of what their operator does
module _ (aggregates : KnownAggregates) (nodes : UnitNodes) (surroundings : List Surrounding) (facts : List Fact) (handle : ℕ) where
  pub by_operation : (kind : NodeKind) → is_of_unit kind ≡ false → kind ≢ kinds.Name → is_plain kind ≡ false → is_of_members kind ≡ false
      → whole_operation_row aggregates nodes facts handle (operation_of kind) ≡ whole_row_of aggregates nodes surroundings facts handle kind
  by_operation kinds.Specifiers unit name plain members = absurd (true≢false unit)
  by_operation kinds.StructSpecifier unit name plain members = absurd (true≢false unit)
  by_operation kinds.UnionSpecifier unit name plain members = absurd (true≢false unit)
  by_operation kinds.EnumSpecifier unit name plain members = absurd (true≢false unit)
  by_operation kinds.Enumerator unit name plain members = absurd (true≢false unit)
  by_operation kinds.BitFieldWidth unit name plain members = absurd (true≢false unit)
  by_operation kinds.Declarator unit name plain members = absurd (true≢false unit)
  by_operation kinds.ArrayDeclarator unit name plain members = absurd (true≢false unit)
  by_operation kinds.FunctionDeclarator unit name plain members = absurd (true≢false unit)
  by_operation kinds.Parameter unit name plain members = absurd (true≢false unit)
  by_operation kinds.TypedefName unit name plain members = absurd (true≢false unit)
  by_operation kinds.TypeName unit name plain members = absurd (true≢false unit)
  by_operation kinds.TypeofType unit name plain members = absurd (true≢false unit)
  by_operation kinds.TypeofExpression unit name plain members = absurd (true≢false unit)
  by_operation kinds.StaticAssertion unit name plain members = absurd (true≢false unit)
  by_operation kinds.TranslationUnit unit name plain members = absurd (true≢false unit)
  by_operation kinds.ReturnStatement unit name plain members = absurd (true≢false unit)
  by_operation kinds.Name unit name plain members = absurd (name refl)
  by_operation (kinds.IntegerConstant of) unit name plain members = absurd (true≢false plain)
  by_operation (kinds.CharacterConstant of) unit name plain members = absurd (true≢false plain)
  by_operation kinds.StringLiteral unit name plain members = absurd (true≢false plain)
  by_operation kinds.Parenthesized unit name plain members = absurd (true≢false plain)
  by_operation kinds.Address unit name plain members = absurd (true≢false plain)
  by_operation kinds.Indirection unit name plain members = absurd (true≢false plain)
  by_operation kinds.Member unit name plain members = absurd (true≢false members)
  by_operation kinds.PointerMember unit name plain members = absurd (true≢false members)
  by_operation kinds.BuiltinOffsetof unit name plain members = absurd (true≢false members)
  by_operation kinds.Subscript unit name plain members = absurd (true≢false members)
  by_operation kinds.Call unit name plain members = absurd (true≢false members)
  by_operation kinds.Assignment unit name plain members = absurd (true≢false members)
  by_operation kind unit name plain members = refl
