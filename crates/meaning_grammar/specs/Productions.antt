-- The productions of the grammar: for each symbol its rows, each a list of items. What a row derives is what its
-- tokens, names and symbols derive, one behind the other; its actions say what is done there with what was read.
use Rattle.std.specs.Prelude.{List, [], ◌∷◌}
use Rattle.vocabulary.specs.declared.token_class.TokenClass.TheVariants.{LeftBracket, RightBracket, LeftParenthesis, RightParenthesis, LeftBrace, RightBrace, Dot, Arrow, PlusPlus, MinusMinus, Ampersand, Star, Plus, Minus, Tilde, Exclamation, Slash, Percent, ShiftLeft, ShiftRight, Less, Greater, LessEqual, GreaterEqual, EqualEqual, NotEqual, Caret, Bar, AndAnd, OrOr, Question, Colon, Semicolon, Ellipsis, Assign, StarAssign, SlashAssign, PercentAssign, PlusAssign, MinusAssign, ShiftLeftAssign, ShiftRightAssign, AndAssign, XorAssign, OrAssign, Comma, TypedefKeyword, ExternKeyword, StaticKeyword, AutoKeyword, RegisterKeyword, InlineKeyword, NoreturnKeyword, ConstKeyword, VolatileKeyword, RestrictKeyword, VoidKeyword, CharKeyword, ShortKeyword, IntKeyword, LongKeyword, SignedKeyword, UnsignedKeyword, BoolKeyword, StructKeyword, UnionKeyword, EnumKeyword, TypeofKeyword, AttributeKeyword, StaticAssertKeyword, CaseKeyword, DefaultKeyword, IfKeyword, ElseKeyword, SwitchKeyword, WhileKeyword, DoKeyword, ForKeyword, GotoKeyword, ContinueKeyword, BreakKeyword, ReturnKeyword, ContextKeyword, SizeofKeyword, AlignofKeyword, BuiltinExpectKeyword, BuiltinOffsetofKeyword, Identifier, TypedefName, Number, Character, String, End}
use Rattle.vocabulary.specs.declared.symbol.Symbol.{Symbol}
use Rattle.vocabulary.specs.declared.symbol.Symbol.TheVariants.{ExternalDeclarations, ExternalDeclaration, ExternalDeclarators, BodyOrDeclarators, OptionalInitializer, FurtherDeclarators, Specifiers, SpecifiersBehindType, StorageClassSpecifier, TypeQualifier, TypeWord, StructOrUnionSpecifier, TagOrMembers, MembersBehindTag, MemberDeclarations, MemberDeclaration, MemberDeclarators, FurtherMemberDeclarators, MemberDeclarator, OptionalWidth, EnumSpecifier, TagOrEnumerators, EnumeratorsBehindTag, Enumerator, OptionalEnumeratorValue, FurtherEnumerators, EnumeratorsBehindComma, AttributeLists, AttributeList, FurtherAttributes, Attribute, AttributeArguments, BalancedTokens, TypeofSpecifier, TypeofOperand, TypeName, Declarator, Pointers, PointerQualifiers, DirectDeclarator, DeclaratorSuffixes, ArraySize, Parameters, FurtherParameters, ParameterOrEllipsis, Parameter, AnyDeclarator, AnyDirectDeclarator, Initializer, InitializerItems, FurtherInitializerItems, InitializerItem, Designator, FurtherDesignators, StaticAssertion, CompoundStatement, BlockItems, BlockItem, Declaration, Declarators, Statement, OptionalElse, ForInitialization, OptionalExpression, Expression, CommaTail, AssignmentExpression, AssignmentTail, ConditionalExpression, ConditionalTail, MiddleOperand, LogicalOrExpression, LogicalOrTail, LogicalAndExpression, LogicalAndTail, InclusiveOrExpression, InclusiveOrTail, ExclusiveOrExpression, ExclusiveOrTail, AndExpression, AndTail, EqualityExpression, EqualityTail, RelationalExpression, RelationalTail, ShiftExpression, ShiftTail, AdditiveExpression, AdditiveTail, MultiplicativeExpression, MultiplicativeTail, CastExpression, CastOperand, BracedInitializer, UnaryExpression, SizeofOperand, SizeofTypeEnd, PostfixTail, Arguments, FurtherArguments, PrimaryExpression, OffsetofDesignators, ParenthesizedExpression, StringLiterals, FurtherStringLiterals}
use Rattle.vocabulary.specs.declared.action.Action.TheVariants.{Append, AppendAttribute, AppendDeclarator, AppendLeadingAttributes, AwaitBody, BeginAtNext, BeginDeclarators, BeginList, BindDeclarator, BindEnumerator, BindFurtherDeclarator, BindParameter, CloseParameters, CloseScope, CountParameter, DeclareTag, DefineTag, JoinAnyParts, JoinParts, JoinSuffixes, MakeAttributeList, MakeBinary, MakeBlockSpecifiers, MakeBuiltinOffsetof, MakeCall, MakeCharacterConstant, MakeCompoundStatement, MakeConditional, MakeContextStatement, MakeDeclaration, MakeDeclarator, MakeDoStatement, MakeEnumerator, MakeFileSpecifiers, MakeForPart, MakeForStatement, MakeFunctionDefinition, MakeIfStatement, MakeInitializerItem, MakeIntegerConstant, MakeLabelStatement, MakeLeaf, MakeLoneDeclaration, MakeMember, MakeMemberDeclaration, MakeMemberSpecifiers, MakeNamed, MakeOptionalDeclarator, MakeOver, MakeOverList, MakeOverTwo, MakeParameter, MakeParameterSpecifiers, MakeParenthesizedAttributes, MakePostfix, MakeSizeofType, MakeStringLiteral, MakeStringPiece, MakeTagged, MakeTranslationUnit, MakeTypeName, MakeTypeNameSpecifiers, NoteFunctionDeclarator, OpenBody, OpenScope, RequireType, RequireTypeOrAttributes, UseName, UseTag, UseTypedefName, WithoutTag}
use Rattle.vocabulary.specs.declared.node_kind.NodeKind.TheVariants as kinds
use Rattle.vocabulary.specs.declared.role.Role.TheVariants.{Evaluated, Condition, TypePart, Unevaluated}
use Rattle.vocabulary.specs.declared.production_item.ProductionItem.{ProductionItem}
use Rattle.vocabulary.specs.declared.production_item.ProductionItem.TheVariants.{Token, Passed, PassedAny, Name, LabelName, AttributeWord, CaseColon, DesignatorEnd, Nonterminal, Do}

-- an empty row
abbrev pub empty_row : List ProductionItem
empty_row = []

-- the rows of a symbol, in order
abbrev pub productions : Symbol → List (List ProductionItem)
-- Units and declarations (C11 6.7, 6.9)
productions ExternalDeclarations =
    (Nonterminal ExternalDeclaration ∷ Do (Append Evaluated) ∷ Nonterminal ExternalDeclarations ∷ [])
    ∷ empty_row ∷ []
productions ExternalDeclaration =
    (Token Semicolon ∷ Do (MakeLeaf kinds.EmptyDeclaration) ∷ [])
    ∷ (Nonterminal StaticAssertion ∷ [])
    ∷ (Do BeginAtNext ∷ Nonterminal Specifiers ∷ Do MakeFileSpecifiers ∷ Nonterminal ExternalDeclarators ∷ []) ∷ []
productions ExternalDeclarators =
    (Do RequireTypeOrAttributes ∷ Do DeclareTag ∷ Passed Semicolon ∷ Do MakeLoneDeclaration ∷ [])
    ∷ (Do RequireType ∷ Nonterminal Declarator ∷ Do MakeDeclarator ∷ Do BindDeclarator ∷ Do BeginList ∷ Nonterminal AttributeLists ∷ Nonterminal BodyOrDeclarators ∷ []) ∷ []
productions BodyOrDeclarators =
    (Do AwaitBody ∷ Nonterminal CompoundStatement ∷ Do MakeFunctionDefinition ∷ [])
    ∷ (Do BeginDeclarators ∷ Nonterminal OptionalInitializer ∷ Nonterminal FurtherDeclarators ∷ Passed Semicolon ∷ Do MakeDeclaration ∷ []) ∷ []
productions OptionalInitializer =
    (Token Assign ∷ Nonterminal Initializer ∷ Do (MakeOver kinds.Initializer Evaluated) ∷ Do (Append Evaluated) ∷ [])
    ∷ empty_row ∷ []
productions FurtherDeclarators =
    (Passed Comma ∷ Do BeginList ∷ Nonterminal AttributeLists ∷ Do AppendLeadingAttributes ∷ Nonterminal Declarator ∷ Do MakeDeclarator ∷ Do BindFurtherDeclarator ∷ Do BeginList ∷ Nonterminal AttributeLists ∷ Do NoteFunctionDeclarator ∷ Do AppendDeclarator ∷ Nonterminal OptionalInitializer ∷ Nonterminal FurtherDeclarators ∷ [])
    ∷ empty_row ∷ []
-- Specifiers (6.7.1 to 6.7.4)
productions Specifiers =
    (Nonterminal StorageClassSpecifier ∷ Do (Append TypePart) ∷ Nonterminal Specifiers ∷ [])
    ∷ (Nonterminal TypeQualifier ∷ Do (Append TypePart) ∷ Nonterminal Specifiers ∷ [])
    ∷ (Nonterminal AttributeList ∷ Do (Append TypePart) ∷ Nonterminal Specifiers ∷ [])
    ∷ (Nonterminal TypeWord ∷ Do (Append TypePart) ∷ Nonterminal SpecifiersBehindType ∷ [])
    ∷ (Nonterminal StructOrUnionSpecifier ∷ Do (Append TypePart) ∷ Nonterminal SpecifiersBehindType ∷ [])
    ∷ (Nonterminal EnumSpecifier ∷ Do (Append TypePart) ∷ Nonterminal SpecifiersBehindType ∷ [])
    ∷ (Nonterminal TypeofSpecifier ∷ Do (Append TypePart) ∷ Nonterminal SpecifiersBehindType ∷ [])
    ∷ (Token TypedefName ∷ Do UseTypedefName ∷ Do (Append TypePart) ∷ Nonterminal SpecifiersBehindType ∷ [])
    ∷ empty_row ∷ []
productions SpecifiersBehindType =
    (Nonterminal StorageClassSpecifier ∷ Do (Append TypePart) ∷ Nonterminal SpecifiersBehindType ∷ [])
    ∷ (Nonterminal TypeQualifier ∷ Do (Append TypePart) ∷ Nonterminal SpecifiersBehindType ∷ [])
    ∷ (Nonterminal AttributeList ∷ Do (Append TypePart) ∷ Nonterminal SpecifiersBehindType ∷ [])
    ∷ (Nonterminal TypeWord ∷ Do (Append TypePart) ∷ Nonterminal SpecifiersBehindType ∷ [])
    ∷ empty_row ∷ []
productions StorageClassSpecifier =
    (Token TypedefKeyword ∷ Do (MakeLeaf kinds.TypedefSpecifier) ∷ [])
    ∷ (Token ExternKeyword ∷ Do (MakeLeaf kinds.ExternSpecifier) ∷ [])
    ∷ (Token StaticKeyword ∷ Do (MakeLeaf kinds.StaticSpecifier) ∷ [])
    ∷ (Token AutoKeyword ∷ Do (MakeLeaf kinds.AutoSpecifier) ∷ [])
    ∷ (Token RegisterKeyword ∷ Do (MakeLeaf kinds.RegisterSpecifier) ∷ [])
    ∷ (Token InlineKeyword ∷ Do (MakeLeaf kinds.InlineSpecifier) ∷ [])
    ∷ (Token NoreturnKeyword ∷ Do (MakeLeaf kinds.NoreturnSpecifier) ∷ []) ∷ []
productions TypeQualifier =
    (Token ConstKeyword ∷ Do (MakeLeaf kinds.ConstQualifier) ∷ [])
    ∷ (Token VolatileKeyword ∷ Do (MakeLeaf kinds.VolatileQualifier) ∷ [])
    ∷ (Token RestrictKeyword ∷ Do (MakeLeaf kinds.RestrictQualifier) ∷ []) ∷ []
productions TypeWord =
    (Token VoidKeyword ∷ Do (MakeLeaf kinds.VoidSpecifier) ∷ [])
    ∷ (Token CharKeyword ∷ Do (MakeLeaf kinds.CharSpecifier) ∷ [])
    ∷ (Token ShortKeyword ∷ Do (MakeLeaf kinds.ShortSpecifier) ∷ [])
    ∷ (Token IntKeyword ∷ Do (MakeLeaf kinds.IntSpecifier) ∷ [])
    ∷ (Token LongKeyword ∷ Do (MakeLeaf kinds.LongSpecifier) ∷ [])
    ∷ (Token SignedKeyword ∷ Do (MakeLeaf kinds.SignedSpecifier) ∷ [])
    ∷ (Token UnsignedKeyword ∷ Do (MakeLeaf kinds.UnsignedSpecifier) ∷ [])
    ∷ (Token BoolKeyword ∷ Do (MakeLeaf kinds.BoolSpecifier) ∷ []) ∷ []
productions StructOrUnionSpecifier =
    (Token StructKeyword ∷ Do BeginList ∷ Nonterminal AttributeLists ∷ Nonterminal TagOrMembers ∷ Do (MakeTagged kinds.StructSpecifier) ∷ [])
    ∷ (Token UnionKeyword ∷ Do BeginList ∷ Nonterminal AttributeLists ∷ Nonterminal TagOrMembers ∷ Do (MakeTagged kinds.UnionSpecifier) ∷ []) ∷ []
productions TagOrMembers =
    (Name ∷ Nonterminal MembersBehindTag ∷ [])
    ∷ (Do WithoutTag ∷ Do BeginList ∷ Token LeftBrace ∷ Do BeginList ∷ Nonterminal MemberDeclarations ∷ Passed RightBrace ∷ Do (MakeOverList kinds.MemberList) ∷ Do (Append TypePart) ∷ []) ∷ []
productions MembersBehindTag =
    (Do DefineTag ∷ Do BeginList ∷ Token LeftBrace ∷ Do BeginList ∷ Nonterminal MemberDeclarations ∷ Passed RightBrace ∷ Do (MakeOverList kinds.MemberList) ∷ Do (Append TypePart) ∷ [])
    ∷ (Do UseTag ∷ Do BeginList ∷ []) ∷ []
-- Members and enumerators (6.7.2.1, 6.7.2.2)
productions MemberDeclarations =
    (Nonterminal MemberDeclaration ∷ Do (Append TypePart) ∷ Nonterminal MemberDeclarations ∷ [])
    ∷ empty_row ∷ []
productions MemberDeclaration =
    (Token Semicolon ∷ Do (MakeLeaf kinds.EmptyDeclaration) ∷ [])
    ∷ (Nonterminal StaticAssertion ∷ [])
    ∷ (Do BeginAtNext ∷ Nonterminal Specifiers ∷ Do MakeMemberSpecifiers ∷ Nonterminal MemberDeclarators ∷ Passed Semicolon ∷ Do MakeMemberDeclaration ∷ []) ∷ []
productions MemberDeclarators =
    (Do RequireType ∷ Do BeginList ∷ Nonterminal MemberDeclarator ∷ Nonterminal FurtherMemberDeclarators ∷ [])
    ∷ (Do RequireTypeOrAttributes ∷ Do BeginList ∷ []) ∷ []
productions FurtherMemberDeclarators =
    (Passed Comma ∷ Nonterminal MemberDeclarator ∷ Nonterminal FurtherMemberDeclarators ∷ [])
    ∷ empty_row ∷ []
productions MemberDeclarator =
    (Do BeginAtNext ∷ Do MakeDeclarator ∷ Do (Append TypePart) ∷ Token Colon ∷ Nonterminal ConditionalExpression
    ∷ Do (MakeOver kinds.BitFieldWidth Unevaluated) ∷ Do (Append Unevaluated) ∷ Nonterminal AttributeLists ∷ [])
    ∷ (Nonterminal Declarator ∷ Do MakeDeclarator ∷ Do (Append TypePart) ∷ Nonterminal OptionalWidth ∷ Nonterminal AttributeLists ∷ []) ∷ []
productions OptionalWidth =
    (Token Colon ∷ Nonterminal ConditionalExpression ∷ Do (MakeOver kinds.BitFieldWidth Unevaluated) ∷ Do (Append Unevaluated) ∷ [])
    ∷ empty_row ∷ []
productions EnumSpecifier =
    (Token EnumKeyword ∷ Do BeginList ∷ Nonterminal AttributeLists ∷ Nonterminal TagOrEnumerators ∷ Do (MakeTagged kinds.EnumSpecifier) ∷ []) ∷ []
productions TagOrEnumerators =
    (Name ∷ Nonterminal EnumeratorsBehindTag ∷ [])
    ∷ (Do WithoutTag ∷ Do BeginList ∷ Passed LeftBrace ∷ Nonterminal Enumerator ∷ Nonterminal FurtherEnumerators ∷ Passed RightBrace ∷ []) ∷ []
productions EnumeratorsBehindTag =
    (Do DefineTag ∷ Do BeginList ∷ Passed LeftBrace ∷ Nonterminal Enumerator ∷ Nonterminal FurtherEnumerators ∷ Passed RightBrace ∷ [])
    ∷ (Do UseTag ∷ Do BeginList ∷ []) ∷ []
productions Enumerator =
    (Name ∷ Do BeginList ∷ Nonterminal AttributeLists ∷ Nonterminal OptionalEnumeratorValue ∷ Do MakeEnumerator ∷ Do BindEnumerator ∷ Do (Append TypePart) ∷ []) ∷ []
productions OptionalEnumeratorValue =
    (Passed Assign ∷ Nonterminal ConditionalExpression ∷ Do (Append Unevaluated) ∷ [])
    ∷ empty_row ∷ []
productions FurtherEnumerators =
    (Passed Comma ∷ Nonterminal EnumeratorsBehindComma ∷ [])
    ∷ empty_row ∷ []
productions EnumeratorsBehindComma =
    (Nonterminal Enumerator ∷ Nonterminal FurtherEnumerators ∷ [])
    ∷ empty_row ∷ []
-- Attributes, `typeof` and type names (6.7.7)
productions AttributeLists =
    (Nonterminal AttributeList ∷ Do (Append TypePart) ∷ Nonterminal AttributeLists ∷ [])
    ∷ empty_row ∷ []
productions AttributeList =
    (Token AttributeKeyword ∷ Passed LeftParenthesis ∷ Passed LeftParenthesis ∷ Do BeginList ∷ Nonterminal Attribute ∷ Nonterminal FurtherAttributes ∷ Passed RightParenthesis ∷ Passed RightParenthesis ∷ Do MakeAttributeList ∷ []) ∷ []
productions FurtherAttributes =
    (Passed Comma ∷ Nonterminal Attribute ∷ Nonterminal FurtherAttributes ∷ [])
    ∷ empty_row ∷ []
productions Attribute =
    (AttributeWord ∷ Nonterminal AttributeArguments ∷ Do AppendAttribute ∷ [])
    ∷ empty_row ∷ []
productions AttributeArguments =
    (Passed LeftParenthesis ∷ Nonterminal BalancedTokens ∷ Passed RightParenthesis ∷ [])
    ∷ empty_row ∷ []
productions BalancedTokens =
    (Passed LeftParenthesis ∷ Nonterminal BalancedTokens ∷ Passed RightParenthesis ∷ Nonterminal BalancedTokens ∷ [])
    ∷ (PassedAny ∷ Nonterminal BalancedTokens ∷ [])
    ∷ empty_row ∷ []
productions TypeofSpecifier =
    (Token TypeofKeyword ∷ Passed LeftParenthesis ∷ Nonterminal TypeofOperand ∷ Passed RightParenthesis ∷ []) ∷ []
productions TypeofOperand =
    (Nonterminal TypeName ∷ Do (MakeOver kinds.TypeofType TypePart) ∷ [])
    ∷ (Nonterminal Expression ∷ Do (MakeOver kinds.TypeofExpression Unevaluated) ∷ []) ∷ []
productions TypeName =
    (Do BeginAtNext ∷ Nonterminal Specifiers ∷ Do MakeTypeNameSpecifiers ∷ Do RequireType ∷ Nonterminal AnyDeclarator ∷ Do MakeOptionalDeclarator ∷ Do MakeTypeName ∷ []) ∷ []
-- Declarators (6.7.6)
productions Declarator =
    (Do BeginList ∷ Nonterminal Pointers ∷ Nonterminal DirectDeclarator ∷ Do JoinParts ∷ []) ∷ []
productions Pointers =
    (Token Star ∷ Do BeginList ∷ Nonterminal PointerQualifiers ∷ Do (MakeOverList kinds.PointerDeclarator) ∷ Do (Append TypePart) ∷ Nonterminal Pointers ∷ [])
    ∷ empty_row ∷ []
productions PointerQualifiers =
    (Nonterminal TypeQualifier ∷ Do (Append TypePart) ∷ Nonterminal PointerQualifiers ∷ [])
    ∷ (Nonterminal AttributeList ∷ Do (Append TypePart) ∷ Nonterminal PointerQualifiers ∷ [])
    ∷ empty_row ∷ []
productions DirectDeclarator =
    (Name ∷ Do BeginList ∷ Do BeginList ∷ Nonterminal DeclaratorSuffixes ∷ Do JoinSuffixes ∷ [])
    ∷ (Token LeftParenthesis ∷ Do BeginList ∷ Nonterminal AttributeLists ∷ Do MakeParenthesizedAttributes ∷ Nonterminal Declarator ∷ Do JoinParts ∷ Passed RightParenthesis ∷ Do BeginList ∷ Nonterminal DeclaratorSuffixes ∷ Do JoinSuffixes ∷ []) ∷ []
productions DeclaratorSuffixes =
    (Token LeftBracket ∷ Do BeginList ∷ Nonterminal ArraySize ∷ Passed RightBracket ∷ Do (MakeOverList kinds.ArrayDeclarator) ∷ Do (Append TypePart) ∷ Nonterminal DeclaratorSuffixes ∷ [])
    ∷ (Token LeftParenthesis ∷ Do OpenScope ∷ Do BeginList ∷ Nonterminal Parameters ∷ Passed RightParenthesis ∷ Do CloseParameters ∷ Do (MakeOverList kinds.FunctionDeclarator) ∷ Do (Append TypePart) ∷ Nonterminal DeclaratorSuffixes ∷ [])
    ∷ empty_row ∷ []
productions ArraySize =
    empty_row
    ∷ (Nonterminal AssignmentExpression ∷ Do (Append Unevaluated) ∷ []) ∷ []
productions Parameters =
    empty_row
    ∷ (Nonterminal Parameter ∷ Nonterminal FurtherParameters ∷ []) ∷ []
productions FurtherParameters =
    (Passed Comma ∷ Nonterminal ParameterOrEllipsis ∷ [])
    ∷ empty_row ∷ []
productions ParameterOrEllipsis =
    (Token Ellipsis ∷ Do (MakeLeaf kinds.Ellipsis) ∷ Do (Append TypePart) ∷ [])
    ∷ (Nonterminal Parameter ∷ Nonterminal FurtherParameters ∷ []) ∷ []
productions Parameter =
    (Do CountParameter ∷ Do BeginAtNext ∷ Nonterminal Specifiers ∷ Do MakeParameterSpecifiers ∷ Nonterminal AnyDeclarator ∷ Do MakeOptionalDeclarator ∷ Do BindParameter ∷ Nonterminal AttributeLists ∷ Do MakeParameter ∷ Do (Append TypePart) ∷ []) ∷ []
productions AnyDeclarator =
    (Do BeginAtNext ∷ Nonterminal Pointers ∷ Nonterminal AnyDirectDeclarator ∷ Do JoinAnyParts ∷ []) ∷ []
productions AnyDirectDeclarator =
    (Name ∷ Do BeginList ∷ Do BeginList ∷ Nonterminal DeclaratorSuffixes ∷ Do JoinSuffixes ∷ [])
    ∷ (Do BeginAtNext ∷ Do BeginList ∷ Nonterminal DeclaratorSuffixes ∷ Do JoinSuffixes ∷ [])
    ∷ (Token LeftParenthesis ∷ Do BeginList ∷ Nonterminal AttributeLists ∷ Do MakeParenthesizedAttributes ∷ Nonterminal AnyDeclarator ∷ Do JoinParts ∷ Passed RightParenthesis ∷ Do BeginList ∷ Nonterminal DeclaratorSuffixes ∷ Do JoinSuffixes ∷ []) ∷ []
-- Initializers and assertions (6.7.9, 6.7.10)
productions Initializer =
    (Token LeftBrace ∷ Do BeginList ∷ Nonterminal InitializerItems ∷ Passed RightBrace ∷ Do (MakeOverList kinds.BracedInitializer) ∷ [])
    ∷ (Nonterminal AssignmentExpression ∷ []) ∷ []
productions InitializerItems =
    (Nonterminal InitializerItem ∷ Do (Append Evaluated) ∷ Nonterminal FurtherInitializerItems ∷ [])
    ∷ empty_row ∷ []
productions FurtherInitializerItems =
    (Passed Comma ∷ Nonterminal InitializerItems ∷ [])
    ∷ empty_row ∷ []
productions InitializerItem =
    (Do BeginAtNext ∷ Nonterminal Designator ∷ Nonterminal FurtherDesignators ∷ Passed Assign ∷ Nonterminal Initializer ∷ Do MakeInitializerItem ∷ [])
    ∷ (Do BeginAtNext ∷ Nonterminal Initializer ∷ Do MakeInitializerItem ∷ []) ∷ []
productions Designator =
    (Token Dot ∷ Name ∷ Do (MakeNamed kinds.MemberDesignator) ∷ Do (Append Unevaluated) ∷ [])
    ∷ (Token LeftBracket ∷ Nonterminal ConditionalExpression ∷ DesignatorEnd ∷ Do (MakeOver kinds.IndexDesignator Unevaluated) ∷ Do (Append Unevaluated) ∷ []) ∷ []
productions FurtherDesignators =
    (Nonterminal Designator ∷ Nonterminal FurtherDesignators ∷ [])
    ∷ empty_row ∷ []
productions StaticAssertion =
    (Token StaticAssertKeyword ∷ Passed LeftParenthesis ∷ Nonterminal ConditionalExpression ∷ Passed Comma ∷ Nonterminal StringLiterals ∷ Passed RightParenthesis ∷ Passed Semicolon ∷ Do (MakeOverTwo kinds.StaticAssertion Unevaluated Unevaluated) ∷ []) ∷ []
-- Statements (6.8)
productions CompoundStatement =
    (Token LeftBrace ∷ Do OpenBody ∷ Do BeginList ∷ Nonterminal BlockItems ∷ Token RightBrace ∷ Do CloseScope ∷ Do MakeCompoundStatement ∷ []) ∷ []
productions BlockItems =
    (Nonterminal BlockItem ∷ Do (Append Evaluated) ∷ Nonterminal BlockItems ∷ [])
    ∷ empty_row ∷ []
productions BlockItem =
    (Nonterminal Statement ∷ [])
    ∷ (Nonterminal StaticAssertion ∷ [])
    ∷ (Nonterminal Declaration ∷ [])
    ∷ (Nonterminal Statement ∷ []) ∷ []
productions Declaration =
    (Do BeginAtNext ∷ Nonterminal Specifiers ∷ Do MakeBlockSpecifiers ∷ Nonterminal Declarators ∷ []) ∷ []
productions Declarators =
    (Do RequireTypeOrAttributes ∷ Do DeclareTag ∷ Passed Semicolon ∷ Do MakeLoneDeclaration ∷ [])
    ∷ (Do RequireType ∷ Nonterminal Declarator ∷ Do MakeDeclarator ∷ Do BindDeclarator ∷ Do BeginList ∷ Nonterminal AttributeLists ∷ Do NoteFunctionDeclarator ∷ Do BeginDeclarators ∷ Nonterminal OptionalInitializer ∷ Nonterminal FurtherDeclarators ∷ Passed Semicolon ∷ Do MakeDeclaration ∷ []) ∷ []
productions Statement =
    (Name ∷ Passed Colon ∷ Nonterminal Statement ∷ Do MakeLabelStatement ∷ [])
    ∷ (Token CaseKeyword ∷ Nonterminal ConditionalExpression ∷ CaseColon ∷ Nonterminal Statement ∷ Do (MakeOverTwo kinds.CaseStatement Unevaluated Evaluated) ∷ [])
    ∷ (Token DefaultKeyword ∷ Passed Colon ∷ Nonterminal Statement ∷ Do (MakeOver kinds.DefaultStatement Evaluated) ∷ [])
    ∷ (Nonterminal CompoundStatement ∷ [])
    ∷ (Token IfKeyword ∷ Passed LeftParenthesis ∷ Nonterminal Expression ∷ Passed RightParenthesis ∷ Do BeginList ∷ Nonterminal Statement ∷ Do (Append Evaluated) ∷ Nonterminal OptionalElse ∷ Do MakeIfStatement ∷ [])
    ∷ (Token SwitchKeyword ∷ Passed LeftParenthesis ∷ Nonterminal Expression ∷ Passed RightParenthesis ∷ Nonterminal Statement ∷ Do (MakeOverTwo kinds.SwitchStatement Condition Evaluated) ∷ [])
    ∷ (Token WhileKeyword ∷ Passed LeftParenthesis ∷ Nonterminal Expression ∷ Passed RightParenthesis ∷ Nonterminal Statement ∷ Do (MakeOverTwo kinds.WhileStatement Condition Evaluated) ∷ [])
    ∷ (Token DoKeyword ∷ Nonterminal Statement ∷ Token WhileKeyword ∷ Passed LeftParenthesis ∷ Nonterminal Expression ∷ Passed RightParenthesis ∷ Passed Semicolon ∷ Do MakeDoStatement ∷ [])
    ∷ (Token ForKeyword ∷ Do OpenScope ∷ Passed LeftParenthesis ∷ Nonterminal ForInitialization ∷ Do BeginList ∷ Nonterminal OptionalExpression ∷ Token Semicolon ∷ Do MakeForPart ∷ Do BeginList ∷ Nonterminal OptionalExpression ∷ Token RightParenthesis ∷ Do MakeForPart ∷ Nonterminal Statement ∷ Do CloseScope ∷ Do MakeForStatement ∷ [])
    ∷ (Token GotoKeyword ∷ LabelName ∷ Passed Semicolon ∷ Do (MakeNamed kinds.GotoStatement) ∷ [])
    ∷ (Token ContinueKeyword ∷ Passed Semicolon ∷ Do (MakeLeaf kinds.ContinueStatement) ∷ [])
    ∷ (Token BreakKeyword ∷ Passed Semicolon ∷ Do (MakeLeaf kinds.BreakStatement) ∷ [])
    ∷ (Token ReturnKeyword ∷ Do BeginList ∷ Nonterminal OptionalExpression ∷ Passed Semicolon ∷ Do (MakeOverList kinds.ReturnStatement) ∷ [])
    ∷ (Token ContextKeyword ∷ Passed LeftParenthesis ∷ Nonterminal BalancedTokens ∷ Passed RightParenthesis ∷ Passed Semicolon ∷ Do MakeContextStatement ∷ [])
    ∷ (Do BeginAtNext ∷ Nonterminal AttributeList ∷ Do (Append TypePart) ∷ Nonterminal AttributeLists ∷ Passed Semicolon ∷ Do (MakeOverList kinds.AttributeStatement) ∷ [])
    ∷ (Do BeginAtNext ∷ Nonterminal OptionalExpression ∷ Passed Semicolon ∷ Do (MakeOverList kinds.ExpressionStatement) ∷ []) ∷ []
productions OptionalElse =
    (Passed ElseKeyword ∷ Nonterminal Statement ∷ Do (Append Evaluated) ∷ [])
    ∷ empty_row ∷ []
productions ForInitialization =
    (Nonterminal Declaration ∷ [])
    ∷ (Do BeginList ∷ Nonterminal OptionalExpression ∷ Token Semicolon ∷ Do MakeForPart ∷ []) ∷ []
productions OptionalExpression =
    empty_row
    ∷ (Nonterminal Expression ∷ Do (Append Evaluated) ∷ []) ∷ []
-- Expressions (6.5)
productions Expression =
    (Nonterminal AssignmentExpression ∷ Nonterminal CommaTail ∷ []) ∷ []
productions CommaTail =
    (Token Comma ∷ Nonterminal AssignmentExpression ∷ Do (MakeBinary kinds.Comma Evaluated) ∷ Nonterminal CommaTail ∷ [])
    ∷ empty_row ∷ []
productions AssignmentExpression =
    (Nonterminal ConditionalExpression ∷ Nonterminal AssignmentTail ∷ []) ∷ []
productions AssignmentTail =
    (Token Assign ∷ Nonterminal AssignmentExpression ∷ Do (MakeBinary kinds.Assignment Evaluated) ∷ [])
    ∷ (Token StarAssign ∷ Nonterminal AssignmentExpression ∷ Do (MakeBinary kinds.MultiplicationAssignment Evaluated) ∷ [])
    ∷ (Token SlashAssign ∷ Nonterminal AssignmentExpression ∷ Do (MakeBinary kinds.DivisionAssignment Evaluated) ∷ [])
    ∷ (Token PercentAssign ∷ Nonterminal AssignmentExpression ∷ Do (MakeBinary kinds.RemainderAssignment Evaluated) ∷ [])
    ∷ (Token PlusAssign ∷ Nonterminal AssignmentExpression ∷ Do (MakeBinary kinds.AdditionAssignment Evaluated) ∷ [])
    ∷ (Token MinusAssign ∷ Nonterminal AssignmentExpression ∷ Do (MakeBinary kinds.SubtractionAssignment Evaluated) ∷ [])
    ∷ (Token ShiftLeftAssign ∷ Nonterminal AssignmentExpression ∷ Do (MakeBinary kinds.LeftShiftAssignment Evaluated) ∷ [])
    ∷ (Token ShiftRightAssign ∷ Nonterminal AssignmentExpression ∷ Do (MakeBinary kinds.RightShiftAssignment Evaluated) ∷ [])
    ∷ (Token AndAssign ∷ Nonterminal AssignmentExpression ∷ Do (MakeBinary kinds.BitwiseAndAssignment Evaluated) ∷ [])
    ∷ (Token XorAssign ∷ Nonterminal AssignmentExpression ∷ Do (MakeBinary kinds.BitwiseExclusiveOrAssignment Evaluated) ∷ [])
    ∷ (Token OrAssign ∷ Nonterminal AssignmentExpression ∷ Do (MakeBinary kinds.BitwiseOrAssignment Evaluated) ∷ [])
    ∷ empty_row ∷ []
productions ConditionalExpression =
    (Nonterminal LogicalOrExpression ∷ Nonterminal ConditionalTail ∷ []) ∷ []
productions ConditionalTail =
    (Token Question ∷ Do BeginList ∷ Nonterminal MiddleOperand ∷ Passed Colon ∷ Nonterminal ConditionalExpression ∷ Do MakeConditional ∷ [])
    ∷ empty_row ∷ []
productions MiddleOperand =
    empty_row
    ∷ (Nonterminal Expression ∷ Do (Append Evaluated) ∷ []) ∷ []
productions LogicalOrExpression =
    (Nonterminal LogicalAndExpression ∷ Nonterminal LogicalOrTail ∷ []) ∷ []
productions LogicalOrTail =
    (Token OrOr ∷ Nonterminal LogicalAndExpression ∷ Do (MakeBinary kinds.LogicalOr Condition) ∷ Nonterminal LogicalOrTail ∷ [])
    ∷ empty_row ∷ []
productions LogicalAndExpression =
    (Nonterminal InclusiveOrExpression ∷ Nonterminal LogicalAndTail ∷ []) ∷ []
productions LogicalAndTail =
    (Token AndAnd ∷ Nonterminal InclusiveOrExpression ∷ Do (MakeBinary kinds.LogicalAnd Condition) ∷ Nonterminal LogicalAndTail ∷ [])
    ∷ empty_row ∷ []
productions InclusiveOrExpression =
    (Nonterminal ExclusiveOrExpression ∷ Nonterminal InclusiveOrTail ∷ []) ∷ []
productions InclusiveOrTail =
    (Token Bar ∷ Nonterminal ExclusiveOrExpression ∷ Do (MakeBinary kinds.BitwiseOr Evaluated) ∷ Nonterminal InclusiveOrTail ∷ [])
    ∷ empty_row ∷ []
productions ExclusiveOrExpression =
    (Nonterminal AndExpression ∷ Nonterminal ExclusiveOrTail ∷ []) ∷ []
productions ExclusiveOrTail =
    (Token Caret ∷ Nonterminal AndExpression ∷ Do (MakeBinary kinds.BitwiseExclusiveOr Evaluated) ∷ Nonterminal ExclusiveOrTail ∷ [])
    ∷ empty_row ∷ []
productions AndExpression =
    (Nonterminal EqualityExpression ∷ Nonterminal AndTail ∷ []) ∷ []
productions AndTail =
    (Token Ampersand ∷ Nonterminal EqualityExpression ∷ Do (MakeBinary kinds.BitwiseAnd Evaluated) ∷ Nonterminal AndTail ∷ [])
    ∷ empty_row ∷ []
productions EqualityExpression =
    (Nonterminal RelationalExpression ∷ Nonterminal EqualityTail ∷ []) ∷ []
productions EqualityTail =
    (Token EqualEqual ∷ Nonterminal RelationalExpression ∷ Do (MakeBinary kinds.Equal Evaluated) ∷ Nonterminal EqualityTail ∷ [])
    ∷ (Token NotEqual ∷ Nonterminal RelationalExpression ∷ Do (MakeBinary kinds.NotEqual Evaluated) ∷ Nonterminal EqualityTail ∷ [])
    ∷ empty_row ∷ []
productions RelationalExpression =
    (Nonterminal ShiftExpression ∷ Nonterminal RelationalTail ∷ []) ∷ []
productions RelationalTail =
    (Token Less ∷ Nonterminal ShiftExpression ∷ Do (MakeBinary kinds.Less Evaluated) ∷ Nonterminal RelationalTail ∷ [])
    ∷ (Token Greater ∷ Nonterminal ShiftExpression ∷ Do (MakeBinary kinds.Greater Evaluated) ∷ Nonterminal RelationalTail ∷ [])
    ∷ (Token LessEqual ∷ Nonterminal ShiftExpression ∷ Do (MakeBinary kinds.LessOrEqual Evaluated) ∷ Nonterminal RelationalTail ∷ [])
    ∷ (Token GreaterEqual ∷ Nonterminal ShiftExpression ∷ Do (MakeBinary kinds.GreaterOrEqual Evaluated) ∷ Nonterminal RelationalTail ∷ [])
    ∷ empty_row ∷ []
productions ShiftExpression =
    (Nonterminal AdditiveExpression ∷ Nonterminal ShiftTail ∷ []) ∷ []
productions ShiftTail =
    (Token ShiftLeft ∷ Nonterminal AdditiveExpression ∷ Do (MakeBinary kinds.LeftShift Evaluated) ∷ Nonterminal ShiftTail ∷ [])
    ∷ (Token ShiftRight ∷ Nonterminal AdditiveExpression ∷ Do (MakeBinary kinds.RightShift Evaluated) ∷ Nonterminal ShiftTail ∷ [])
    ∷ empty_row ∷ []
productions AdditiveExpression =
    (Nonterminal MultiplicativeExpression ∷ Nonterminal AdditiveTail ∷ []) ∷ []
productions AdditiveTail =
    (Token Plus ∷ Nonterminal MultiplicativeExpression ∷ Do (MakeBinary kinds.Addition Evaluated) ∷ Nonterminal AdditiveTail ∷ [])
    ∷ (Token Minus ∷ Nonterminal MultiplicativeExpression ∷ Do (MakeBinary kinds.Subtraction Evaluated) ∷ Nonterminal AdditiveTail ∷ [])
    ∷ empty_row ∷ []
productions MultiplicativeExpression =
    (Nonterminal CastExpression ∷ Nonterminal MultiplicativeTail ∷ []) ∷ []
productions MultiplicativeTail =
    (Token Star ∷ Nonterminal CastExpression ∷ Do (MakeBinary kinds.Multiplication Evaluated) ∷ Nonterminal MultiplicativeTail ∷ [])
    ∷ (Token Slash ∷ Nonterminal CastExpression ∷ Do (MakeBinary kinds.Division Evaluated) ∷ Nonterminal MultiplicativeTail ∷ [])
    ∷ (Token Percent ∷ Nonterminal CastExpression ∷ Do (MakeBinary kinds.Remainder Evaluated) ∷ Nonterminal MultiplicativeTail ∷ [])
    ∷ empty_row ∷ []
productions CastExpression =
    (Token LeftParenthesis ∷ Nonterminal TypeName ∷ Passed RightParenthesis ∷ Nonterminal CastOperand ∷ [])
    ∷ (Nonterminal UnaryExpression ∷ []) ∷ []
productions CastOperand =
    (Nonterminal BracedInitializer ∷ Do (MakeOverTwo kinds.CompoundLiteral TypePart Evaluated) ∷ Nonterminal PostfixTail ∷ [])
    ∷ (Nonterminal CastExpression ∷ Do (MakeOverTwo kinds.Cast TypePart Evaluated) ∷ []) ∷ []
productions BracedInitializer =
    (Token LeftBrace ∷ Do BeginList ∷ Nonterminal InitializerItems ∷ Passed RightBrace ∷ Do (MakeOverList kinds.BracedInitializer) ∷ []) ∷ []
productions UnaryExpression =
    (Token Ampersand ∷ Nonterminal CastExpression ∷ Do (MakeOver kinds.Address Evaluated) ∷ [])
    ∷ (Token Star ∷ Nonterminal CastExpression ∷ Do (MakeOver kinds.Indirection Evaluated) ∷ [])
    ∷ (Token Plus ∷ Nonterminal CastExpression ∷ Do (MakeOver kinds.UnaryPlus Evaluated) ∷ [])
    ∷ (Token Minus ∷ Nonterminal CastExpression ∷ Do (MakeOver kinds.Negation Evaluated) ∷ [])
    ∷ (Token Tilde ∷ Nonterminal CastExpression ∷ Do (MakeOver kinds.Complement Evaluated) ∷ [])
    ∷ (Token Exclamation ∷ Nonterminal CastExpression ∷ Do (MakeOver kinds.LogicalNot Condition) ∷ [])
    ∷ (Token PlusPlus ∷ Nonterminal UnaryExpression ∷ Do (MakeOver kinds.PreIncrement Evaluated) ∷ [])
    ∷ (Token MinusMinus ∷ Nonterminal UnaryExpression ∷ Do (MakeOver kinds.PreDecrement Evaluated) ∷ [])
    ∷ (Token SizeofKeyword ∷ Nonterminal SizeofOperand ∷ [])
    ∷ (Token AlignofKeyword ∷ Passed LeftParenthesis ∷ Nonterminal TypeName ∷ Passed RightParenthesis ∷ Do (MakeOver kinds.AlignofType TypePart) ∷ [])
    ∷ (Nonterminal PrimaryExpression ∷ Nonterminal PostfixTail ∷ []) ∷ []
productions SizeofOperand =
    (Token LeftParenthesis ∷ Nonterminal TypeName ∷ Passed RightParenthesis ∷ Nonterminal SizeofTypeEnd ∷ [])
    ∷ (Nonterminal UnaryExpression ∷ Do (MakeOver kinds.SizeofExpression Unevaluated) ∷ []) ∷ []
productions SizeofTypeEnd =
    (Nonterminal BracedInitializer ∷ Do (MakeOverTwo kinds.CompoundLiteral TypePart Evaluated) ∷ Nonterminal PostfixTail ∷ Do (MakeOver kinds.SizeofExpression Unevaluated) ∷ [])
    ∷ (Do MakeSizeofType ∷ []) ∷ []
productions PostfixTail =
    (Token LeftBracket ∷ Nonterminal Expression ∷ Passed RightBracket ∷ Do (MakeBinary kinds.Subscript Evaluated) ∷ Nonterminal PostfixTail ∷ [])
    ∷ (Token LeftParenthesis ∷ Do BeginList ∷ Nonterminal Arguments ∷ Passed RightParenthesis ∷ Do MakeCall ∷ Nonterminal PostfixTail ∷ [])
    ∷ (Token Dot ∷ Name ∷ Do (MakeMember kinds.Member) ∷ Nonterminal PostfixTail ∷ [])
    ∷ (Token Arrow ∷ Name ∷ Do (MakeMember kinds.PointerMember) ∷ Nonterminal PostfixTail ∷ [])
    ∷ (Token PlusPlus ∷ Do (MakePostfix kinds.PostIncrement) ∷ Nonterminal PostfixTail ∷ [])
    ∷ (Token MinusMinus ∷ Do (MakePostfix kinds.PostDecrement) ∷ Nonterminal PostfixTail ∷ [])
    ∷ empty_row ∷ []
productions Arguments =
    empty_row
    ∷ (Do CountParameter ∷ Nonterminal AssignmentExpression ∷ Do (Append Evaluated) ∷ Nonterminal FurtherArguments ∷ []) ∷ []
productions FurtherArguments =
    (Passed Comma ∷ Do CountParameter ∷ Nonterminal AssignmentExpression ∷ Do (Append Evaluated) ∷ Nonterminal FurtherArguments ∷ [])
    ∷ empty_row ∷ []
productions PrimaryExpression =
    (Token Identifier ∷ Do UseName ∷ [])
    ∷ (Token Number ∷ Do MakeIntegerConstant ∷ [])
    ∷ (Token Character ∷ Do MakeCharacterConstant ∷ [])
    ∷ (Nonterminal StringLiterals ∷ [])
    ∷ (Token LeftParenthesis ∷ Nonterminal ParenthesizedExpression ∷ [])
    ∷ (Token BuiltinExpectKeyword ∷ Passed LeftParenthesis ∷ Nonterminal AssignmentExpression ∷ Passed Comma ∷ Nonterminal AssignmentExpression ∷ Passed RightParenthesis ∷ Do (MakeOverTwo kinds.BuiltinExpect Evaluated Evaluated) ∷ [])
    ∷ (Token BuiltinOffsetofKeyword ∷ Passed LeftParenthesis ∷ Nonterminal TypeName ∷ Passed Comma ∷ Name ∷ Do BeginList ∷ Nonterminal OffsetofDesignators ∷ Passed RightParenthesis ∷ Do MakeBuiltinOffsetof ∷ []) ∷ []
productions OffsetofDesignators =
    (Token Dot ∷ Name ∷ Do (MakeNamed kinds.MemberDesignator) ∷ Do (Append Unevaluated) ∷ Nonterminal OffsetofDesignators ∷ [])
    ∷ (Token LeftBracket ∷ Nonterminal Expression ∷ Passed RightBracket ∷ Do (MakeOver kinds.IndexDesignator Unevaluated) ∷ Do (Append Unevaluated) ∷ Nonterminal OffsetofDesignators ∷ [])
    ∷ empty_row ∷ []
productions ParenthesizedExpression =
    (Nonterminal CompoundStatement ∷ Passed RightParenthesis ∷ Do (MakeOver kinds.StatementExpression Evaluated) ∷ [])
    ∷ (Nonterminal Expression ∷ Passed RightParenthesis ∷ Do (MakeOver kinds.Parenthesized Evaluated) ∷ []) ∷ []
productions StringLiterals =
    (Do BeginAtNext ∷ Token String ∷ Do MakeStringPiece ∷ Do (Append Evaluated) ∷ Nonterminal FurtherStringLiterals ∷ Do MakeStringLiteral ∷ []) ∷ []
productions FurtherStringLiterals =
    (Token String ∷ Do MakeStringPiece ∷ Do (Append Evaluated) ∷ Nonterminal FurtherStringLiterals ∷ [])
    ∷ empty_row ∷ []

-- what a unit is: its declarations and functions up to the end
abbrev pub start : List ProductionItem
start = Do BeginList ∷ Nonterminal ExternalDeclarations ∷ Do MakeTranslationUnit ∷ Passed End ∷ []
