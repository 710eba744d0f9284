-- Which row of a symbol the next two tokens choose: the look of each row, in order.
use Rattle.std.specs.Prelude.{Bool, not, ◌&&◌, ◌||◌, List, [], ◌∷◌, ◌++◌}
use Rattle.vocabulary.specs.declared.token_class.TokenClass.{TokenClass}
use Rattle.vocabulary.specs.declared.token_class.TokenClass.TheVariants.{LeftBracket, RightBracket, LeftParenthesis, RightParenthesis, LeftBrace, RightBrace, Dot, Arrow, PlusPlus, MinusMinus, Ampersand, Star, Plus, Minus, Tilde, Exclamation, Slash, Percent, ShiftLeft, ShiftRight, Less, Greater, LessEqual, GreaterEqual, EqualEqual, NotEqual, Caret, Bar, AndAnd, OrOr, Question, Colon, Semicolon, Ellipsis, Assign, StarAssign, SlashAssign, PercentAssign, PlusAssign, MinusAssign, ShiftLeftAssign, ShiftRightAssign, AndAssign, XorAssign, OrAssign, Comma, TypedefKeyword, ExternKeyword, StaticKeyword, AutoKeyword, RegisterKeyword, InlineKeyword, NoreturnKeyword, ConstKeyword, VolatileKeyword, RestrictKeyword, VoidKeyword, CharKeyword, ShortKeyword, IntKeyword, LongKeyword, SignedKeyword, UnsignedKeyword, BoolKeyword, StructKeyword, UnionKeyword, EnumKeyword, TypeofKeyword, AttributeKeyword, StaticAssertKeyword, CaseKeyword, DefaultKeyword, IfKeyword, ElseKeyword, SwitchKeyword, WhileKeyword, DoKeyword, ForKeyword, GotoKeyword, ContinueKeyword, BreakKeyword, ReturnKeyword, ContextKeyword, SizeofKeyword, AlignofKeyword, BuiltinExpectKeyword, BuiltinOffsetofKeyword, Identifier, TypedefName, Number, Character, String, RefusedString, End}
use Rattle.vocabulary.specs.declared.symbol.Symbol.{Symbol}
use Rattle.vocabulary.specs.declared.symbol.Symbol.TheVariants.{ExternalDeclarations, ExternalDeclaration, ExternalDeclarators, BodyOrDeclarators, OptionalInitializer, FurtherDeclarators, Specifiers, SpecifiersBehindType, StorageClassSpecifier, TypeQualifier, TypeWord, StructOrUnionSpecifier, TagOrMembers, MembersBehindTag, MemberDeclarations, MemberDeclaration, MemberDeclarators, FurtherMemberDeclarators, MemberDeclarator, OptionalWidth, EnumSpecifier, TagOrEnumerators, EnumeratorsBehindTag, Enumerator, OptionalEnumeratorValue, FurtherEnumerators, EnumeratorsBehindComma, AttributeLists, AttributeList, FurtherAttributes, Attribute, AttributeArguments, BalancedTokens, TypeofSpecifier, TypeofOperand, TypeName, Declarator, Pointers, PointerQualifiers, DirectDeclarator, DeclaratorSuffixes, ArraySize, Parameters, FurtherParameters, ParameterOrEllipsis, Parameter, AnyDeclarator, AnyDirectDeclarator, Initializer, InitializerItems, FurtherInitializerItems, InitializerItem, Designator, FurtherDesignators, StaticAssertion, CompoundStatement, BlockItems, BlockItem, Declaration, Declarators, Statement, OptionalElse, ForInitialization, OptionalExpression, Expression, CommaTail, AssignmentExpression, AssignmentTail, ConditionalExpression, ConditionalTail, MiddleOperand, LogicalOrExpression, LogicalOrTail, LogicalAndExpression, LogicalAndTail, InclusiveOrExpression, InclusiveOrTail, ExclusiveOrExpression, ExclusiveOrTail, AndExpression, AndTail, EqualityExpression, EqualityTail, RelationalExpression, RelationalTail, ShiftExpression, ShiftTail, AdditiveExpression, AdditiveTail, MultiplicativeExpression, MultiplicativeTail, CastExpression, CastOperand, BracedInitializer, UnaryExpression, SizeofOperand, SizeofTypeEnd, PostfixTail, Arguments, FurtherArguments, PrimaryExpression, OffsetofDesignators, ParenthesizedExpression, StringLiterals, FurtherStringLiterals}
use Rattle.meaning_grammar.specs.Classes.{is_same, is_among}
use Rattle.meaning_grammar.specs.ClassLists.{names, storage_classes, type_qualifiers, type_words, keyword_type_start, type_start, declarator_start, any_declarator_start, plain_operand_start, expression_start, other_statement_start, assignment_operators, attribute_words}

-- What the next two tokens are like, by their classes
pub data Look : Type 0 where
  -- the next is one of these
  Begins : List TokenClass → Look
  -- the next is none of these
  Without : List TokenClass → Look
  -- the next is this, and the one behind it one of these
  Then : TokenClass → List TokenClass → Look
  -- the next is this, and the one behind it none of these
  ThenNot : TokenClass → List TokenClass → Look
  -- one of the two holds
  Either : Look → Look → Look

-- the look holds at these two
abbrev pub look_holds : Look → TokenClass → TokenClass → Bool
look_holds (Begins classes) first second = is_among classes first
look_holds (Without classes) first second = not (is_among classes first)
look_holds (Then class_ seconds) first second = is_same class_ first && is_among seconds second
look_holds (ThenNot class_ seconds) first second = is_same class_ first && not (is_among seconds second)
look_holds (Either look other) first second = look_holds look first second || look_holds other first second

-- The look of each row of a symbol. A row is taken where the next token can begin it. A row that may be empty is taken
-- where no other row of the symbol is; where it has parts, or where the grammar says so, only before what can follow.
abbrev pub looks : Symbol → List Look
-- Units and declarations (C11 6.7, 6.9)
looks ExternalDeclarations =
    Begins (Semicolon ∷ StaticAssertKeyword ∷ type_start ++ declarator_start)
    ∷ Without (Semicolon ∷ StaticAssertKeyword ∷ type_start ++ declarator_start) ∷ []
looks ExternalDeclaration =
    Begins (Semicolon ∷ [])
    ∷ Begins (StaticAssertKeyword ∷ [])
    ∷ Begins (type_start ++ declarator_start) ∷ []
looks ExternalDeclarators =
    Begins (Semicolon ∷ [])
    ∷ Begins declarator_start ∷ []
looks BodyOrDeclarators =
    Begins (LeftBrace ∷ [])
    ∷ Begins (Assign ∷ Comma ∷ Semicolon ∷ []) ∷ []
looks OptionalInitializer =
    Begins (Assign ∷ [])
    ∷ Without (Assign ∷ []) ∷ []
looks FurtherDeclarators =
    Begins (Comma ∷ [])
    ∷ Without (Comma ∷ []) ∷ []
-- Specifiers (6.7.1 to 6.7.4)
looks Specifiers =
    Begins storage_classes
    ∷ Begins type_qualifiers
    ∷ Begins (AttributeKeyword ∷ [])
    ∷ Begins type_words
    ∷ Begins (StructKeyword ∷ UnionKeyword ∷ [])
    ∷ Begins (EnumKeyword ∷ [])
    ∷ Begins (TypeofKeyword ∷ [])
    ∷ Begins (TypedefName ∷ [])
    ∷ Without type_start ∷ []
looks SpecifiersBehindType =
    Begins storage_classes
    ∷ Begins type_qualifiers
    ∷ Begins (AttributeKeyword ∷ [])
    ∷ Begins type_words
    ∷ Without (storage_classes ++ type_qualifiers ++ AttributeKeyword ∷ type_words) ∷ []
looks StorageClassSpecifier =
    Begins (TypedefKeyword ∷ [])
    ∷ Begins (ExternKeyword ∷ [])
    ∷ Begins (StaticKeyword ∷ [])
    ∷ Begins (AutoKeyword ∷ [])
    ∷ Begins (RegisterKeyword ∷ [])
    ∷ Begins (InlineKeyword ∷ [])
    ∷ Begins (NoreturnKeyword ∷ []) ∷ []
looks TypeQualifier =
    Begins (ConstKeyword ∷ [])
    ∷ Begins (VolatileKeyword ∷ [])
    ∷ Begins (RestrictKeyword ∷ []) ∷ []
looks TypeWord =
    Begins (VoidKeyword ∷ [])
    ∷ Begins (CharKeyword ∷ [])
    ∷ Begins (ShortKeyword ∷ [])
    ∷ Begins (IntKeyword ∷ [])
    ∷ Begins (LongKeyword ∷ [])
    ∷ Begins (SignedKeyword ∷ [])
    ∷ Begins (UnsignedKeyword ∷ [])
    ∷ Begins (BoolKeyword ∷ []) ∷ []
looks StructOrUnionSpecifier =
    Begins (StructKeyword ∷ [])
    ∷ Begins (UnionKeyword ∷ []) ∷ []
looks TagOrMembers =
    Begins names
    ∷ Begins (LeftBrace ∷ []) ∷ []
looks MembersBehindTag =
    Begins (LeftBrace ∷ [])
    ∷ Without (LeftBrace ∷ []) ∷ []
-- Members and enumerators (6.7.2.1, 6.7.2.2)
looks MemberDeclarations =
    Begins (Semicolon ∷ StaticAssertKeyword ∷ Colon ∷ type_start ++ declarator_start)
    ∷ Without (Semicolon ∷ StaticAssertKeyword ∷ Colon ∷ type_start ++ declarator_start) ∷ []
looks MemberDeclaration =
    Begins (Semicolon ∷ [])
    ∷ Begins (StaticAssertKeyword ∷ [])
    ∷ Begins (Colon ∷ type_start ++ declarator_start) ∷ []
looks MemberDeclarators =
    Begins (Colon ∷ declarator_start)
    ∷ Without (Colon ∷ declarator_start) ∷ []
looks FurtherMemberDeclarators =
    Begins (Comma ∷ [])
    ∷ Without (Comma ∷ []) ∷ []
looks MemberDeclarator =
    Begins (Colon ∷ [])
    ∷ Begins declarator_start ∷ []
looks OptionalWidth =
    Begins (Colon ∷ [])
    ∷ Without (Colon ∷ []) ∷ []
looks EnumSpecifier =
    Begins (EnumKeyword ∷ []) ∷ []
looks TagOrEnumerators =
    Begins names
    ∷ Begins (LeftBrace ∷ []) ∷ []
looks EnumeratorsBehindTag =
    Begins (LeftBrace ∷ [])
    ∷ Without (LeftBrace ∷ []) ∷ []
looks Enumerator =
    Begins names ∷ []
looks OptionalEnumeratorValue =
    Begins (Assign ∷ [])
    ∷ Without (Assign ∷ []) ∷ []
looks FurtherEnumerators =
    Begins (Comma ∷ [])
    ∷ Without (Comma ∷ []) ∷ []
looks EnumeratorsBehindComma =
    Begins names
    ∷ Without names ∷ []
-- Attributes, `typeof` and type names (6.7.7)
looks AttributeLists =
    Begins (AttributeKeyword ∷ [])
    ∷ Without (AttributeKeyword ∷ []) ∷ []
looks AttributeList =
    Begins (AttributeKeyword ∷ []) ∷ []
looks FurtherAttributes =
    Begins (Comma ∷ [])
    ∷ Without (Comma ∷ []) ∷ []
looks Attribute =
    Begins attribute_words
    ∷ Without attribute_words ∷ []
looks AttributeArguments =
    Begins (LeftParenthesis ∷ [])
    ∷ Without (LeftParenthesis ∷ []) ∷ []
looks BalancedTokens =
    Begins (LeftParenthesis ∷ [])
    ∷ Without (LeftParenthesis ∷ RightParenthesis ∷ End ∷ [])
    ∷ Begins (RightParenthesis ∷ []) ∷ []
looks TypeofSpecifier =
    Begins (TypeofKeyword ∷ []) ∷ []
looks TypeofOperand =
    Begins type_start
    ∷ Begins expression_start ∷ []
looks TypeName =
    Begins (type_start ++ any_declarator_start ++ RightParenthesis ∷ Comma ∷ []) ∷ []
-- Declarators (6.7.6)
looks Declarator =
    Begins declarator_start ∷ []
looks Pointers =
    Begins (Star ∷ [])
    ∷ Without (Star ∷ []) ∷ []
looks PointerQualifiers =
    Begins type_qualifiers
    ∷ Begins (AttributeKeyword ∷ [])
    ∷ Without (type_qualifiers ++ AttributeKeyword ∷ []) ∷ []
looks DirectDeclarator =
    Begins names
    ∷ Begins (LeftParenthesis ∷ []) ∷ []
looks DeclaratorSuffixes =
    Begins (LeftBracket ∷ [])
    ∷ Begins (LeftParenthesis ∷ [])
    ∷ Without (LeftBracket ∷ LeftParenthesis ∷ []) ∷ []
looks ArraySize =
    Begins (RightBracket ∷ [])
    ∷ Begins expression_start ∷ []
looks Parameters =
    Begins (RightParenthesis ∷ [])
    ∷ Begins (type_start ++ any_declarator_start ++ Comma ∷ []) ∷ []
looks FurtherParameters =
    Begins (Comma ∷ [])
    ∷ Without (Comma ∷ []) ∷ []
looks ParameterOrEllipsis =
    Begins (Ellipsis ∷ [])
    ∷ Begins (type_start ++ any_declarator_start ++ RightParenthesis ∷ Comma ∷ []) ∷ []
looks Parameter =
    Begins (type_start ++ any_declarator_start ++ RightParenthesis ∷ Comma ∷ []) ∷ []
looks AnyDeclarator =
    Begins (any_declarator_start ++ AttributeKeyword ∷ RightParenthesis ∷ Comma ∷ []) ∷ []
looks AnyDirectDeclarator =
    Begins names
    ∷ Either (Then LeftParenthesis (RightParenthesis ∷ keyword_type_start ++ TypedefName ∷ [])) (Without (LeftParenthesis ∷ names))
    ∷ ThenNot LeftParenthesis (RightParenthesis ∷ keyword_type_start ++ TypedefName ∷ []) ∷ []
-- Initializers and assertions (6.7.9, 6.7.10)
looks Initializer =
    Begins (LeftBrace ∷ [])
    ∷ Begins expression_start ∷ []
looks InitializerItems =
    Begins (Dot ∷ LeftBracket ∷ LeftBrace ∷ expression_start)
    ∷ Begins (RightBrace ∷ []) ∷ []
looks FurtherInitializerItems =
    Begins (Comma ∷ [])
    ∷ Without (Comma ∷ []) ∷ []
looks InitializerItem =
    Begins (Dot ∷ LeftBracket ∷ [])
    ∷ Begins (LeftBrace ∷ expression_start) ∷ []
looks Designator =
    Begins (Dot ∷ [])
    ∷ Begins (LeftBracket ∷ []) ∷ []
looks FurtherDesignators =
    Begins (Dot ∷ LeftBracket ∷ [])
    ∷ Without (Dot ∷ LeftBracket ∷ []) ∷ []
looks StaticAssertion =
    Begins (StaticAssertKeyword ∷ []) ∷ []
-- Statements (6.8)
looks CompoundStatement =
    Begins (LeftBrace ∷ []) ∷ []
looks BlockItems =
    Begins (StaticAssertKeyword ∷ type_start ++ Identifier ∷ other_statement_start)
    ∷ Begins (RightBrace ∷ []) ∷ []
looks BlockItem =
    Either (Then Identifier (Colon ∷ [])) (Then TypedefName (Colon ∷ []))
    ∷ Begins (StaticAssertKeyword ∷ [])
    ∷ Either (Begins (keyword_type_start ++ AttributeKeyword ∷ [])) (ThenNot TypedefName (Colon ∷ []))
    ∷ Either (Begins other_statement_start) (ThenNot Identifier (Colon ∷ [])) ∷ []
looks Declaration =
    Begins (Semicolon ∷ type_start ++ declarator_start) ∷ []
looks Declarators =
    Begins (Semicolon ∷ [])
    ∷ Begins declarator_start ∷ []
looks Statement =
    Either (Then Identifier (Colon ∷ [])) (Begins (TypedefName ∷ []))
    ∷ Begins (CaseKeyword ∷ [])
    ∷ Begins (DefaultKeyword ∷ [])
    ∷ Begins (LeftBrace ∷ [])
    ∷ Begins (IfKeyword ∷ [])
    ∷ Begins (SwitchKeyword ∷ [])
    ∷ Begins (WhileKeyword ∷ [])
    ∷ Begins (DoKeyword ∷ [])
    ∷ Begins (ForKeyword ∷ [])
    ∷ Begins (GotoKeyword ∷ [])
    ∷ Begins (ContinueKeyword ∷ [])
    ∷ Begins (BreakKeyword ∷ [])
    ∷ Begins (ReturnKeyword ∷ [])
    ∷ Begins (ContextKeyword ∷ [])
    ∷ Begins (AttributeKeyword ∷ [])
    ∷ Either (Begins (Semicolon ∷ LeftParenthesis ∷ plain_operand_start)) (ThenNot Identifier (Colon ∷ [])) ∷ []
looks OptionalElse =
    Begins (ElseKeyword ∷ [])
    ∷ Without (ElseKeyword ∷ []) ∷ []
looks ForInitialization =
    Begins type_start
    ∷ Begins (Semicolon ∷ expression_start) ∷ []
looks OptionalExpression =
    Begins (Semicolon ∷ RightParenthesis ∷ [])
    ∷ Begins expression_start ∷ []
-- Expressions (6.5)
looks Expression =
    Begins expression_start ∷ []
looks CommaTail =
    Begins (Comma ∷ [])
    ∷ Without (Comma ∷ []) ∷ []
looks AssignmentExpression =
    Begins expression_start ∷ []
looks AssignmentTail =
    Begins (Assign ∷ [])
    ∷ Begins (StarAssign ∷ [])
    ∷ Begins (SlashAssign ∷ [])
    ∷ Begins (PercentAssign ∷ [])
    ∷ Begins (PlusAssign ∷ [])
    ∷ Begins (MinusAssign ∷ [])
    ∷ Begins (ShiftLeftAssign ∷ [])
    ∷ Begins (ShiftRightAssign ∷ [])
    ∷ Begins (AndAssign ∷ [])
    ∷ Begins (XorAssign ∷ [])
    ∷ Begins (OrAssign ∷ [])
    ∷ Without assignment_operators ∷ []
looks ConditionalExpression =
    Begins expression_start ∷ []
looks ConditionalTail =
    Begins (Question ∷ [])
    ∷ Without (Question ∷ []) ∷ []
looks MiddleOperand =
    Begins (Colon ∷ [])
    ∷ Begins expression_start ∷ []
looks LogicalOrExpression =
    Begins expression_start ∷ []
looks LogicalOrTail =
    Begins (OrOr ∷ [])
    ∷ Without (OrOr ∷ []) ∷ []
looks LogicalAndExpression =
    Begins expression_start ∷ []
looks LogicalAndTail =
    Begins (AndAnd ∷ [])
    ∷ Without (AndAnd ∷ []) ∷ []
looks InclusiveOrExpression =
    Begins expression_start ∷ []
looks InclusiveOrTail =
    Begins (Bar ∷ [])
    ∷ Without (Bar ∷ []) ∷ []
looks ExclusiveOrExpression =
    Begins expression_start ∷ []
looks ExclusiveOrTail =
    Begins (Caret ∷ [])
    ∷ Without (Caret ∷ []) ∷ []
looks AndExpression =
    Begins expression_start ∷ []
looks AndTail =
    Begins (Ampersand ∷ [])
    ∷ Without (Ampersand ∷ []) ∷ []
looks EqualityExpression =
    Begins expression_start ∷ []
looks EqualityTail =
    Begins (EqualEqual ∷ [])
    ∷ Begins (NotEqual ∷ [])
    ∷ Without (EqualEqual ∷ NotEqual ∷ []) ∷ []
looks RelationalExpression =
    Begins expression_start ∷ []
looks RelationalTail =
    Begins (Less ∷ [])
    ∷ Begins (Greater ∷ [])
    ∷ Begins (LessEqual ∷ [])
    ∷ Begins (GreaterEqual ∷ [])
    ∷ Without (Less ∷ Greater ∷ LessEqual ∷ GreaterEqual ∷ []) ∷ []
looks ShiftExpression =
    Begins expression_start ∷ []
looks ShiftTail =
    Begins (ShiftLeft ∷ [])
    ∷ Begins (ShiftRight ∷ [])
    ∷ Without (ShiftLeft ∷ ShiftRight ∷ []) ∷ []
looks AdditiveExpression =
    Begins expression_start ∷ []
looks AdditiveTail =
    Begins (Plus ∷ [])
    ∷ Begins (Minus ∷ [])
    ∷ Without (Plus ∷ Minus ∷ []) ∷ []
looks MultiplicativeExpression =
    Begins expression_start ∷ []
looks MultiplicativeTail =
    Begins (Star ∷ [])
    ∷ Begins (Slash ∷ [])
    ∷ Begins (Percent ∷ [])
    ∷ Without (Star ∷ Slash ∷ Percent ∷ []) ∷ []
looks CastExpression =
    Then LeftParenthesis type_start
    ∷ Either (Begins (Identifier ∷ plain_operand_start)) (ThenNot LeftParenthesis type_start) ∷ []
looks CastOperand =
    Begins (LeftBrace ∷ [])
    ∷ Begins expression_start ∷ []
looks BracedInitializer =
    Begins (LeftBrace ∷ []) ∷ []
looks UnaryExpression =
    Begins (Ampersand ∷ [])
    ∷ Begins (Star ∷ [])
    ∷ Begins (Plus ∷ [])
    ∷ Begins (Minus ∷ [])
    ∷ Begins (Tilde ∷ [])
    ∷ Begins (Exclamation ∷ [])
    ∷ Begins (PlusPlus ∷ [])
    ∷ Begins (MinusMinus ∷ [])
    ∷ Begins (SizeofKeyword ∷ [])
    ∷ Begins (AlignofKeyword ∷ [])
    ∷ Begins (Identifier ∷ Number ∷ Character ∷ String ∷ LeftParenthesis ∷ BuiltinExpectKeyword ∷ BuiltinOffsetofKeyword ∷ []) ∷ []
looks SizeofOperand =
    Then LeftParenthesis type_start
    ∷ Either (Begins (Identifier ∷ plain_operand_start)) (ThenNot LeftParenthesis type_start) ∷ []
looks SizeofTypeEnd =
    Begins (LeftBrace ∷ [])
    ∷ Without (LeftBrace ∷ []) ∷ []
looks PostfixTail =
    Begins (LeftBracket ∷ [])
    ∷ Begins (LeftParenthesis ∷ [])
    ∷ Begins (Dot ∷ [])
    ∷ Begins (Arrow ∷ [])
    ∷ Begins (PlusPlus ∷ [])
    ∷ Begins (MinusMinus ∷ [])
    ∷ Without (LeftBracket ∷ LeftParenthesis ∷ Dot ∷ Arrow ∷ PlusPlus ∷ MinusMinus ∷ []) ∷ []
looks Arguments =
    Begins (RightParenthesis ∷ [])
    ∷ Begins expression_start ∷ []
looks FurtherArguments =
    Begins (Comma ∷ [])
    ∷ Without (Comma ∷ []) ∷ []
looks PrimaryExpression =
    Begins (Identifier ∷ [])
    ∷ Begins (Number ∷ [])
    ∷ Begins (Character ∷ [])
    ∷ Begins (String ∷ [])
    ∷ Begins (LeftParenthesis ∷ [])
    ∷ Begins (BuiltinExpectKeyword ∷ [])
    ∷ Begins (BuiltinOffsetofKeyword ∷ []) ∷ []
looks OffsetofDesignators =
    Begins (Dot ∷ [])
    ∷ Begins (LeftBracket ∷ [])
    ∷ Without (Dot ∷ LeftBracket ∷ []) ∷ []
looks ParenthesizedExpression =
    Begins (LeftBrace ∷ [])
    ∷ Begins expression_start ∷ []
looks StringLiterals =
    Begins (String ∷ []) ∷ []
looks FurtherStringLiterals =
    Begins (String ∷ [])
    ∷ Without (String ∷ RefusedString ∷ []) ∷ []
