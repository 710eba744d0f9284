-- The classes of tokens with which what a symbol derives can begin.
use Rattle.std.specs.Prelude.{Bool, false, ◌||◌, List, [], ◌∷◌, ◌++◌, if◌then◌else◌}
use Rattle.std.specs.List.{filter}
use Rattle.vocabulary.specs.declared.token_class.TokenClass.{TokenClass}
use Rattle.vocabulary.specs.declared.token_class.TokenClass.TheVariants.{LeftBracket, LeftParenthesis, LeftBrace, Dot, Arrow, PlusPlus, MinusMinus, Ampersand, Star, Plus, Minus, Slash, Percent, ShiftLeft, ShiftRight, Less, Greater, LessEqual, GreaterEqual, EqualEqual, NotEqual, Caret, Bar, AndAnd, OrOr, Question, Colon, Semicolon, Ellipsis, Assign, Comma, StructKeyword, UnionKeyword, EnumKeyword, TypeofKeyword, AttributeKeyword, StaticAssertKeyword, ElseKeyword, BuiltinExpectKeyword, BuiltinOffsetofKeyword, Identifier, Number, Character, String}
use Rattle.vocabulary.specs.declared.symbol.Symbol.{Symbol}
use Rattle.vocabulary.specs.declared.symbol.Symbol.TheVariants.{ExternalDeclarations, ExternalDeclaration, ExternalDeclarators, BodyOrDeclarators, OptionalInitializer, FurtherDeclarators, Specifiers, SpecifiersBehindType, StorageClassSpecifier, TypeQualifier, TypeWord, StructOrUnionSpecifier, TagOrMembers, MembersBehindTag, MemberDeclarations, MemberDeclaration, MemberDeclarators, FurtherMemberDeclarators, MemberDeclarator, OptionalWidth, EnumSpecifier, TagOrEnumerators, EnumeratorsBehindTag, Enumerator, OptionalEnumeratorValue, FurtherEnumerators, EnumeratorsBehindComma, AttributeLists, AttributeList, FurtherAttributes, Attribute, AttributeArguments, BalancedTokens, TypeofSpecifier, TypeofOperand, TypeName, Declarator, Pointers, PointerQualifiers, DirectDeclarator, DeclaratorSuffixes, ArraySize, Parameters, FurtherParameters, ParameterOrEllipsis, Parameter, AnyDeclarator, AnyDirectDeclarator, Initializer, InitializerItems, FurtherInitializerItems, InitializerItem, Designator, FurtherDesignators, StaticAssertion, CompoundStatement, BlockItems, BlockItem, Declaration, Declarators, Statement, OptionalElse, ForInitialization, OptionalExpression, Expression, CommaTail, AssignmentExpression, AssignmentTail, ConditionalExpression, ConditionalTail, MiddleOperand, LogicalOrExpression, LogicalOrTail, LogicalAndExpression, LogicalAndTail, InclusiveOrExpression, InclusiveOrTail, ExclusiveOrExpression, ExclusiveOrTail, AndExpression, AndTail, EqualityExpression, EqualityTail, RelationalExpression, RelationalTail, ShiftExpression, ShiftTail, AdditiveExpression, AdditiveTail, MultiplicativeExpression, MultiplicativeTail, CastExpression, CastOperand, BracedInitializer, UnaryExpression, SizeofOperand, SizeofTypeEnd, PostfixTail, Arguments, FurtherArguments, PrimaryExpression, OffsetofDesignators, ParenthesizedExpression, StringLiterals, FurtherStringLiterals}
use Rattle.vocabulary.specs.declared.production_item.ProductionItem.{ProductionItem}
use Rattle.vocabulary.specs.declared.production_item.ProductionItem.TheVariants.{Nonterminal}
use Rattle.meaning_grammar.specs.Classes.{all_token_classes, is_among}
use Rattle.meaning_grammar.specs.ClassLists.{names, storage_classes, type_qualifiers, type_words, type_start, declarator_start, expression_start, statement_keywords, assignment_operators, attribute_words}
use Rattle.meaning_grammar.specs.Items.{is_passed_over, takes}
use Rattle.meaning_grammar.specs.Weights.{is_nullable}

-- with which what a symbol derives can begin, whatever stands behind
abbrev pub beginnings : Symbol → List TokenClass
-- Units and declarations (C11 6.7, 6.9)
beginnings ExternalDeclarations = Semicolon ∷ StaticAssertKeyword ∷ type_start ++ declarator_start
beginnings ExternalDeclaration = Semicolon ∷ StaticAssertKeyword ∷ type_start ++ declarator_start
beginnings ExternalDeclarators = Semicolon ∷ declarator_start
beginnings BodyOrDeclarators = LeftBrace ∷ Semicolon ∷ Assign ∷ Comma ∷ []
beginnings OptionalInitializer = Assign ∷ []
beginnings FurtherDeclarators = Comma ∷ []
-- Specifiers (6.7.1 to 6.7.4)
beginnings Specifiers = type_start
beginnings SpecifiersBehindType = AttributeKeyword ∷ storage_classes ++ type_qualifiers ++ type_words
beginnings StorageClassSpecifier = storage_classes
beginnings TypeQualifier = type_qualifiers
beginnings TypeWord = type_words
beginnings StructOrUnionSpecifier = StructKeyword ∷ UnionKeyword ∷ []
beginnings TagOrMembers = LeftBrace ∷ names
beginnings MembersBehindTag = LeftBrace ∷ []
-- Members and enumerators (6.7.2.1, 6.7.2.2)
beginnings MemberDeclarations = Colon ∷ Semicolon ∷ StaticAssertKeyword ∷ type_start ++ declarator_start
beginnings MemberDeclaration = Colon ∷ Semicolon ∷ StaticAssertKeyword ∷ type_start ++ declarator_start
beginnings MemberDeclarators = Colon ∷ declarator_start
beginnings FurtherMemberDeclarators = Comma ∷ []
beginnings MemberDeclarator = Colon ∷ declarator_start
beginnings OptionalWidth = Colon ∷ []
beginnings EnumSpecifier = EnumKeyword ∷ []
beginnings TagOrEnumerators = LeftBrace ∷ names
beginnings EnumeratorsBehindTag = LeftBrace ∷ []
beginnings Enumerator = names
beginnings OptionalEnumeratorValue = Assign ∷ []
beginnings FurtherEnumerators = Comma ∷ []
beginnings EnumeratorsBehindComma = names
-- Attributes, `typeof` and type names (6.7.7)
beginnings AttributeLists = AttributeKeyword ∷ []
beginnings AttributeList = AttributeKeyword ∷ []
beginnings FurtherAttributes = Comma ∷ []
beginnings Attribute = attribute_words
beginnings AttributeArguments = LeftParenthesis ∷ []
beginnings BalancedTokens = LeftParenthesis ∷ filter is_passed_over all_token_classes
beginnings TypeofSpecifier = TypeofKeyword ∷ []
beginnings TypeofOperand = LeftBracket ∷ type_start ++ declarator_start ++ expression_start
beginnings TypeName = LeftBracket ∷ type_start ++ declarator_start
-- Declarators (6.7.6)
beginnings Declarator = declarator_start
beginnings Pointers = Star ∷ []
beginnings PointerQualifiers = AttributeKeyword ∷ type_qualifiers
beginnings DirectDeclarator = LeftParenthesis ∷ names
beginnings DeclaratorSuffixes = LeftBracket ∷ LeftParenthesis ∷ []
beginnings ArraySize = expression_start
beginnings Parameters = LeftBracket ∷ Comma ∷ type_start ++ declarator_start
beginnings FurtherParameters = Comma ∷ []
beginnings ParameterOrEllipsis = LeftBracket ∷ Ellipsis ∷ Comma ∷ type_start ++ declarator_start
beginnings Parameter = LeftBracket ∷ type_start ++ declarator_start
beginnings AnyDeclarator = LeftBracket ∷ declarator_start
beginnings AnyDirectDeclarator = LeftBracket ∷ LeftParenthesis ∷ names
-- Initializers and assertions (6.7.9, 6.7.10)
beginnings Initializer = LeftBrace ∷ expression_start
beginnings InitializerItems = LeftBracket ∷ LeftBrace ∷ Dot ∷ expression_start
beginnings FurtherInitializerItems = Comma ∷ []
beginnings InitializerItem = LeftBracket ∷ LeftBrace ∷ Dot ∷ expression_start
beginnings Designator = LeftBracket ∷ Dot ∷ []
beginnings FurtherDesignators = LeftBracket ∷ Dot ∷ []
beginnings StaticAssertion = StaticAssertKeyword ∷ []
-- Statements (6.8)
beginnings CompoundStatement = LeftBrace ∷ []
beginnings BlockItems = LeftBrace ∷ Semicolon ∷ StaticAssertKeyword ∷ type_start ++ declarator_start ++ expression_start ++ statement_keywords
beginnings BlockItem = LeftBrace ∷ Semicolon ∷ StaticAssertKeyword ∷ type_start ++ declarator_start ++ expression_start ++ statement_keywords
beginnings Declaration = Semicolon ∷ type_start ++ declarator_start
beginnings Declarators = Semicolon ∷ declarator_start
beginnings Statement = LeftBrace ∷ Semicolon ∷ AttributeKeyword ∷ declarator_start ++ expression_start ++ statement_keywords
beginnings OptionalElse = ElseKeyword ∷ []
beginnings ForInitialization = Semicolon ∷ type_start ++ declarator_start ++ expression_start
beginnings OptionalExpression = expression_start
-- Expressions (6.5)
beginnings Expression = expression_start
beginnings CommaTail = Comma ∷ []
beginnings AssignmentExpression = expression_start
beginnings AssignmentTail = assignment_operators
beginnings ConditionalExpression = expression_start
beginnings ConditionalTail = Question ∷ []
beginnings MiddleOperand = expression_start
beginnings LogicalOrExpression = expression_start
beginnings LogicalOrTail = OrOr ∷ []
beginnings LogicalAndExpression = expression_start
beginnings LogicalAndTail = AndAnd ∷ []
beginnings InclusiveOrExpression = expression_start
beginnings InclusiveOrTail = Bar ∷ []
beginnings ExclusiveOrExpression = expression_start
beginnings ExclusiveOrTail = Caret ∷ []
beginnings AndExpression = expression_start
beginnings AndTail = Ampersand ∷ []
beginnings EqualityExpression = expression_start
beginnings EqualityTail = EqualEqual ∷ NotEqual ∷ []
beginnings RelationalExpression = expression_start
beginnings RelationalTail = Less ∷ Greater ∷ LessEqual ∷ GreaterEqual ∷ []
beginnings ShiftExpression = expression_start
beginnings ShiftTail = ShiftLeft ∷ ShiftRight ∷ []
beginnings AdditiveExpression = expression_start
beginnings AdditiveTail = Plus ∷ Minus ∷ []
beginnings MultiplicativeExpression = expression_start
beginnings MultiplicativeTail = Star ∷ Slash ∷ Percent ∷ []
beginnings CastExpression = expression_start
beginnings CastOperand = LeftBrace ∷ expression_start
beginnings BracedInitializer = LeftBrace ∷ []
beginnings UnaryExpression = expression_start
beginnings SizeofOperand = expression_start
beginnings SizeofTypeEnd = LeftBrace ∷ []
beginnings PostfixTail = LeftBracket ∷ LeftParenthesis ∷ Dot ∷ Arrow ∷ PlusPlus ∷ MinusMinus ∷ []
beginnings Arguments = expression_start
beginnings FurtherArguments = Comma ∷ []
beginnings PrimaryExpression = LeftParenthesis ∷ BuiltinExpectKeyword ∷ BuiltinOffsetofKeyword ∷ Identifier ∷ Number ∷ Character ∷ String ∷ []
beginnings OffsetofDesignators = LeftBracket ∷ Dot ∷ []
beginnings ParenthesizedExpression = LeftBrace ∷ expression_start
beginnings StringLiterals = String ∷ []
beginnings FurtherStringLiterals = String ∷ []

-- an item can begin with this class
abbrev pub item_begins : ProductionItem → TokenClass → Bool
item_begins (Nonterminal symbol) class_ = is_among (beginnings symbol) class_
item_begins item class_ = takes item class_

-- items, one behind the other, can begin with this class
abbrev pub can_begin : List ProductionItem → TokenClass → Bool
can_begin [] class_ = false
can_begin (item ∷ items) class_ = item_begins item class_ || (if is_nullable item then can_begin items class_ else false)
