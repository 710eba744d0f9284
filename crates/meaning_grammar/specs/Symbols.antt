-- The symbols of the grammar, and which are the same.
use Rattle.std.specs.Prelude.{ℕ, Bool, ◌==◌, List, [], ◌∷◌}
use Rattle.vocabulary.specs.declared.symbol.Symbol.{Symbol}
use Rattle.vocabulary.specs.declared.symbol.Symbol.TheVariants.{ExternalDeclarations, ExternalDeclaration, ExternalDeclarators, BodyOrDeclarators, OptionalInitializer, FurtherDeclarators, Specifiers, SpecifiersBehindType, StorageClassSpecifier, TypeQualifier, TypeWord, StructOrUnionSpecifier, TagOrMembers, MembersBehindTag, MemberDeclarations, MemberDeclaration, MemberDeclarators, FurtherMemberDeclarators, MemberDeclarator, OptionalWidth, EnumSpecifier, TagOrEnumerators, EnumeratorsBehindTag, Enumerator, OptionalEnumeratorValue, FurtherEnumerators, EnumeratorsBehindComma, AttributeLists, AttributeList, FurtherAttributes, Attribute, AttributeArguments, BalancedTokens, TypeofSpecifier, TypeofOperand, TypeName, Declarator, Pointers, PointerQualifiers, DirectDeclarator, DeclaratorSuffixes, ArraySize, Parameters, FurtherParameters, ParameterOrEllipsis, Parameter, AnyDeclarator, AnyDirectDeclarator, Initializer, InitializerItems, FurtherInitializerItems, InitializerItem, Designator, FurtherDesignators, StaticAssertion, CompoundStatement, BlockItems, BlockItem, Declaration, Declarators, Statement, OptionalElse, ForInitialization, OptionalExpression, Expression, CommaTail, AssignmentExpression, AssignmentTail, ConditionalExpression, ConditionalTail, MiddleOperand, LogicalOrExpression, LogicalOrTail, LogicalAndExpression, LogicalAndTail, InclusiveOrExpression, InclusiveOrTail, ExclusiveOrExpression, ExclusiveOrTail, AndExpression, AndTail, EqualityExpression, EqualityTail, RelationalExpression, RelationalTail, ShiftExpression, ShiftTail, AdditiveExpression, AdditiveTail, MultiplicativeExpression, MultiplicativeTail, CastExpression, CastOperand, BracedInitializer, UnaryExpression, SizeofOperand, SizeofTypeEnd, PostfixTail, Arguments, FurtherArguments, PrimaryExpression, OffsetofDesignators, ParenthesizedExpression, StringLiterals, FurtherStringLiterals}

-- all symbols, in their order
abbrev pub all_symbols : List Symbol
all_symbols = ExternalDeclarations ∷ ExternalDeclaration ∷ ExternalDeclarators ∷ BodyOrDeclarators ∷ OptionalInitializer ∷ FurtherDeclarators ∷ Specifiers ∷ SpecifiersBehindType ∷ StorageClassSpecifier ∷ TypeQualifier ∷ TypeWord ∷ StructOrUnionSpecifier ∷ TagOrMembers ∷ MembersBehindTag ∷ MemberDeclarations ∷ MemberDeclaration ∷ MemberDeclarators ∷ FurtherMemberDeclarators ∷ MemberDeclarator ∷ OptionalWidth ∷ EnumSpecifier ∷ TagOrEnumerators ∷ EnumeratorsBehindTag ∷ Enumerator ∷ OptionalEnumeratorValue ∷ FurtherEnumerators ∷ EnumeratorsBehindComma ∷ AttributeLists ∷ AttributeList ∷ FurtherAttributes ∷ Attribute ∷ AttributeArguments ∷ BalancedTokens ∷ TypeofSpecifier ∷ TypeofOperand ∷ TypeName ∷ Declarator ∷ Pointers ∷ PointerQualifiers ∷ DirectDeclarator ∷ DeclaratorSuffixes ∷ ArraySize ∷ Parameters ∷ FurtherParameters ∷ ParameterOrEllipsis ∷ Parameter ∷ AnyDeclarator ∷ AnyDirectDeclarator ∷ Initializer ∷ InitializerItems ∷ FurtherInitializerItems ∷ InitializerItem ∷ Designator ∷ FurtherDesignators ∷ StaticAssertion ∷ CompoundStatement ∷ BlockItems ∷ BlockItem ∷ Declaration ∷ Declarators ∷ Statement ∷ OptionalElse ∷ ForInitialization ∷ OptionalExpression ∷ Expression ∷ CommaTail ∷ AssignmentExpression ∷ AssignmentTail ∷ ConditionalExpression ∷ ConditionalTail ∷ MiddleOperand ∷ LogicalOrExpression ∷ LogicalOrTail ∷ LogicalAndExpression ∷ LogicalAndTail ∷ InclusiveOrExpression ∷ InclusiveOrTail ∷ ExclusiveOrExpression ∷ ExclusiveOrTail ∷ AndExpression ∷ AndTail ∷ EqualityExpression ∷ EqualityTail ∷ RelationalExpression ∷ RelationalTail ∷ ShiftExpression ∷ ShiftTail ∷ AdditiveExpression ∷ AdditiveTail ∷ MultiplicativeExpression ∷ MultiplicativeTail ∷ CastExpression ∷ CastOperand ∷ BracedInitializer ∷ UnaryExpression ∷ SizeofOperand ∷ SizeofTypeEnd ∷ PostfixTail ∷ Arguments ∷ FurtherArguments ∷ PrimaryExpression ∷ OffsetofDesignators ∷ ParenthesizedExpression ∷ StringLiterals ∷ FurtherStringLiterals ∷ []

-- the number of a symbol in that order, counted from 0
abbrev pub symbol_number : Symbol → ℕ
symbol_number ExternalDeclarations = 0
symbol_number ExternalDeclaration = 1
symbol_number ExternalDeclarators = 2
symbol_number BodyOrDeclarators = 3
symbol_number OptionalInitializer = 4
symbol_number FurtherDeclarators = 5
symbol_number Specifiers = 6
symbol_number SpecifiersBehindType = 7
symbol_number StorageClassSpecifier = 8
symbol_number TypeQualifier = 9
symbol_number TypeWord = 10
symbol_number StructOrUnionSpecifier = 11
symbol_number TagOrMembers = 12
symbol_number MembersBehindTag = 13
symbol_number MemberDeclarations = 14
symbol_number MemberDeclaration = 15
symbol_number MemberDeclarators = 16
symbol_number FurtherMemberDeclarators = 17
symbol_number MemberDeclarator = 18
symbol_number OptionalWidth = 19
symbol_number EnumSpecifier = 20
symbol_number TagOrEnumerators = 21
symbol_number EnumeratorsBehindTag = 22
symbol_number Enumerator = 23
symbol_number OptionalEnumeratorValue = 24
symbol_number FurtherEnumerators = 25
symbol_number EnumeratorsBehindComma = 26
symbol_number AttributeLists = 27
symbol_number AttributeList = 28
symbol_number FurtherAttributes = 29
symbol_number Attribute = 30
symbol_number AttributeArguments = 31
symbol_number BalancedTokens = 32
symbol_number TypeofSpecifier = 33
symbol_number TypeofOperand = 34
symbol_number TypeName = 35
symbol_number Declarator = 36
symbol_number Pointers = 37
symbol_number PointerQualifiers = 38
symbol_number DirectDeclarator = 39
symbol_number DeclaratorSuffixes = 40
symbol_number ArraySize = 41
symbol_number Parameters = 42
symbol_number FurtherParameters = 43
symbol_number ParameterOrEllipsis = 44
symbol_number Parameter = 45
symbol_number AnyDeclarator = 46
symbol_number AnyDirectDeclarator = 47
symbol_number Initializer = 48
symbol_number InitializerItems = 49
symbol_number FurtherInitializerItems = 50
symbol_number InitializerItem = 51
symbol_number Designator = 52
symbol_number FurtherDesignators = 53
symbol_number StaticAssertion = 54
symbol_number CompoundStatement = 55
symbol_number BlockItems = 56
symbol_number BlockItem = 57
symbol_number Declaration = 58
symbol_number Declarators = 59
symbol_number Statement = 60
symbol_number OptionalElse = 61
symbol_number ForInitialization = 62
symbol_number OptionalExpression = 63
symbol_number Expression = 64
symbol_number CommaTail = 65
symbol_number AssignmentExpression = 66
symbol_number AssignmentTail = 67
symbol_number ConditionalExpression = 68
symbol_number ConditionalTail = 69
symbol_number MiddleOperand = 70
symbol_number LogicalOrExpression = 71
symbol_number LogicalOrTail = 72
symbol_number LogicalAndExpression = 73
symbol_number LogicalAndTail = 74
symbol_number InclusiveOrExpression = 75
symbol_number InclusiveOrTail = 76
symbol_number ExclusiveOrExpression = 77
symbol_number ExclusiveOrTail = 78
symbol_number AndExpression = 79
symbol_number AndTail = 80
symbol_number EqualityExpression = 81
symbol_number EqualityTail = 82
symbol_number RelationalExpression = 83
symbol_number RelationalTail = 84
symbol_number ShiftExpression = 85
symbol_number ShiftTail = 86
symbol_number AdditiveExpression = 87
symbol_number AdditiveTail = 88
symbol_number MultiplicativeExpression = 89
symbol_number MultiplicativeTail = 90
symbol_number CastExpression = 91
symbol_number CastOperand = 92
symbol_number BracedInitializer = 93
symbol_number UnaryExpression = 94
symbol_number SizeofOperand = 95
symbol_number SizeofTypeEnd = 96
symbol_number PostfixTail = 97
symbol_number Arguments = 98
symbol_number FurtherArguments = 99
symbol_number PrimaryExpression = 100
symbol_number OffsetofDesignators = 101
symbol_number ParenthesizedExpression = 102
symbol_number StringLiterals = 103
symbol_number FurtherStringLiterals = 104

-- they are one symbol
abbrev pub is_same_symbol : Symbol → Symbol → Bool
is_same_symbol first second = symbol_number first == symbol_number second
