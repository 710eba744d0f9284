-- What can be empty, and a weight of each symbol by which taking its rows comes to an end.
use Rattle.std.specs.Prelude.{◌≡◌, ℕ, ◌+◌, ◌<◌, Bool, true, false, List, [], ◌∷◌, if◌then◌else◌}
use Rattle.std.specs.List.{list_all}
use Rattle.vocabulary.specs.declared.token_class.TokenClass.TheVariants.{End}
use Rattle.vocabulary.specs.declared.symbol.Symbol.{Symbol}
use Rattle.vocabulary.specs.declared.symbol.Symbol.TheVariants.{ExternalDeclarations, ExternalDeclaration, ExternalDeclarators, BodyOrDeclarators, OptionalInitializer, FurtherDeclarators, Specifiers, SpecifiersBehindType, StorageClassSpecifier, TypeQualifier, TypeWord, StructOrUnionSpecifier, TagOrMembers, MembersBehindTag, MemberDeclarations, MemberDeclaration, MemberDeclarators, FurtherMemberDeclarators, MemberDeclarator, OptionalWidth, EnumSpecifier, TagOrEnumerators, EnumeratorsBehindTag, Enumerator, OptionalEnumeratorValue, FurtherEnumerators, EnumeratorsBehindComma, AttributeLists, AttributeList, FurtherAttributes, Attribute, AttributeArguments, BalancedTokens, TypeofSpecifier, TypeofOperand, TypeName, Declarator, Pointers, PointerQualifiers, DirectDeclarator, DeclaratorSuffixes, ArraySize, Parameters, FurtherParameters, ParameterOrEllipsis, Parameter, AnyDeclarator, AnyDirectDeclarator, Initializer, InitializerItems, FurtherInitializerItems, InitializerItem, Designator, FurtherDesignators, StaticAssertion, CompoundStatement, BlockItems, BlockItem, Declaration, Declarators, Statement, OptionalElse, ForInitialization, OptionalExpression, Expression, CommaTail, AssignmentExpression, AssignmentTail, ConditionalExpression, ConditionalTail, MiddleOperand, LogicalOrExpression, LogicalOrTail, LogicalAndExpression, LogicalAndTail, InclusiveOrExpression, InclusiveOrTail, ExclusiveOrExpression, ExclusiveOrTail, AndExpression, AndTail, EqualityExpression, EqualityTail, RelationalExpression, RelationalTail, ShiftExpression, ShiftTail, AdditiveExpression, AdditiveTail, MultiplicativeExpression, MultiplicativeTail, CastExpression, CastOperand, BracedInitializer, UnaryExpression, SizeofOperand, SizeofTypeEnd, PostfixTail, Arguments, FurtherArguments, PrimaryExpression, OffsetofDesignators, ParenthesizedExpression, StringLiterals, FurtherStringLiterals}
use Rattle.vocabulary.specs.declared.production_item.ProductionItem.{ProductionItem}
use Rattle.vocabulary.specs.declared.production_item.ProductionItem.TheVariants.{Token, Passed, PassedAny, Name, LabelName, AttributeWord, CaseColon, DesignatorEnd, Nonterminal, Do}
use Rattle.meaning_grammar.specs.Classes.{is_same}

-- the symbol derives nothing, too
abbrev pub can_be_empty : Symbol → Bool
can_be_empty ExternalDeclarations = true
can_be_empty OptionalInitializer = true
can_be_empty FurtherDeclarators = true
can_be_empty Specifiers = true
can_be_empty SpecifiersBehindType = true
can_be_empty MembersBehindTag = true
can_be_empty MemberDeclarations = true
can_be_empty MemberDeclarators = true
can_be_empty FurtherMemberDeclarators = true
can_be_empty OptionalWidth = true
can_be_empty EnumeratorsBehindTag = true
can_be_empty OptionalEnumeratorValue = true
can_be_empty FurtherEnumerators = true
can_be_empty EnumeratorsBehindComma = true
can_be_empty AttributeLists = true
can_be_empty FurtherAttributes = true
can_be_empty Attribute = true
can_be_empty AttributeArguments = true
can_be_empty BalancedTokens = true
can_be_empty TypeofOperand = true
can_be_empty TypeName = true
can_be_empty Pointers = true
can_be_empty PointerQualifiers = true
can_be_empty DeclaratorSuffixes = true
can_be_empty ArraySize = true
can_be_empty Parameters = true
can_be_empty FurtherParameters = true
can_be_empty ParameterOrEllipsis = true
can_be_empty Parameter = true
can_be_empty AnyDeclarator = true
can_be_empty AnyDirectDeclarator = true
can_be_empty InitializerItems = true
can_be_empty FurtherInitializerItems = true
can_be_empty FurtherDesignators = true
can_be_empty BlockItems = true
can_be_empty OptionalElse = true
can_be_empty OptionalExpression = true
can_be_empty CommaTail = true
can_be_empty AssignmentTail = true
can_be_empty ConditionalTail = true
can_be_empty MiddleOperand = true
can_be_empty LogicalOrTail = true
can_be_empty LogicalAndTail = true
can_be_empty InclusiveOrTail = true
can_be_empty ExclusiveOrTail = true
can_be_empty AndTail = true
can_be_empty EqualityTail = true
can_be_empty RelationalTail = true
can_be_empty ShiftTail = true
can_be_empty AdditiveTail = true
can_be_empty MultiplicativeTail = true
can_be_empty SizeofTypeEnd = true
can_be_empty PostfixTail = true
can_be_empty Arguments = true
can_be_empty FurtherArguments = true
can_be_empty OffsetofDesignators = true
can_be_empty FurtherStringLiterals = true
can_be_empty symbol = false

-- no token has to be taken for it: the end of the unit is none
abbrev pub is_nullable : ProductionItem → Bool
is_nullable (Token class_) = false
is_nullable (Passed class_) = is_same class_ End
is_nullable PassedAny = false
is_nullable Name = false
is_nullable LabelName = false
is_nullable AttributeWord = false
is_nullable CaseColon = false
is_nullable DesignatorEnd = false
is_nullable (Nonterminal symbol) = can_be_empty symbol
is_nullable (Do action) = true

-- the weight of a symbol
abbrev pub symbol_weight : Symbol → ℕ
symbol_weight ExternalDeclarations = 12
symbol_weight ExternalDeclaration = 11
symbol_weight ExternalDeclarators = 6
symbol_weight BodyOrDeclarators = 4
symbol_weight OptionalInitializer = 1
symbol_weight FurtherDeclarators = 1
symbol_weight Specifiers = 2
symbol_weight SpecifiersBehindType = 2
symbol_weight StorageClassSpecifier = 1
symbol_weight TypeQualifier = 1
symbol_weight TypeWord = 1
symbol_weight StructOrUnionSpecifier = 1
symbol_weight TagOrMembers = 3
symbol_weight MembersBehindTag = 3
symbol_weight MemberDeclarations = 14
symbol_weight MemberDeclaration = 13
symbol_weight MemberDeclarators = 8
symbol_weight FurtherMemberDeclarators = 1
symbol_weight MemberDeclarator = 5
symbol_weight OptionalWidth = 1
symbol_weight EnumSpecifier = 1
symbol_weight TagOrEnumerators = 3
symbol_weight EnumeratorsBehindTag = 3
symbol_weight Enumerator = 1
symbol_weight OptionalEnumeratorValue = 1
symbol_weight FurtherEnumerators = 1
symbol_weight EnumeratorsBehindComma = 2
symbol_weight AttributeLists = 2
symbol_weight AttributeList = 1
symbol_weight FurtherAttributes = 1
symbol_weight Attribute = 1
symbol_weight AttributeArguments = 1
symbol_weight BalancedTokens = 1
symbol_weight TypeofSpecifier = 1
symbol_weight TypeofOperand = 19
symbol_weight TypeName = 17
symbol_weight Declarator = 4
symbol_weight Pointers = 1
symbol_weight PointerQualifiers = 2
symbol_weight DirectDeclarator = 1
symbol_weight DeclaratorSuffixes = 1
symbol_weight ArraySize = 18
symbol_weight Parameters = 23
symbol_weight FurtherParameters = 1
symbol_weight ParameterOrEllipsis = 23
symbol_weight Parameter = 21
symbol_weight AnyDeclarator = 9
symbol_weight AnyDirectDeclarator = 5
symbol_weight Initializer = 18
symbol_weight InitializerItems = 21
symbol_weight FurtherInitializerItems = 1
symbol_weight InitializerItem = 20
symbol_weight Designator = 1
symbol_weight FurtherDesignators = 2
symbol_weight StaticAssertion = 1
symbol_weight CompoundStatement = 1
symbol_weight BlockItems = 23
symbol_weight BlockItem = 22
symbol_weight Declaration = 11
symbol_weight Declarators = 6
symbol_weight Statement = 21
symbol_weight OptionalElse = 1
symbol_weight ForInitialization = 21
symbol_weight OptionalExpression = 19
symbol_weight Expression = 18
symbol_weight CommaTail = 1
symbol_weight AssignmentExpression = 17
symbol_weight AssignmentTail = 1
symbol_weight ConditionalExpression = 16
symbol_weight ConditionalTail = 1
symbol_weight MiddleOperand = 19
symbol_weight LogicalOrExpression = 15
symbol_weight LogicalOrTail = 1
symbol_weight LogicalAndExpression = 14
symbol_weight LogicalAndTail = 1
symbol_weight InclusiveOrExpression = 13
symbol_weight InclusiveOrTail = 1
symbol_weight ExclusiveOrExpression = 12
symbol_weight ExclusiveOrTail = 1
symbol_weight AndExpression = 11
symbol_weight AndTail = 1
symbol_weight EqualityExpression = 10
symbol_weight EqualityTail = 1
symbol_weight RelationalExpression = 9
symbol_weight RelationalTail = 1
symbol_weight ShiftExpression = 8
symbol_weight ShiftTail = 1
symbol_weight AdditiveExpression = 7
symbol_weight AdditiveTail = 1
symbol_weight MultiplicativeExpression = 6
symbol_weight MultiplicativeTail = 1
symbol_weight CastExpression = 5
symbol_weight CastOperand = 6
symbol_weight BracedInitializer = 1
symbol_weight UnaryExpression = 4
symbol_weight SizeofOperand = 5
symbol_weight SizeofTypeEnd = 2
symbol_weight PostfixTail = 1
symbol_weight Arguments = 19
symbol_weight FurtherArguments = 1
symbol_weight PrimaryExpression = 3
symbol_weight OffsetofDesignators = 1
symbol_weight ParenthesizedExpression = 19
symbol_weight StringLiterals = 2
symbol_weight FurtherStringLiterals = 1

-- the weight of an item: a token that is taken weighs nothing, since fewer are left behind it
abbrev pub weight : ProductionItem → ℕ
weight (Token class_) = 0
weight (Passed class_) = if is_same class_ End then 1 else 0
weight PassedAny = 0
weight Name = 0
weight LabelName = 0
weight AttributeWord = 0
weight CaseColon = 0
weight DesignatorEnd = 0
weight (Nonterminal symbol) = symbol_weight symbol
weight (Do action) = 1

-- the weights up to and with the first item that can't be empty
abbrev pub live : List ProductionItem → ℕ
live [] = 0
live (item ∷ items) = weight item + (if is_nullable item then live items else 0)

-- none of them has to take a token
abbrev pub all_nullable : List ProductionItem → Bool
all_nullable items = list_all is_nullable items

-- In place of the symbol these items weigh less, and one of them takes a token where the symbol has to.
pub record Falls (symbol : Symbol) (items : List ProductionItem) : Type 0 where
  pub less : live items < symbol_weight symbol
  pub gone : can_be_empty symbol ≡ false → all_nullable items ≡ false
