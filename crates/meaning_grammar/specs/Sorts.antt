-- The sorts of values, and what each item leaves of those that stand on the stack: the top is the first of a list.
use Rattle.std.specs.Prelude.{◌≡◌, Bool, true, false, List, [], ◌∷◌, ◌++◌, Option, Some, None, if◌then◌else◌}
use Rattle.std.specs.Option.{option_and_then}
use Rattle.vocabulary.specs.declared.symbol.Symbol.{Symbol}
use Rattle.vocabulary.specs.declared.symbol.Symbol.TheVariants.{ExternalDeclarations, ExternalDeclarators, BodyOrDeclarators, OptionalInitializer, FurtherDeclarators, Specifiers, SpecifiersBehindType, TagOrMembers, MembersBehindTag, MemberDeclarations, MemberDeclarators, FurtherMemberDeclarators, MemberDeclarator, OptionalWidth, TagOrEnumerators, EnumeratorsBehindTag, Enumerator, OptionalEnumeratorValue, FurtherEnumerators, EnumeratorsBehindComma, AttributeLists, FurtherAttributes, Attribute, AttributeArguments, BalancedTokens, TypeofOperand, Declarator, Pointers, PointerQualifiers, DirectDeclarator, DeclaratorSuffixes, ArraySize, Parameters, FurtherParameters, ParameterOrEllipsis, Parameter, AnyDeclarator, AnyDirectDeclarator, InitializerItems, FurtherInitializerItems, Designator, FurtherDesignators, BlockItems, Declarators, OptionalElse, OptionalExpression, CommaTail, AssignmentTail, ConditionalTail, MiddleOperand, LogicalOrTail, LogicalAndTail, InclusiveOrTail, ExclusiveOrTail, AndTail, EqualityTail, RelationalTail, ShiftTail, AdditiveTail, MultiplicativeTail, CastOperand, SizeofOperand, SizeofTypeEnd, PostfixTail, Arguments, FurtherArguments, OffsetofDesignators, ParenthesizedExpression, FurtherStringLiterals}
use Rattle.vocabulary.specs.declared.action.Action.{Action}
use Rattle.vocabulary.specs.declared.action.Action.TheVariants.{Append, AppendAttribute, AppendDeclarator, AppendLeadingAttributes, AwaitBody, BeginAtNext, BeginDeclarators, BeginList, BindDeclarator, BindEnumerator, BindFurtherDeclarator, BindParameter, CloseParameters, CloseScope, CountParameter, DeclareTag, DefineTag, JoinAnyParts, JoinParts, JoinSuffixes, MakeAttributeList, MakeBinary, MakeBlockSpecifiers, MakeBuiltinOffsetof, MakeCall, MakeCharacterConstant, MakeCompoundStatement, MakeConditional, MakeContextStatement, MakeDeclaration, MakeDeclarator, MakeDoStatement, MakeEnumerator, MakeFileSpecifiers, MakeForPart, MakeForStatement, MakeFunctionDefinition, MakeIfStatement, MakeInitializerItem, MakeIntegerConstant, MakeLabelStatement, MakeLeaf, MakeLoneDeclaration, MakeMember, MakeMemberDeclaration, MakeMemberSpecifiers, MakeNamed, MakeOptionalDeclarator, MakeOver, MakeOverList, MakeOverTwo, MakeParameter, MakeParameterSpecifiers, MakeParenthesizedAttributes, MakePostfix, MakeSizeofType, MakeStringLiteral, MakeStringPiece, MakeTagged, MakeTranslationUnit, MakeTypeName, MakeTypeNameSpecifiers, NoteFunctionDeclarator, OpenBody, OpenScope, RequireType, RequireTypeOrAttributes, UseName, UseTag, UseTypedefName, WithoutTag}
use Rattle.vocabulary.specs.declared.production_item.ProductionItem.{ProductionItem}
use Rattle.vocabulary.specs.declared.production_item.ProductionItem.TheVariants.{Token, Passed, PassedAny, Name, LabelName, AttributeWord, CaseColon, DesignatorEnd, Nonterminal, Do}

-- what a value is
pub data Sort : Type 0 where
  -- a token that was kept, or the place of one
  AWord : Sort
  -- a tree
  ATree : Sort
  -- trees, each with its role
  AList : Sort

-- they are one sort
abbrev pub is_same_sort : Sort → Sort → Bool
is_same_sort AWord AWord = true
is_same_sort ATree ATree = true
is_same_sort AList AList = true
is_same_sort sort other = false

-- What is taken from the stack, and what is left there in its place, the top first
pub record Effect : Type 0 where
  pub takes : List Sort
  pub leaves : List Sort

-- takes these and leaves those
abbrev pub exchange : List Sort → List Sort → Effect
exchange takes leaves = record { takes = takes; leaves = leaves }

-- what an action takes and leaves
abbrev pub action_effect : Action → Effect
action_effect BeginList = exchange [] (AList ∷ [])
action_effect BeginAtNext = exchange [] (AList ∷ AWord ∷ [])
action_effect (Append role) = exchange (ATree ∷ AList ∷ []) (AList ∷ [])
action_effect (MakeLeaf kind) = exchange (AWord ∷ []) (ATree ∷ [])
action_effect (MakeNamed kind) = exchange (AWord ∷ AWord ∷ []) (ATree ∷ [])
action_effect (MakeOver kind role) = exchange (ATree ∷ AWord ∷ []) (ATree ∷ [])
action_effect (MakeOverTwo kind role other) = exchange (ATree ∷ ATree ∷ AWord ∷ []) (ATree ∷ [])
action_effect (MakeOverList kind) = exchange (AList ∷ AWord ∷ []) (ATree ∷ [])
action_effect (MakeBinary kind role) = exchange (ATree ∷ AWord ∷ ATree ∷ []) (ATree ∷ [])
action_effect (MakePostfix kind) = exchange (AWord ∷ ATree ∷ []) (ATree ∷ [])
action_effect (MakeMember kind) = exchange (AWord ∷ AWord ∷ ATree ∷ []) (ATree ∷ [])
action_effect MakeTranslationUnit = exchange (AList ∷ []) (ATree ∷ [])
action_effect MakeLoneDeclaration = exchange (ATree ∷ []) (ATree ∷ [])
action_effect MakeDeclaration = exchange (AList ∷ ATree ∷ []) (ATree ∷ [])
action_effect MakeFunctionDefinition = exchange (ATree ∷ AList ∷ ATree ∷ ATree ∷ []) (ATree ∷ [])
action_effect BeginDeclarators = exchange (AList ∷ ATree ∷ ATree ∷ []) (AList ∷ ATree ∷ [])
action_effect AppendDeclarator = exchange (AList ∷ ATree ∷ AList ∷ []) (AList ∷ [])
action_effect AppendLeadingAttributes = exchange (AList ∷ AList ∷ []) (AList ∷ [])
action_effect BindDeclarator = exchange (ATree ∷ ATree ∷ []) (ATree ∷ ATree ∷ [])
action_effect BindFurtherDeclarator = exchange (ATree ∷ AList ∷ ATree ∷ []) (ATree ∷ AList ∷ ATree ∷ [])
action_effect NoteFunctionDeclarator = exchange (AList ∷ ATree ∷ []) (AList ∷ ATree ∷ [])
action_effect AwaitBody = exchange (AList ∷ ATree ∷ ATree ∷ []) (AList ∷ ATree ∷ ATree ∷ [])
action_effect MakeFileSpecifiers = exchange (AList ∷ AWord ∷ []) (ATree ∷ [])
action_effect MakeBlockSpecifiers = exchange (AList ∷ AWord ∷ []) (ATree ∷ [])
action_effect MakeMemberSpecifiers = exchange (AList ∷ AWord ∷ []) (ATree ∷ [])
action_effect MakeParameterSpecifiers = exchange (AList ∷ AWord ∷ []) (ATree ∷ [])
action_effect MakeTypeNameSpecifiers = exchange (AList ∷ AWord ∷ []) (ATree ∷ [])
action_effect RequireType = exchange (ATree ∷ []) (ATree ∷ [])
action_effect RequireTypeOrAttributes = exchange (ATree ∷ []) (ATree ∷ [])
action_effect DeclareTag = exchange (ATree ∷ []) (ATree ∷ [])
action_effect UseTypedefName = exchange (AWord ∷ []) (ATree ∷ [])
action_effect DefineTag = exchange (AWord ∷ AList ∷ AWord ∷ []) (AWord ∷ AWord ∷ AList ∷ AWord ∷ [])
action_effect UseTag = exchange (AWord ∷ AList ∷ AWord ∷ []) (AWord ∷ AWord ∷ AList ∷ AWord ∷ [])
action_effect WithoutTag = exchange (AList ∷ AWord ∷ []) (AWord ∷ AWord ∷ AList ∷ AWord ∷ [])
action_effect (MakeTagged kind) = exchange (AList ∷ AWord ∷ AWord ∷ AList ∷ AWord ∷ []) (ATree ∷ [])
action_effect MakeMemberDeclaration = exchange (AList ∷ ATree ∷ []) (ATree ∷ [])
action_effect MakeEnumerator = exchange (AList ∷ AWord ∷ []) (ATree ∷ [])
action_effect BindEnumerator = exchange (ATree ∷ []) (ATree ∷ [])
action_effect MakeAttributeList = exchange (AList ∷ AWord ∷ []) (ATree ∷ [])
action_effect AppendAttribute = exchange (AWord ∷ AList ∷ []) (AList ∷ [])
action_effect JoinParts = exchange (AList ∷ AWord ∷ AList ∷ []) (AList ∷ AWord ∷ [])
action_effect JoinAnyParts = exchange (AList ∷ AWord ∷ AList ∷ AWord ∷ []) (AList ∷ AWord ∷ [])
action_effect JoinSuffixes = exchange (AList ∷ AList ∷ AWord ∷ []) (AList ∷ AWord ∷ [])
action_effect MakeParenthesizedAttributes = exchange (AList ∷ AWord ∷ []) (AList ∷ [])
action_effect MakeDeclarator = exchange (AList ∷ AWord ∷ []) (ATree ∷ [])
action_effect MakeOptionalDeclarator = exchange (AList ∷ AWord ∷ []) (AList ∷ [])
action_effect MakeTypeName = exchange (AList ∷ ATree ∷ []) (ATree ∷ [])
action_effect CountParameter = exchange (AList ∷ []) (AList ∷ [])
action_effect BindParameter = exchange (AList ∷ ATree ∷ []) (AList ∷ ATree ∷ [])
action_effect MakeParameter = exchange (AList ∷ ATree ∷ []) (ATree ∷ [])
action_effect CloseParameters = exchange (AList ∷ AWord ∷ []) (AList ∷ AWord ∷ [])
action_effect OpenScope = exchange [] []
action_effect CloseScope = exchange [] []
action_effect OpenBody = exchange (AWord ∷ []) (AWord ∷ [])
action_effect MakeInitializerItem = exchange (ATree ∷ AList ∷ AWord ∷ []) (ATree ∷ [])
action_effect MakeCompoundStatement = exchange (AWord ∷ AList ∷ AWord ∷ []) (ATree ∷ [])
action_effect MakeLabelStatement = exchange (ATree ∷ AWord ∷ []) (ATree ∷ [])
action_effect MakeIfStatement = exchange (AList ∷ ATree ∷ AWord ∷ []) (ATree ∷ [])
action_effect MakeDoStatement = exchange (ATree ∷ AWord ∷ ATree ∷ AWord ∷ []) (ATree ∷ [])
action_effect MakeForPart = exchange (AWord ∷ AList ∷ []) (ATree ∷ [])
action_effect MakeForStatement = exchange (ATree ∷ ATree ∷ ATree ∷ ATree ∷ AWord ∷ []) (ATree ∷ [])
action_effect MakeContextStatement = exchange (AWord ∷ []) (ATree ∷ [])
action_effect MakeConditional = exchange (ATree ∷ AList ∷ AWord ∷ ATree ∷ []) (ATree ∷ [])
action_effect MakeSizeofType = exchange (ATree ∷ AWord ∷ AWord ∷ []) (ATree ∷ [])
action_effect MakeCall = exchange (AList ∷ AWord ∷ ATree ∷ []) (ATree ∷ [])
action_effect UseName = exchange (AWord ∷ []) (ATree ∷ [])
action_effect MakeIntegerConstant = exchange (AWord ∷ []) (ATree ∷ [])
action_effect MakeCharacterConstant = exchange (AWord ∷ []) (ATree ∷ [])
action_effect MakeStringPiece = exchange (AWord ∷ []) (ATree ∷ [])
action_effect MakeStringLiteral = exchange (AList ∷ AWord ∷ []) (ATree ∷ [])
action_effect MakeBuiltinOffsetof = exchange (AList ∷ AWord ∷ ATree ∷ AWord ∷ []) (ATree ∷ [])

-- what has to stand on the stack before a symbol
abbrev pub needs : Symbol → List Sort
needs ExternalDeclarations = AList ∷ []
needs ExternalDeclarators = ATree ∷ []
needs BodyOrDeclarators = AList ∷ ATree ∷ ATree ∷ []
needs OptionalInitializer = AList ∷ []
needs FurtherDeclarators = AList ∷ ATree ∷ []
needs Specifiers = AList ∷ []
needs SpecifiersBehindType = AList ∷ []
needs TagOrMembers = AList ∷ AWord ∷ []
needs MembersBehindTag = AWord ∷ AList ∷ AWord ∷ []
needs MemberDeclarations = AList ∷ []
needs MemberDeclarators = ATree ∷ []
needs FurtherMemberDeclarators = AList ∷ []
needs MemberDeclarator = AList ∷ []
needs OptionalWidth = AList ∷ []
needs TagOrEnumerators = AList ∷ AWord ∷ []
needs EnumeratorsBehindTag = AWord ∷ AList ∷ AWord ∷ []
needs Enumerator = AList ∷ []
needs OptionalEnumeratorValue = AList ∷ []
needs FurtherEnumerators = AList ∷ []
needs EnumeratorsBehindComma = AList ∷ []
needs AttributeLists = AList ∷ []
needs FurtherAttributes = AList ∷ []
needs Attribute = AList ∷ []
needs TypeofOperand = AWord ∷ []
needs Pointers = AList ∷ []
needs PointerQualifiers = AList ∷ []
needs DeclaratorSuffixes = AList ∷ []
needs ArraySize = AList ∷ []
needs Parameters = AList ∷ []
needs FurtherParameters = AList ∷ []
needs ParameterOrEllipsis = AList ∷ []
needs Parameter = AList ∷ []
needs InitializerItems = AList ∷ []
needs FurtherInitializerItems = AList ∷ []
needs Designator = AList ∷ []
needs FurtherDesignators = AList ∷ []
needs BlockItems = AList ∷ []
needs Declarators = ATree ∷ []
needs OptionalElse = AList ∷ []
needs OptionalExpression = AList ∷ []
needs CommaTail = ATree ∷ []
needs AssignmentTail = ATree ∷ []
needs ConditionalTail = ATree ∷ []
needs MiddleOperand = AList ∷ []
needs LogicalOrTail = ATree ∷ []
needs LogicalAndTail = ATree ∷ []
needs InclusiveOrTail = ATree ∷ []
needs ExclusiveOrTail = ATree ∷ []
needs AndTail = ATree ∷ []
needs EqualityTail = ATree ∷ []
needs RelationalTail = ATree ∷ []
needs ShiftTail = ATree ∷ []
needs AdditiveTail = ATree ∷ []
needs MultiplicativeTail = ATree ∷ []
needs CastOperand = ATree ∷ AWord ∷ []
needs SizeofOperand = AWord ∷ []
needs SizeofTypeEnd = ATree ∷ AWord ∷ AWord ∷ []
needs PostfixTail = ATree ∷ []
needs Arguments = AList ∷ []
needs FurtherArguments = AList ∷ []
needs OffsetofDesignators = AList ∷ []
needs ParenthesizedExpression = AWord ∷ []
needs FurtherStringLiterals = AList ∷ []
needs symbol = []

-- and what stands there in its place behind what it derives
abbrev pub gives : Symbol → List Sort
gives ExternalDeclarations = AList ∷ []
gives OptionalInitializer = AList ∷ []
gives FurtherDeclarators = AList ∷ ATree ∷ []
gives Specifiers = AList ∷ []
gives SpecifiersBehindType = AList ∷ []
gives TagOrMembers = AList ∷ AWord ∷ AWord ∷ AList ∷ AWord ∷ []
gives MembersBehindTag = AList ∷ AWord ∷ AWord ∷ AList ∷ AWord ∷ []
gives MemberDeclarations = AList ∷ []
gives MemberDeclarators = AList ∷ ATree ∷ []
gives FurtherMemberDeclarators = AList ∷ []
gives MemberDeclarator = AList ∷ []
gives OptionalWidth = AList ∷ []
gives TagOrEnumerators = AList ∷ AWord ∷ AWord ∷ AList ∷ AWord ∷ []
gives EnumeratorsBehindTag = AList ∷ AWord ∷ AWord ∷ AList ∷ AWord ∷ []
gives Enumerator = AList ∷ []
gives OptionalEnumeratorValue = AList ∷ []
gives FurtherEnumerators = AList ∷ []
gives EnumeratorsBehindComma = AList ∷ []
gives AttributeLists = AList ∷ []
gives FurtherAttributes = AList ∷ []
gives Attribute = AList ∷ []
gives AttributeArguments = []
gives BalancedTokens = []
gives Declarator = AList ∷ AWord ∷ []
gives Pointers = AList ∷ []
gives PointerQualifiers = AList ∷ []
gives DirectDeclarator = AList ∷ AWord ∷ []
gives DeclaratorSuffixes = AList ∷ []
gives ArraySize = AList ∷ []
gives Parameters = AList ∷ []
gives FurtherParameters = AList ∷ []
gives ParameterOrEllipsis = AList ∷ []
gives Parameter = AList ∷ []
gives AnyDeclarator = AList ∷ AWord ∷ []
gives AnyDirectDeclarator = AList ∷ AWord ∷ []
gives InitializerItems = AList ∷ []
gives FurtherInitializerItems = AList ∷ []
gives Designator = AList ∷ []
gives FurtherDesignators = AList ∷ []
gives BlockItems = AList ∷ []
gives OptionalElse = AList ∷ []
gives OptionalExpression = AList ∷ []
gives MiddleOperand = AList ∷ []
gives Arguments = AList ∷ []
gives FurtherArguments = AList ∷ []
gives OffsetofDesignators = AList ∷ []
gives FurtherStringLiterals = AList ∷ []
gives symbol = ATree ∷ []

-- what an item takes and leaves: a token that is kept is a word
abbrev pub item_effect : ProductionItem → Effect
item_effect (Token class_) = exchange [] (AWord ∷ [])
item_effect (Passed class_) = exchange [] []
item_effect PassedAny = exchange [] []
item_effect Name = exchange [] (AWord ∷ [])
item_effect LabelName = exchange [] (AWord ∷ [])
item_effect AttributeWord = exchange [] (AWord ∷ [])
item_effect CaseColon = exchange [] []
item_effect DesignatorEnd = exchange [] []
item_effect (Nonterminal symbol) = exchange (needs symbol) (gives symbol)
item_effect (Do action) = action_effect action

-- these in place of those, where those stand on the top
abbrev pub exchanged : (takes leaves sorts : List Sort) → Option (List Sort)
exchanged [] leaves sorts = Some (leaves ++ sorts)
exchanged (sort ∷ takes) leaves [] = None
exchanged (sort ∷ takes) leaves (other ∷ sorts) = if is_same_sort sort other then exchanged takes leaves sorts else None

-- the stack behind an item, if it has what the item takes
abbrev pub effect : ProductionItem → List Sort → Option (List Sort)
effect item sorts = exchanged (item_effect item).takes (item_effect item).leaves sorts

-- and behind items, one behind the other
abbrev pub effects : List ProductionItem → Option (List Sort) → Option (List Sort)
effects [] before = before
effects (item ∷ items) before = effects items (option_and_then (effect item) before)

-- in place of the symbol these items do what it says, whatever stands below
abbrev pub KeepsSorts : Symbol → List ProductionItem → Type 0
KeepsSorts symbol items = (others : List Sort) → effects items (Some (needs symbol ++ others)) ≡ Some (gives symbol ++ others)
