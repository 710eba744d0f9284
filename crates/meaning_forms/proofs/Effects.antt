-- What is known of the values that each symbol takes and leaves, and of those that each action leaves.
use Rattle.std.proofs.Common.{ℕ, zero, suc, Bool, true, false, ◌&&◌, not, List, [], ◌∷◌, ◌++◌, drop, length, map, Option, Some, None, nat_le, if◌then◌else◌}
use Rattle.std.specs.Option.{option_and_then}
use Rattle.vocabulary.specs.declared.role.Role.{Role}
use Rattle.vocabulary.specs.declared.role.Role.TheVariants.{Evaluated, TypePart, Unevaluated}
use Rattle.vocabulary.specs.declared.token_class.TokenClass.TheVariants.{End}
use Rattle.vocabulary.specs.declared.symbol.Symbol.{Symbol}
use Rattle.vocabulary.specs.declared.symbol.Symbol.TheVariants.{AdditiveTail, AndTail, AnyDeclarator, AnyDirectDeclarator, Arguments, ArraySize, AssignmentTail, Attribute, AttributeArguments, AttributeList, AttributeLists, BalancedTokens, BlockItem, BlockItems, BodyOrDeclarators, BracedInitializer, CastOperand, CommaTail, CompoundStatement, ConditionalTail, Declaration, Declarator, DeclaratorSuffixes, Declarators, Designator, DirectDeclarator, EnumSpecifier, Enumerator, EnumeratorsBehindComma, EnumeratorsBehindTag, EqualityTail, ExclusiveOrTail, ExternalDeclaration, ExternalDeclarations, ExternalDeclarators, ForInitialization, FurtherArguments, FurtherAttributes, FurtherDeclarators, FurtherDesignators, FurtherEnumerators, FurtherInitializerItems, FurtherMemberDeclarators, FurtherParameters, FurtherStringLiterals, InclusiveOrTail, Initializer, InitializerItem, InitializerItems, LogicalAndTail, LogicalOrTail, MemberDeclaration, MemberDeclarations, MemberDeclarator, MemberDeclarators, MembersBehindTag, MiddleOperand, MultiplicativeTail, OffsetofDesignators, OptionalElse, OptionalEnumeratorValue, OptionalExpression, OptionalInitializer, OptionalWidth, Parameter, ParameterOrEllipsis, Parameters, ParenthesizedExpression, PointerQualifiers, Pointers, PostfixTail, RelationalTail, ShiftTail, SizeofOperand, SizeofTypeEnd, Specifiers, SpecifiersBehindType, Statement, StaticAssertion, StorageClassSpecifier, StringLiterals, StructOrUnionSpecifier, TagOrEnumerators, TagOrMembers, TypeName, TypeQualifier, TypeWord, TypeofOperand, TypeofSpecifier}
use Rattle.vocabulary.specs.declared.action.Action.{Action}
use Rattle.vocabulary.specs.declared.action.Action.TheVariants.{Append, AppendAttribute, AppendDeclarator, AppendLeadingAttributes, AwaitBody, BeginAtNext, BeginDeclarators, BeginList, BindDeclarator, BindEnumerator, BindFurtherDeclarator, BindParameter, CloseParameters, CloseScope, CountParameter, DeclareTag, DefineTag, JoinAnyParts, JoinParts, JoinSuffixes, MakeAttributeList, MakeBlockSpecifiers, MakeCharacterConstant, MakeContextStatement, MakeFileSpecifiers, MakeForPart, MakeIntegerConstant, MakeMemberSpecifiers, MakeOptionalDeclarator, MakeParameterSpecifiers, MakeParenthesizedAttributes, MakeStringLiteral, MakeTypeName, MakeTypeNameSpecifiers, NoteFunctionDeclarator, OpenBody, OpenScope, RequireType, RequireTypeOrAttributes, UseName, UseTag, UseTypedefName, WithoutTag}
use Rattle.vocabulary.specs.declared.production_item.ProductionItem.{ProductionItem}
use Rattle.vocabulary.specs.declared.production_item.ProductionItem.TheVariants.{Token, Passed, PassedAny, Name, LabelName, AttributeWord, CaseColon, DesignatorEnd, Nonterminal, Do}
use Rattle.vocabulary.specs.declared.node_kind.NodeKind.TheVariants as kinds
use Rattle.meaning_tree.specs.Forms.{ADeclaration, LeadingLists, SpecifierList, ASpecifier, AQualifier, AMemberList, AWidth, AnEnumerator, ADeclarator, ADeclaratorPart, AParameter, AnEllipsis, ATypeName, AnAttribute, AnInitializer, Braces, AnItem, ADesignator, ACompoundStatement, AStringPiece, AString, AConstant, AnExpression, AnAssertion, AStatement, sort_of_kind, expressions, statements, block_items, external_declarations, members, qualifiers, specifiers, initial_values, optional_expressions, attribute_lists, Slot, One, Perhaps, Each, DeclaratorSlots, MemberSlots, slots_of}
use Rattle.meaning_grammar.specs.Classes.{is_same}
use Rattle.meaning_derivation.specs.Shapes.{AtTree, Source, OneTree, AllTrees, Shape, shape_of}
use Rattle.meaning_forms.proofs.Slots.{is_within}
use Rattle.meaning_forms.proofs.Knowledge.{Known, AWord, ATree, AList, Grown, grown, is_list, serves, all_serve}

-- what a symbol takes; the list that it grows begins with nothing of its own
abbrev pub wants : Symbol → List Known
wants ExternalDeclarations = Grown [] ∷ []
wants ExternalDeclarators = ATree (SpecifierList ∷ []) ∷ []
wants BodyOrDeclarators = AList (Each TypePart attribute_lists ∷ []) ∷ ATree (ADeclarator ∷ []) ∷ ATree (SpecifierList ∷ []) ∷ []
wants OptionalInitializer = Grown [] ∷ []
wants FurtherDeclarators = Grown [] ∷ ATree (SpecifierList ∷ []) ∷ []
wants Specifiers = Grown [] ∷ []
wants SpecifiersBehindType = Grown [] ∷ []
wants TagOrMembers = AList (Each TypePart attribute_lists ∷ []) ∷ AWord ∷ []
wants MembersBehindTag = AWord ∷ AList (Each TypePart attribute_lists ∷ []) ∷ AWord ∷ []
wants MemberDeclarations = Grown [] ∷ []
wants MemberDeclarators = ATree (SpecifierList ∷ []) ∷ []
wants FurtherMemberDeclarators = Grown [] ∷ []
wants MemberDeclarator = Grown [] ∷ []
wants OptionalWidth = Grown [] ∷ []
wants TagOrEnumerators = AList (Each TypePart attribute_lists ∷ []) ∷ AWord ∷ []
wants EnumeratorsBehindTag = AWord ∷ AList (Each TypePart attribute_lists ∷ []) ∷ AWord ∷ []
wants Enumerator = Grown [] ∷ []
wants OptionalEnumeratorValue = Grown [] ∷ []
wants FurtherEnumerators = Grown [] ∷ []
wants EnumeratorsBehindComma = Grown [] ∷ []
wants AttributeLists = Grown [] ∷ []
wants FurtherAttributes = Grown [] ∷ []
wants Attribute = Grown [] ∷ []
wants TypeofOperand = AWord ∷ []
wants Pointers = Grown [] ∷ []
wants PointerQualifiers = Grown [] ∷ []
wants DeclaratorSuffixes = Grown [] ∷ []
wants ArraySize = Grown [] ∷ []
wants Parameters = Grown [] ∷ []
wants FurtherParameters = Grown [] ∷ []
wants ParameterOrEllipsis = Grown [] ∷ []
wants Parameter = Grown [] ∷ []
wants InitializerItems = Grown [] ∷ []
wants FurtherInitializerItems = Grown [] ∷ []
wants Designator = Grown [] ∷ []
wants FurtherDesignators = Grown [] ∷ []
wants BlockItems = Grown [] ∷ []
wants Declarators = ATree (SpecifierList ∷ []) ∷ []
wants OptionalElse = Grown [] ∷ []
wants OptionalExpression = Grown [] ∷ []
wants CommaTail = ATree expressions ∷ []
wants AssignmentTail = ATree expressions ∷ []
wants ConditionalTail = ATree expressions ∷ []
wants MiddleOperand = Grown [] ∷ []
wants LogicalOrTail = ATree expressions ∷ []
wants LogicalAndTail = ATree expressions ∷ []
wants InclusiveOrTail = ATree expressions ∷ []
wants ExclusiveOrTail = ATree expressions ∷ []
wants AndTail = ATree expressions ∷ []
wants EqualityTail = ATree expressions ∷ []
wants RelationalTail = ATree expressions ∷ []
wants ShiftTail = ATree expressions ∷ []
wants AdditiveTail = ATree expressions ∷ []
wants MultiplicativeTail = ATree expressions ∷ []
wants CastOperand = ATree (ATypeName ∷ []) ∷ AWord ∷ []
wants SizeofOperand = AWord ∷ []
wants SizeofTypeEnd = ATree (ATypeName ∷ []) ∷ AWord ∷ AWord ∷ []
wants PostfixTail = ATree expressions ∷ []
wants Arguments = Grown [] ∷ []
wants FurtherArguments = Grown [] ∷ []
wants OffsetofDesignators = Grown [] ∷ []
wants ParenthesizedExpression = AWord ∷ []
wants FurtherStringLiterals = Grown [] ∷ []
wants symbol = []

-- and what it leaves: most symbols are expressions
abbrev pub yields : Symbol → List Known
yields ExternalDeclarations = Grown (Each Evaluated external_declarations ∷ []) ∷ []
yields ExternalDeclaration = ATree external_declarations ∷ []
yields ExternalDeclarators = ATree external_declarations ∷ []
yields BodyOrDeclarators = ATree external_declarations ∷ []
yields OptionalInitializer = Grown (Perhaps Evaluated (AnInitializer ∷ []) ∷ []) ∷ []
yields FurtherDeclarators = Grown (DeclaratorSlots ∷ []) ∷ ATree (SpecifierList ∷ []) ∷ []
yields Specifiers = Grown (Each TypePart specifiers ∷ []) ∷ []
yields SpecifiersBehindType = Grown (Each TypePart specifiers ∷ []) ∷ []
yields StorageClassSpecifier = ATree (ASpecifier ∷ []) ∷ []
yields TypeQualifier = ATree (AQualifier ∷ []) ∷ []
yields TypeWord = ATree (ASpecifier ∷ []) ∷ []
yields StructOrUnionSpecifier = ATree (ASpecifier ∷ []) ∷ []
yields TagOrMembers = AList (Perhaps TypePart (AMemberList ∷ []) ∷ []) ∷ AWord ∷ AWord ∷ AList (Each TypePart attribute_lists ∷ []) ∷ AWord ∷ []
yields MembersBehindTag = AList (Perhaps TypePart (AMemberList ∷ []) ∷ []) ∷ AWord ∷ AWord ∷ AList (Each TypePart attribute_lists ∷ []) ∷ AWord ∷ []
yields MemberDeclarations = Grown (Each TypePart members ∷ []) ∷ []
yields MemberDeclaration = ATree members ∷ []
yields MemberDeclarators = AList (MemberSlots ∷ []) ∷ ATree (SpecifierList ∷ []) ∷ []
yields FurtherMemberDeclarators = Grown (MemberSlots ∷ []) ∷ []
yields MemberDeclarator = Grown (MemberSlots ∷ []) ∷ []
yields OptionalWidth = Grown (Perhaps Unevaluated (AWidth ∷ []) ∷ []) ∷ []
yields EnumSpecifier = ATree (ASpecifier ∷ []) ∷ []
yields TagOrEnumerators = AList (Each TypePart (AnEnumerator ∷ []) ∷ []) ∷ AWord ∷ AWord ∷ AList (Each TypePart attribute_lists ∷ []) ∷ AWord ∷ []
yields EnumeratorsBehindTag = AList (Each TypePart (AnEnumerator ∷ []) ∷ []) ∷ AWord ∷ AWord ∷ AList (Each TypePart attribute_lists ∷ []) ∷ AWord ∷ []
yields Enumerator = Grown (One TypePart (AnEnumerator ∷ []) ∷ []) ∷ []
yields OptionalEnumeratorValue = Grown (Perhaps Unevaluated expressions ∷ []) ∷ []
yields FurtherEnumerators = Grown (Each TypePart (AnEnumerator ∷ []) ∷ []) ∷ []
yields EnumeratorsBehindComma = Grown (Each TypePart (AnEnumerator ∷ []) ∷ []) ∷ []
yields AttributeLists = Grown (Each TypePart attribute_lists ∷ []) ∷ []
yields AttributeList = ATree attribute_lists ∷ []
yields FurtherAttributes = Grown (Each TypePart (AnAttribute ∷ []) ∷ []) ∷ []
yields Attribute = Grown (Each TypePart (AnAttribute ∷ []) ∷ []) ∷ []
yields AttributeArguments = []
yields BalancedTokens = []
yields TypeofSpecifier = ATree (ASpecifier ∷ []) ∷ []
yields TypeofOperand = ATree (ASpecifier ∷ []) ∷ []
yields TypeName = ATree (ATypeName ∷ []) ∷ []
yields Declarator = AList (Each TypePart (ADeclaratorPart ∷ []) ∷ []) ∷ AWord ∷ []
yields Pointers = Grown (Each TypePart (ADeclaratorPart ∷ []) ∷ []) ∷ []
yields PointerQualifiers = Grown (Each TypePart qualifiers ∷ []) ∷ []
yields DirectDeclarator = AList (Each TypePart (ADeclaratorPart ∷ []) ∷ []) ∷ AWord ∷ []
yields DeclaratorSuffixes = Grown (Each TypePart (ADeclaratorPart ∷ []) ∷ []) ∷ []
yields ArraySize = Grown (Perhaps Unevaluated expressions ∷ []) ∷ []
yields Parameters = Grown (Each TypePart (AParameter ∷ []) ∷ Perhaps TypePart (AnEllipsis ∷ []) ∷ []) ∷ []
yields FurtherParameters = Grown (Each TypePart (AParameter ∷ []) ∷ Perhaps TypePart (AnEllipsis ∷ []) ∷ []) ∷ []
yields ParameterOrEllipsis = Grown (Each TypePart (AParameter ∷ []) ∷ Perhaps TypePart (AnEllipsis ∷ []) ∷ []) ∷ []
yields Parameter = Grown (One TypePart (AParameter ∷ []) ∷ []) ∷ []
yields AnyDeclarator = AList (Each TypePart (ADeclaratorPart ∷ []) ∷ []) ∷ AWord ∷ []
yields AnyDirectDeclarator = AList (Each TypePart (ADeclaratorPart ∷ []) ∷ []) ∷ AWord ∷ []
yields Initializer = ATree initial_values ∷ []
yields InitializerItems = Grown (Each Evaluated (AnItem ∷ []) ∷ []) ∷ []
yields FurtherInitializerItems = Grown (Each Evaluated (AnItem ∷ []) ∷ []) ∷ []
yields InitializerItem = ATree (AnItem ∷ []) ∷ []
yields Designator = Grown (Each Unevaluated (ADesignator ∷ []) ∷ []) ∷ []
yields FurtherDesignators = Grown (Each Unevaluated (ADesignator ∷ []) ∷ []) ∷ []
yields StaticAssertion = ATree (AnAssertion ∷ []) ∷ []
yields CompoundStatement = ATree (ACompoundStatement ∷ []) ∷ []
yields BlockItems = Grown (Each Evaluated block_items ∷ []) ∷ []
yields BlockItem = ATree block_items ∷ []
yields Declaration = ATree (ADeclaration ∷ []) ∷ []
yields Declarators = ATree (ADeclaration ∷ []) ∷ []
yields Statement = ATree statements ∷ []
yields OptionalElse = Grown (Perhaps Evaluated statements ∷ []) ∷ []
yields ForInitialization = ATree (ADeclaration ∷ optional_expressions) ∷ []
yields OptionalExpression = Grown (Perhaps Evaluated expressions ∷ []) ∷ []
yields MiddleOperand = Grown (Perhaps Evaluated expressions ∷ []) ∷ []
yields BracedInitializer = ATree (Braces ∷ []) ∷ []
yields Arguments = Grown (Each Evaluated expressions ∷ []) ∷ []
yields FurtherArguments = Grown (Each Evaluated expressions ∷ []) ∷ []
yields OffsetofDesignators = Grown (Each Unevaluated (ADesignator ∷ []) ∷ []) ∷ []
yields StringLiterals = ATree (AString ∷ []) ∷ []
yields FurtherStringLiterals = Grown (Each Evaluated (AStringPiece ∷ []) ∷ []) ∷ []
yields symbol = ATree expressions ∷ []

-- Symbols

-- what is taken serves what is wanted, and no list grows
abbrev pub serve_all : (wanted known : List Known) → Bool
serve_all [] known = true
serve_all (wanted ∷ others) [] = false
serve_all (Grown slots ∷ others) (known ∷ all) = false
serve_all (wanted ∷ others) (known ∷ all) = serves known wanted && serve_all others all

-- the same, and the list that grows is a list
abbrev pub enters : (wanted known : List Known) → Bool
enters (Grown [] ∷ others) (known ∷ all) = is_list known && serve_all others all
enters wanted known = serve_all wanted known

-- the list that grows
abbrev pub growing : (wanted known : List Known) → Known
growing (Grown [] ∷ others) (known ∷ all) = known
growing wanted known = AList []

-- what is left where that list stands
abbrev pub left_for : Known → Known → Known
left_for list (Grown slots) = grown list slots
left_for list known = known

abbrev pub behind_symbol : Symbol → List Known → Option (List Known)
behind_symbol symbol known =
    if enters (wants symbol) known
    then Some (map (left_for (growing (wants symbol) known)) (yields symbol) ++ drop (length (wants symbol)) known)
    else None

-- Actions

abbrev pub known_at : List Known → ℕ → Known
known_at [] depth = AWord
known_at (known ∷ all) zero = known
known_at (known ∷ all) (suc depth) = known_at all depth

abbrev pub before_slots : Role → Known → Option (List Slot) → Option (List Slot)
before_slots role (ATree sorts) (Some slots) = Some (One role sorts ∷ slots)
before_slots role known slots = None

abbrev pub behind_slots : Known → Option (List Slot) → Option (List Slot)
behind_slots (AList slots) (Some more) = Some (slots ++ more)
behind_slots known slots = None

-- the slots that the parts of these sources fit
abbrev pub slots_from : List Source → List Known → Option (List Slot)
slots_from [] known = Some []
slots_from (OneTree role depth ∷ sources) known = before_slots role (known_at known depth) (slots_from sources known)
slots_from (AllTrees depth ∷ sources) known = behind_slots (known_at known depth) (slots_from sources known)

-- a formed node in the place of what is taken
abbrev pub made_known : Shape → List Known → Option (List Slot) → Option (List Known)
made_known shape known None = None
made_known shape known (Some slots) =
    if is_within slots (slots_of shape.kind) && nat_le shape.takes (length known)
    then Some (ATree (sort_of_kind shape.kind ∷ []) ∷ drop shape.takes known) else None

abbrev pub behind_shape : List Known → Option Shape → Option (List Known)
behind_shape known None = None
behind_shape known (Some shape) = made_known shape known (slots_from shape.sources known)

-- where the test holds
abbrev pub where_ : Bool → List Known → Option (List Known)
where_ test known = if test then Some known else None

abbrev pub declarator_parts : List Slot
declarator_parts = Each TypePart (ADeclaratorPart ∷ []) ∷ []

-- what an item of an attribute list may mean
abbrev pub one_attribute : List Slot
one_attribute = Perhaps TypePart (AnAttribute ∷ []) ∷ []

abbrev pub lists_of_attributes : List Slot
lists_of_attributes = Each TypePart attribute_lists ∷ []

-- a node of specifiers in the place of their list and its word
abbrev pub specifiers_known : List Known → Option (List Known)
specifiers_known (AList slots ∷ AWord ∷ known) = where_ (is_within slots (slots_of kinds.Specifiers)) (ATree (SpecifierList ∷ []) ∷ known)
specifiers_known known = None

-- the shape of a type name's node
abbrev pub type_name_shape : Shape
type_name_shape =
    record {
      takes = 2;
      kind = kinds.TypeName;
      place = AtTree 1;
      name = None;
      number = None;
      sources = OneTree TypePart 1 ∷ AllTrees 0 ∷ [];
    }

-- what is known behind an action, where it finds what it needs
abbrev pub behind_known : Action → List Known → Option (List Known)
behind_known BeginList known = Some (AList [] ∷ known)
behind_known BeginAtNext known = Some (AList [] ∷ AWord ∷ known)
behind_known (Append role) (ATree sorts ∷ list ∷ known) = where_ (is_list list) (grown list (One role sorts ∷ []) ∷ known)
behind_known (Append role) known = None
behind_known BeginDeclarators (AList slots ∷ ATree sorts ∷ known) = Some (AList (One Evaluated sorts ∷ slots) ∷ known)
behind_known BeginDeclarators known = None
behind_known AppendDeclarator (AList slots ∷ ATree sorts ∷ list ∷ known) = where_ (is_list list) (grown list (One Evaluated sorts ∷ slots) ∷ known)
behind_known AppendDeclarator known = None
behind_known AppendLeadingAttributes (AList slots ∷ list ∷ known) =
    where_ (is_list list && is_within slots lists_of_attributes) (grown list (Perhaps TypePart (LeadingLists ∷ []) ∷ []) ∷ known)
behind_known AppendLeadingAttributes known = None
behind_known BindDeclarator (ATree sorts ∷ known) = Some (ATree sorts ∷ known)
behind_known BindDeclarator known = None
behind_known BindFurtherDeclarator (ATree sorts ∷ known) = Some (ATree sorts ∷ known)
behind_known BindFurtherDeclarator known = None
behind_known NoteFunctionDeclarator known = Some known
behind_known AwaitBody (AList slots ∷ ATree sorts ∷ known) = Some (AList slots ∷ ATree sorts ∷ known)
behind_known AwaitBody known = None
behind_known MakeFileSpecifiers known = specifiers_known known
behind_known MakeBlockSpecifiers known = specifiers_known known
behind_known MakeMemberSpecifiers known = specifiers_known known
behind_known MakeParameterSpecifiers known = specifiers_known known
behind_known MakeTypeNameSpecifiers known = specifiers_known known
behind_known RequireType known = Some known
behind_known RequireTypeOrAttributes known = Some known
behind_known DeclareTag (ATree sorts ∷ known) = Some (ATree sorts ∷ known)
behind_known DeclareTag known = None
behind_known UseTypedefName (AWord ∷ known) = Some (ATree (ASpecifier ∷ []) ∷ known)
behind_known UseTypedefName known = None
behind_known DefineTag known = Some (AWord ∷ known)
behind_known UseTag known = Some (AWord ∷ known)
behind_known WithoutTag known = Some (AWord ∷ AWord ∷ known)
behind_known BindEnumerator (ATree sorts ∷ known) = Some (ATree sorts ∷ known)
behind_known BindEnumerator known = None
behind_known MakeAttributeList (AList slots ∷ AWord ∷ known) = where_ (is_within slots (slots_of kinds.AttributeList)) (ATree attribute_lists ∷ known)
behind_known MakeAttributeList known = None
behind_known AppendAttribute (AWord ∷ list ∷ known) = where_ (is_list list) (grown list one_attribute ∷ known)
behind_known AppendAttribute known = None
behind_known JoinParts (AList slots ∷ AWord ∷ AList first ∷ known) = Some (AList (first ++ slots) ∷ AWord ∷ known)
behind_known JoinParts known = None
behind_known JoinAnyParts (AList slots ∷ AWord ∷ AList first ∷ AWord ∷ known) = Some (AList (first ++ slots) ∷ AWord ∷ known)
behind_known JoinAnyParts known = None
behind_known JoinSuffixes (AList suffixes ∷ AList inner ∷ known) =
    where_ (is_within suffixes declarator_parts) (AList (Each TypePart (ADeclaratorPart ∷ []) ∷ inner) ∷ known)
behind_known JoinSuffixes known = None
behind_known MakeParenthesizedAttributes (AList slots ∷ AWord ∷ known) =
    where_ (is_within slots lists_of_attributes) (AList (Perhaps TypePart (ADeclaratorPart ∷ []) ∷ []) ∷ known)
behind_known MakeParenthesizedAttributes known = None
behind_known MakeOptionalDeclarator (AList slots ∷ AWord ∷ known) =
    where_ (is_within slots declarator_parts) (AList (Perhaps TypePart (ADeclarator ∷ []) ∷ []) ∷ known)
behind_known MakeOptionalDeclarator known = None
behind_known MakeTypeName known = behind_shape known (Some type_name_shape)
behind_known CountParameter known = Some known
behind_known BindParameter (AList slots ∷ known) = Some (AList slots ∷ known)
behind_known BindParameter known = None
behind_known CloseParameters known = Some known
behind_known OpenScope known = Some known
behind_known CloseScope known = Some known
behind_known OpenBody known = Some known
behind_known MakeForPart (AWord ∷ AList slots ∷ known) =
    where_ (is_within slots (Perhaps Evaluated expressions ∷ [])) (ATree optional_expressions ∷ known)
behind_known MakeForPart known = None
behind_known UseName (AWord ∷ known) = Some (ATree (AnExpression ∷ []) ∷ known)
behind_known UseName known = None
behind_known MakeContextStatement (AWord ∷ known) = Some (ATree (AStatement ∷ []) ∷ known)
behind_known MakeContextStatement known = None
behind_known MakeIntegerConstant (AWord ∷ known) = Some (ATree (AConstant ∷ []) ∷ known)
behind_known MakeIntegerConstant known = None
behind_known MakeCharacterConstant (AWord ∷ known) = Some (ATree (AnExpression ∷ []) ∷ known)
behind_known MakeCharacterConstant known = None
behind_known MakeStringLiteral (AList slots ∷ AWord ∷ known) = where_ (is_within slots (slots_of kinds.StringLiteral)) (ATree (AString ∷ []) ∷ known)
behind_known MakeStringLiteral known = None
-- each other one makes the node of its shape
behind_known action known = behind_shape known (shape_of action)

-- Items

abbrev pub behind_item : ProductionItem → List Known → Option (List Known)
behind_item (Token class_) known = where_ (not (is_same class_ End)) (AWord ∷ known)
behind_item (Passed class_) known = Some known
behind_item PassedAny known = Some known
behind_item Name known = Some (AWord ∷ known)
behind_item LabelName known = Some (AWord ∷ known)
behind_item AttributeWord known = Some (AWord ∷ known)
behind_item CaseColon known = Some known
behind_item DesignatorEnd known = Some known
behind_item (Nonterminal symbol) known = behind_symbol symbol known
behind_item (Do action) known = behind_known action known

abbrev pub behind_items : List ProductionItem → Option (List Known) → Option (List Known)
behind_items [] known = known
behind_items (item ∷ items) known = behind_items items (option_and_then (behind_item item) known)

-- Rows

abbrev pub comes_to : List Known → Option (List Known) → Bool
comes_to wanted None = false
comes_to wanted (Some known) = all_serve known wanted

-- a row leaves what its symbol does
abbrev pub keeps_known : Symbol → List ProductionItem → Bool
keeps_known symbol row = comes_to (yields symbol) (behind_items row (Some (wants symbol)))
