-- Which parts a node of each kind has: of what kinds, in what roles and in what order. `NodeKind` says the same in words.
use Rattle.std.specs.Prelude.{◌≡◌, ℕ, Bool, true, false, ◌||◌, List, [], ◌∷◌, ◌++◌, nat_eq}
use Rattle.vocabulary.specs.declared.node_kind.NodeKind.{NodeKind}
use Rattle.vocabulary.specs.declared.node_kind.NodeKind.TheVariants.{TranslationUnit, EmptyDeclaration, StaticAssertion, Declaration, FunctionDefinition, LeadingAttributes, Specifiers, TypedefSpecifier, ExternSpecifier, StaticSpecifier, AutoSpecifier, RegisterSpecifier, InlineSpecifier, NoreturnSpecifier, ConstQualifier, VolatileQualifier, RestrictQualifier, VoidSpecifier, CharSpecifier, ShortSpecifier, IntSpecifier, LongSpecifier, SignedSpecifier, UnsignedSpecifier, BoolSpecifier, TypedefName, StructSpecifier, UnionSpecifier, EnumSpecifier, TypeofType, TypeofExpression, MemberList, MemberDeclaration, BitFieldWidth, Enumerator, Declarator, PointerDeclarator, ArrayDeclarator, FunctionDeclarator, ParenthesizedAttributes, Parameter, Ellipsis, TypeName, AttributeList, NoderefAttribute, AddressSpaceAttribute, BitwiseAttribute, ForceAttribute, PackedAttribute, AlignedAttribute, NoreturnAttribute, ContextAttribute, Initializer, BracedInitializer, InitializerItem, MemberDesignator, IndexDesignator, CompoundStatement, LabelStatement, CaseStatement, DefaultStatement, ExpressionStatement, AttributeStatement, IfStatement, SwitchStatement, WhileStatement, DoStatement, ForStatement, OmittedExpression, GotoStatement, ContinueStatement, BreakStatement, ReturnStatement, ContextStatement, IntegerConstant, StringLiteral, StringPiece, Parenthesized, StatementExpression, Subscript, Call, Member, PointerMember, PostIncrement, PostDecrement, CompoundLiteral, BuiltinExpect, BuiltinOffsetof, PreIncrement, PreDecrement, Address, Indirection, UnaryPlus, Negation, Complement, LogicalNot, SizeofExpression, SizeofType, AlignofType, Cast, Multiplication, Division, Remainder, Addition, Subtraction, LeftShift, RightShift, Less, Greater, LessOrEqual, GreaterOrEqual, Equal, NotEqual, BitwiseAnd, BitwiseExclusiveOr, BitwiseOr, LogicalAnd, LogicalOr, Conditional, Assignment, MultiplicationAssignment, DivisionAssignment, RemainderAssignment, AdditionAssignment, SubtractionAssignment, LeftShiftAssignment, RightShiftAssignment, BitwiseAndAssignment, BitwiseExclusiveOrAssignment, BitwiseOrAssignment, Comma}
use Rattle.vocabulary.specs.declared.role.Role.{Role}
use Rattle.vocabulary.specs.declared.role.Role.TheVariants.{Evaluated, Condition, TypePart, Unevaluated}
use Rattle.meaning_tree.specs.Trees.{Tree, Node, Parts, NoParts, Part}
use Rattle.meaning_tree.specs.Nodes.{NodeList, IsTreeOf}

-- Sorts of parts

-- What a node is for the node above it.
pub data PartSort : Type 0 where
  AUnit : PartSort
  AnEmptyDeclaration : PartSort
  AnAssertion : PartSort
  ADeclaration : PartSort
  AFunction : PartSort
  LeadingLists : PartSort
  SpecifierList : PartSort
  ASpecifier : PartSort
  AQualifier : PartSort
  AMemberList : PartSort
  AMember : PartSort
  AWidth : PartSort
  AnEnumerator : PartSort
  ADeclarator : PartSort
  ADeclaratorPart : PartSort
  AParameter : PartSort
  AnEllipsis : PartSort
  ATypeName : PartSort
  ListOfAttributes : PartSort
  AnAttribute : PartSort
  AnInitializer : PartSort
  Braces : PartSort
  AnItem : PartSort
  ADesignator : PartSort
  ACompoundStatement : PartSort
  AStatement : PartSort
  AnOmission : PartSort
  AStringPiece : PartSort
  AString : PartSort
  AConstant : PartSort
  AnExpression : PartSort

-- each kind is of one sort
abbrev pub sort_of_kind : NodeKind → PartSort
sort_of_kind TranslationUnit = AUnit
sort_of_kind EmptyDeclaration = AnEmptyDeclaration
sort_of_kind StaticAssertion = AnAssertion
sort_of_kind Declaration = ADeclaration
sort_of_kind FunctionDefinition = AFunction
sort_of_kind LeadingAttributes = LeadingLists
sort_of_kind Specifiers = SpecifierList
sort_of_kind TypedefSpecifier = ASpecifier
sort_of_kind ExternSpecifier = ASpecifier
sort_of_kind StaticSpecifier = ASpecifier
sort_of_kind AutoSpecifier = ASpecifier
sort_of_kind RegisterSpecifier = ASpecifier
sort_of_kind InlineSpecifier = ASpecifier
sort_of_kind NoreturnSpecifier = ASpecifier
sort_of_kind VoidSpecifier = ASpecifier
sort_of_kind CharSpecifier = ASpecifier
sort_of_kind ShortSpecifier = ASpecifier
sort_of_kind IntSpecifier = ASpecifier
sort_of_kind LongSpecifier = ASpecifier
sort_of_kind SignedSpecifier = ASpecifier
sort_of_kind UnsignedSpecifier = ASpecifier
sort_of_kind BoolSpecifier = ASpecifier
sort_of_kind TypedefName = ASpecifier
sort_of_kind StructSpecifier = ASpecifier
sort_of_kind UnionSpecifier = ASpecifier
sort_of_kind EnumSpecifier = ASpecifier
sort_of_kind TypeofType = ASpecifier
sort_of_kind TypeofExpression = ASpecifier
sort_of_kind ConstQualifier = AQualifier
sort_of_kind VolatileQualifier = AQualifier
sort_of_kind RestrictQualifier = AQualifier
sort_of_kind MemberList = AMemberList
sort_of_kind MemberDeclaration = AMember
sort_of_kind BitFieldWidth = AWidth
sort_of_kind Enumerator = AnEnumerator
sort_of_kind Declarator = ADeclarator
sort_of_kind PointerDeclarator = ADeclaratorPart
sort_of_kind ArrayDeclarator = ADeclaratorPart
sort_of_kind FunctionDeclarator = ADeclaratorPart
sort_of_kind ParenthesizedAttributes = ADeclaratorPart
sort_of_kind Parameter = AParameter
sort_of_kind Ellipsis = AnEllipsis
sort_of_kind TypeName = ATypeName
sort_of_kind AttributeList = ListOfAttributes
sort_of_kind NoderefAttribute = AnAttribute
sort_of_kind AddressSpaceAttribute = AnAttribute
sort_of_kind BitwiseAttribute = AnAttribute
sort_of_kind ForceAttribute = AnAttribute
sort_of_kind PackedAttribute = AnAttribute
sort_of_kind AlignedAttribute = AnAttribute
sort_of_kind NoreturnAttribute = AnAttribute
sort_of_kind ContextAttribute = AnAttribute
sort_of_kind Initializer = AnInitializer
sort_of_kind BracedInitializer = Braces
sort_of_kind InitializerItem = AnItem
sort_of_kind MemberDesignator = ADesignator
sort_of_kind IndexDesignator = ADesignator
sort_of_kind CompoundStatement = ACompoundStatement
sort_of_kind LabelStatement = AStatement
sort_of_kind CaseStatement = AStatement
sort_of_kind DefaultStatement = AStatement
sort_of_kind ExpressionStatement = AStatement
sort_of_kind AttributeStatement = AStatement
sort_of_kind IfStatement = AStatement
sort_of_kind SwitchStatement = AStatement
sort_of_kind WhileStatement = AStatement
sort_of_kind DoStatement = AStatement
sort_of_kind ForStatement = AStatement
sort_of_kind GotoStatement = AStatement
sort_of_kind ContinueStatement = AStatement
sort_of_kind BreakStatement = AStatement
sort_of_kind ReturnStatement = AStatement
sort_of_kind ContextStatement = AStatement
sort_of_kind OmittedExpression = AnOmission
sort_of_kind StringPiece = AStringPiece
sort_of_kind StringLiteral = AString
sort_of_kind (IntegerConstant kind) = AConstant
sort_of_kind kind = AnExpression

abbrev pub sort_number : PartSort → ℕ
sort_number AUnit = 0
sort_number AnEmptyDeclaration = 1
sort_number AnAssertion = 2
sort_number ADeclaration = 3
sort_number AFunction = 4
sort_number LeadingLists = 5
sort_number SpecifierList = 6
sort_number ASpecifier = 7
sort_number AQualifier = 8
sort_number AMemberList = 9
sort_number AMember = 10
sort_number AWidth = 11
sort_number AnEnumerator = 12
sort_number ADeclarator = 13
sort_number ADeclaratorPart = 14
sort_number AParameter = 15
sort_number AnEllipsis = 16
sort_number ATypeName = 17
sort_number ListOfAttributes = 18
sort_number AnAttribute = 19
sort_number AnInitializer = 20
sort_number Braces = 21
sort_number AnItem = 22
sort_number ADesignator = 23
sort_number ACompoundStatement = 24
sort_number AStatement = 25
sort_number AnOmission = 26
sort_number AStringPiece = 27
sort_number AString = 28
sort_number AConstant = 29
sort_number AnExpression = 30

abbrev pub is_among_sorts : PartSort → List PartSort → Bool
is_among_sorts sort [] = false
is_among_sorts sort (other ∷ others) = nat_eq (sort_number sort) (sort_number other) || is_among_sorts sort others

-- the kind of a tree
abbrev pub kind_of : {Spelling : Type 0} → Tree Spelling → NodeKind
kind_of (Node kind token name number parts) = kind

-- a tree is of one of these sorts
abbrev pub IsOf : {Spelling : Type 0} → List PartSort → Tree Spelling → Type 0
IsOf sorts tree = is_among_sorts (sort_of_kind (kind_of tree)) sorts ≡ true

-- What may stand where

abbrev pub expressions : List PartSort
expressions = AnExpression ∷ AString ∷ AConstant ∷ []

abbrev pub statements : List PartSort
statements = AStatement ∷ ACompoundStatement ∷ []

abbrev pub block_items : List PartSort
block_items = ADeclaration ∷ AnAssertion ∷ statements

abbrev pub external_declarations : List PartSort
external_declarations = AFunction ∷ ADeclaration ∷ AnAssertion ∷ AnEmptyDeclaration ∷ []

abbrev pub members : List PartSort
members = AMember ∷ AnAssertion ∷ AnEmptyDeclaration ∷ []

abbrev pub qualifiers : List PartSort
qualifiers = AQualifier ∷ ListOfAttributes ∷ []

abbrev pub specifiers : List PartSort
specifiers = ASpecifier ∷ qualifiers

-- what an object begins with
abbrev pub initial_values : List PartSort
initial_values = Braces ∷ expressions

-- a part of `for`
abbrev pub optional_expressions : List PartSort
optional_expressions = AnOmission ∷ expressions

abbrev pub attribute_lists : List PartSort
attribute_lists = ListOfAttributes ∷ []

-- What a node has

-- what may come next among the parts of a node
pub data Slot : Type 0 where
  -- one part in this role, of one of these sorts
  One : Role → List PartSort → Slot
  -- one or none
  Perhaps : Role → List PartSort → Slot
  -- some, or none
  Each : Role → List PartSort → Slot
  -- declarators of a declaration, each with what stands before it and behind it
  DeclaratorSlots : Slot
  -- members of a declaration, each with what stands behind it
  MemberSlots : Slot

-- a declarator with the attributes before it, those behind it, and its initializer
abbrev pub declarator_slots : List Slot
declarator_slots =
    Perhaps TypePart (LeadingLists ∷ []) ∷ One Evaluated (ADeclarator ∷ []) ∷ Each TypePart attribute_lists ∷ Perhaps Evaluated (AnInitializer ∷ []) ∷ []

-- a member; the declarator of a bit-field without a name has nothing
abbrev pub member_slots : List Slot
member_slots = One TypePart (ADeclarator ∷ []) ∷ Perhaps Unevaluated (AWidth ∷ []) ∷ Each TypePart attribute_lists ∷ []

-- these parts are what may come
pub data Fits {Spelling : Type 0} : List Slot → Parts Spelling → Type 0 where
  nothing : Fits [] NoParts
  one : {role : Role} {sorts : List PartSort} {slots : List Slot} {tree : Tree Spelling} {parts : Parts Spelling}
      → IsOf sorts tree → Fits slots parts → Fits (One role sorts ∷ slots) (Part role tree parts)
  left_out : {role : Role} {sorts : List PartSort} {slots : List Slot} {parts : Parts Spelling}
      → Fits slots parts → Fits (Perhaps role sorts ∷ slots) parts
  there : {role : Role} {sorts : List PartSort} {slots : List Slot} {tree : Tree Spelling} {parts : Parts Spelling}
      → IsOf sorts tree → Fits slots parts → Fits (Perhaps role sorts ∷ slots) (Part role tree parts)
  no_more : {role : Role} {sorts : List PartSort} {slots : List Slot} {parts : Parts Spelling}
      → Fits slots parts → Fits (Each role sorts ∷ slots) parts
  one_more : {role : Role} {sorts : List PartSort} {slots : List Slot} {tree : Tree Spelling} {parts : Parts Spelling}
      → IsOf sorts tree → Fits (Each role sorts ∷ slots) parts → Fits (Each role sorts ∷ slots) (Part role tree parts)
  no_declarator : {slots : List Slot} {parts : Parts Spelling} → Fits slots parts → Fits (DeclaratorSlots ∷ slots) parts
  declarator : {slots : List Slot} {parts : Parts Spelling}
      → Fits (declarator_slots ++ DeclaratorSlots ∷ slots) parts → Fits (DeclaratorSlots ∷ slots) parts
  no_member : {slots : List Slot} {parts : Parts Spelling} → Fits slots parts → Fits (MemberSlots ∷ slots) parts
  member : {slots : List Slot} {parts : Parts Spelling}
      → Fits (member_slots ++ MemberSlots ∷ slots) parts → Fits (MemberSlots ∷ slots) parts

-- two operands
abbrev pub two : Role → List Slot
two role = One role expressions ∷ One role expressions ∷ []

-- the parts of a node
abbrev pub slots_of : NodeKind → List Slot
slots_of TranslationUnit = Each Evaluated external_declarations ∷ []
slots_of StaticAssertion = One Unevaluated expressions ∷ One Unevaluated (AString ∷ []) ∷ []
slots_of Declaration = One TypePart (SpecifierList ∷ []) ∷ DeclaratorSlots ∷ []
slots_of FunctionDefinition =
    One TypePart (SpecifierList ∷ []) ∷ One TypePart (ADeclarator ∷ []) ∷ Each TypePart attribute_lists ∷ One Evaluated (ACompoundStatement ∷ []) ∷ []
slots_of LeadingAttributes = One TypePart attribute_lists ∷ Each TypePart attribute_lists ∷ []
slots_of Specifiers = Each TypePart specifiers ∷ []
slots_of StructSpecifier = Each TypePart attribute_lists ∷ Perhaps TypePart (AMemberList ∷ []) ∷ []
slots_of UnionSpecifier = Each TypePart attribute_lists ∷ Perhaps TypePart (AMemberList ∷ []) ∷ []
slots_of EnumSpecifier = Each TypePart attribute_lists ∷ Each TypePart (AnEnumerator ∷ []) ∷ []
slots_of TypeofType = One TypePart (ATypeName ∷ []) ∷ []
slots_of TypeofExpression = One Unevaluated expressions ∷ []
slots_of MemberList = Each TypePart members ∷ []
slots_of MemberDeclaration = One TypePart (SpecifierList ∷ []) ∷ MemberSlots ∷ []
slots_of BitFieldWidth = One Unevaluated expressions ∷ []
slots_of Enumerator = Each TypePart attribute_lists ∷ Perhaps Unevaluated expressions ∷ []
slots_of Declarator = Each TypePart (ADeclaratorPart ∷ []) ∷ []
slots_of PointerDeclarator = Each TypePart qualifiers ∷ []
slots_of ArrayDeclarator = Perhaps Unevaluated expressions ∷ []
slots_of FunctionDeclarator = Each TypePart (AParameter ∷ []) ∷ Perhaps TypePart (AnEllipsis ∷ []) ∷ []
slots_of ParenthesizedAttributes = One TypePart attribute_lists ∷ Each TypePart attribute_lists ∷ []
slots_of Parameter = One TypePart (SpecifierList ∷ []) ∷ Perhaps TypePart (ADeclarator ∷ []) ∷ Each TypePart attribute_lists ∷ []
slots_of TypeName = One TypePart (SpecifierList ∷ []) ∷ Perhaps TypePart (ADeclarator ∷ []) ∷ []
slots_of AttributeList = Each TypePart (AnAttribute ∷ []) ∷ []
slots_of ContextAttribute = One TypePart (AConstant ∷ []) ∷ One TypePart (AConstant ∷ []) ∷ []
slots_of Initializer = One Evaluated initial_values ∷ []
slots_of BracedInitializer = Each Evaluated (AnItem ∷ []) ∷ []
slots_of InitializerItem = Each Unevaluated (ADesignator ∷ []) ∷ One Evaluated initial_values ∷ []
slots_of IndexDesignator = One Unevaluated expressions ∷ []
slots_of CompoundStatement = Each Evaluated block_items ∷ []
slots_of LabelStatement = One Evaluated statements ∷ []
slots_of CaseStatement = One Unevaluated expressions ∷ One Evaluated statements ∷ []
slots_of DefaultStatement = One Evaluated statements ∷ []
slots_of ExpressionStatement = Perhaps Evaluated expressions ∷ []
slots_of AttributeStatement = One TypePart attribute_lists ∷ Each TypePart attribute_lists ∷ []
slots_of IfStatement = One Condition expressions ∷ One Evaluated statements ∷ Perhaps Evaluated statements ∷ []
slots_of SwitchStatement = One Condition expressions ∷ One Evaluated statements ∷ []
slots_of WhileStatement = One Condition expressions ∷ One Evaluated statements ∷ []
slots_of DoStatement = One Evaluated statements ∷ One Condition expressions ∷ []
slots_of ForStatement =
    One Evaluated (ADeclaration ∷ optional_expressions) ∷ One Condition optional_expressions ∷ One Evaluated optional_expressions ∷ One Evaluated statements ∷ []
slots_of ReturnStatement = Perhaps Evaluated expressions ∷ []
slots_of StringLiteral = One Evaluated (AStringPiece ∷ []) ∷ Each Evaluated (AStringPiece ∷ []) ∷ []
slots_of Parenthesized = One Evaluated expressions ∷ []
slots_of StatementExpression = One Evaluated (ACompoundStatement ∷ []) ∷ []
slots_of Subscript = two Evaluated
slots_of Call = One Evaluated expressions ∷ Each Evaluated expressions ∷ []
slots_of Member = One Evaluated expressions ∷ []
slots_of PointerMember = One Evaluated expressions ∷ []
slots_of PostIncrement = One Evaluated expressions ∷ []
slots_of PostDecrement = One Evaluated expressions ∷ []
slots_of CompoundLiteral = One TypePart (ATypeName ∷ []) ∷ One Evaluated (Braces ∷ []) ∷ []
slots_of BuiltinExpect = two Evaluated
slots_of BuiltinOffsetof = One TypePart (ATypeName ∷ []) ∷ Each Unevaluated (ADesignator ∷ []) ∷ []
slots_of PreIncrement = One Evaluated expressions ∷ []
slots_of PreDecrement = One Evaluated expressions ∷ []
slots_of Address = One Evaluated expressions ∷ []
slots_of Indirection = One Evaluated expressions ∷ []
slots_of UnaryPlus = One Evaluated expressions ∷ []
slots_of Negation = One Evaluated expressions ∷ []
slots_of Complement = One Evaluated expressions ∷ []
slots_of LogicalNot = One Condition expressions ∷ []
slots_of SizeofExpression = One Unevaluated expressions ∷ []
slots_of SizeofType = One TypePart (ATypeName ∷ []) ∷ []
slots_of AlignofType = One TypePart (ATypeName ∷ []) ∷ []
slots_of Cast = One TypePart (ATypeName ∷ []) ∷ One Evaluated expressions ∷ []
slots_of Multiplication = two Evaluated
slots_of Division = two Evaluated
slots_of Remainder = two Evaluated
slots_of Addition = two Evaluated
slots_of Subtraction = two Evaluated
slots_of LeftShift = two Evaluated
slots_of RightShift = two Evaluated
slots_of Less = two Evaluated
slots_of Greater = two Evaluated
slots_of LessOrEqual = two Evaluated
slots_of GreaterOrEqual = two Evaluated
slots_of Equal = two Evaluated
slots_of NotEqual = two Evaluated
slots_of BitwiseAnd = two Evaluated
slots_of BitwiseExclusiveOr = two Evaluated
slots_of BitwiseOr = two Evaluated
slots_of LogicalAnd = two Condition
slots_of LogicalOr = two Condition
slots_of Conditional = One Condition expressions ∷ Perhaps Evaluated expressions ∷ One Evaluated expressions ∷ []
slots_of Assignment = two Evaluated
slots_of MultiplicationAssignment = two Evaluated
slots_of DivisionAssignment = two Evaluated
slots_of RemainderAssignment = two Evaluated
slots_of AdditionAssignment = two Evaluated
slots_of SubtractionAssignment = two Evaluated
slots_of LeftShiftAssignment = two Evaluated
slots_of RightShiftAssignment = two Evaluated
slots_of BitwiseAndAssignment = two Evaluated
slots_of BitwiseExclusiveOrAssignment = two Evaluated
slots_of BitwiseOrAssignment = two Evaluated
slots_of Comma = two Evaluated
-- each other kind has no parts
slots_of kind = []

-- Trees

abbrev mutual
  -- each node of the tree has the parts that its kind allows
  pub IsFormedTree : {Spelling : Type 0} → Tree Spelling → Type 0
  IsFormedTree (Node kind token name number parts) = Fits (slots_of kind) parts × AreFormedTrees parts

  -- and so in each of these trees
  pub AreFormedTrees : {Spelling : Type 0} → Parts Spelling → Type 0
  AreFormedTrees NoParts = Unit {0}
  AreFormedTrees (Part role tree parts) = IsFormedTree tree × AreFormedTrees parts

-- a finished list stands for a tree of which each node has the parts that its kind allows
abbrev pub IsFormed : {Spelling : Type 0} → NodeList Spelling → Type 0
IsFormed {Spelling} list = (tree : Tree Spelling) → IsTreeOf list tree → IsFormedTree tree
