-- Lists of classes by name.
use Rattle.std.specs.Prelude.{List, [], ◌∷◌, ◌++◌}
use Rattle.vocabulary.specs.declared.token_class.TokenClass.{TokenClass}
use Rattle.vocabulary.specs.declared.token_class.TokenClass.TheVariants.{LeftBracket, LeftParenthesis, LeftBrace, PlusPlus, MinusMinus, Ampersand, Star, Plus, Minus, Tilde, Exclamation, Semicolon, Assign, StarAssign, SlashAssign, PercentAssign, PlusAssign, MinusAssign, ShiftLeftAssign, ShiftRightAssign, AndAssign, XorAssign, OrAssign, TypedefKeyword, ExternKeyword, StaticKeyword, AutoKeyword, RegisterKeyword, InlineKeyword, NoreturnKeyword, ConstKeyword, VolatileKeyword, RestrictKeyword, VoidKeyword, CharKeyword, ShortKeyword, IntKeyword, LongKeyword, SignedKeyword, UnsignedKeyword, BoolKeyword, StructKeyword, UnionKeyword, EnumKeyword, TypeofKeyword, AttributeKeyword, StaticAssertKeyword, CaseKeyword, DefaultKeyword, IfKeyword, ElseKeyword, SwitchKeyword, WhileKeyword, DoKeyword, ForKeyword, GotoKeyword, ContinueKeyword, BreakKeyword, ReturnKeyword, ContextKeyword, SizeofKeyword, AlignofKeyword, BuiltinExpectKeyword, BuiltinOffsetofKeyword, Identifier, TypedefName, Number, Character, String, OtherKeyword}

-- names
abbrev pub names : List TokenClass
names = Identifier ∷ TypedefName ∷ []

-- storage-class and function specifiers (6.7.1, 6.7.4)
abbrev pub storage_classes : List TokenClass
storage_classes = TypedefKeyword ∷ ExternKeyword ∷ StaticKeyword ∷ AutoKeyword ∷ RegisterKeyword ∷ InlineKeyword ∷ NoreturnKeyword ∷ []

-- type qualifiers (6.7.3)
abbrev pub type_qualifiers : List TokenClass
type_qualifiers = ConstKeyword ∷ VolatileKeyword ∷ RestrictKeyword ∷ []

-- type specifiers of one word (6.7.2)
abbrev pub type_words : List TokenClass
type_words = VoidKeyword ∷ CharKeyword ∷ ShortKeyword ∷ IntKeyword ∷ LongKeyword ∷ SignedKeyword ∷ UnsignedKeyword ∷ BoolKeyword ∷ []

-- keywords with which a declaration or a type name begins, but for `__attribute__`
abbrev pub keyword_type_start : List TokenClass
keyword_type_start = storage_classes ++ type_qualifiers ++ type_words ++ StructKeyword ∷ UnionKeyword ∷ EnumKeyword ∷ TypeofKeyword ∷ []

-- all with which one begins
abbrev pub type_start : List TokenClass
type_start = keyword_type_start ++ TypedefName ∷ AttributeKeyword ∷ []

-- with which a declarator begins
abbrev pub declarator_start : List TokenClass
declarator_start = Star ∷ LeftParenthesis ∷ names

-- with which one begins that needs no name
abbrev pub any_declarator_start : List TokenClass
any_declarator_start = LeftBracket ∷ declarator_start

-- with which an expression begins besides a name and `(`
abbrev pub plain_operand_start : List TokenClass
plain_operand_start = Number ∷ Character ∷ String ∷ Ampersand ∷ Star ∷ Plus ∷ Minus ∷ Tilde ∷ Exclamation ∷ PlusPlus ∷ MinusMinus ∷ SizeofKeyword ∷ AlignofKeyword ∷ BuiltinExpectKeyword ∷ BuiltinOffsetofKeyword ∷ []

-- with which an expression begins
abbrev pub expression_start : List TokenClass
expression_start = Identifier ∷ LeftParenthesis ∷ plain_operand_start

-- keywords with which a statement begins
abbrev pub statement_keywords : List TokenClass
statement_keywords = CaseKeyword ∷ DefaultKeyword ∷ IfKeyword ∷ SwitchKeyword ∷ WhileKeyword ∷ DoKeyword ∷ ForKeyword ∷ GotoKeyword ∷ ContinueKeyword ∷ BreakKeyword ∷ ReturnKeyword ∷ ContextKeyword ∷ []

-- with which a statement begins besides a name and attributes
abbrev pub other_statement_start : List TokenClass
other_statement_start = LeftBrace ∷ statement_keywords ++ Semicolon ∷ LeftParenthesis ∷ plain_operand_start

-- assignment operators (6.5.16)
abbrev pub assignment_operators : List TokenClass
assignment_operators = Assign ∷ StarAssign ∷ SlashAssign ∷ PercentAssign ∷ PlusAssign ∷ MinusAssign ∷ ShiftLeftAssign ∷ ShiftRightAssign ∷ AndAssign ∷ XorAssign ∷ OrAssign ∷ []

-- names and keywords: what the word of an attribute can be
abbrev pub attribute_words : List TokenClass
attribute_words = names ++ OtherKeyword ∷ TypedefKeyword ∷ ExternKeyword ∷ StaticKeyword ∷ AutoKeyword ∷ RegisterKeyword ∷ InlineKeyword ∷ NoreturnKeyword ∷ ConstKeyword ∷ VolatileKeyword ∷ RestrictKeyword ∷ VoidKeyword ∷ CharKeyword ∷ ShortKeyword ∷ IntKeyword ∷ LongKeyword ∷ SignedKeyword ∷ UnsignedKeyword ∷ BoolKeyword ∷ StructKeyword ∷ UnionKeyword ∷ EnumKeyword ∷ TypeofKeyword ∷ AttributeKeyword ∷ StaticAssertKeyword ∷ CaseKeyword ∷ DefaultKeyword ∷ IfKeyword ∷ ElseKeyword ∷ SwitchKeyword ∷ WhileKeyword ∷ DoKeyword ∷ ForKeyword ∷ GotoKeyword ∷ ContinueKeyword ∷ BreakKeyword ∷ ReturnKeyword ∷ ContextKeyword ∷ SizeofKeyword ∷ AlignofKeyword ∷ BuiltinExpectKeyword ∷ BuiltinOffsetofKeyword ∷ []
