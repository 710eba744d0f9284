-- The classes of tokens: which are the same, and what is asked of one besides.
use Rattle.std.specs.Prelude.{ℕ, Bool, ◌==◌, List, [], ◌∷◌}
use Rattle.std.specs.List.{list_any}
use Rattle.vocabulary.specs.declared.token_class.TokenClass.{TokenClass}
use Rattle.vocabulary.specs.declared.token_class.TokenClass.TheVariants.{LeftBracket, RightBracket, LeftParenthesis, RightParenthesis, LeftBrace, RightBrace, Dot, Arrow, PlusPlus, MinusMinus, Ampersand, Star, Plus, Minus, Tilde, Exclamation, Slash, Percent, ShiftLeft, ShiftRight, Less, Greater, LessEqual, GreaterEqual, EqualEqual, NotEqual, Caret, Bar, AndAnd, OrOr, Question, Colon, Semicolon, Ellipsis, Assign, StarAssign, SlashAssign, PercentAssign, PlusAssign, MinusAssign, ShiftLeftAssign, ShiftRightAssign, AndAssign, XorAssign, OrAssign, Comma, TypedefKeyword, ExternKeyword, StaticKeyword, AutoKeyword, RegisterKeyword, InlineKeyword, NoreturnKeyword, ConstKeyword, VolatileKeyword, RestrictKeyword, VoidKeyword, CharKeyword, ShortKeyword, IntKeyword, LongKeyword, SignedKeyword, UnsignedKeyword, BoolKeyword, StructKeyword, UnionKeyword, EnumKeyword, TypeofKeyword, AttributeKeyword, StaticAssertKeyword, CaseKeyword, DefaultKeyword, IfKeyword, ElseKeyword, SwitchKeyword, WhileKeyword, DoKeyword, ForKeyword, GotoKeyword, ContinueKeyword, BreakKeyword, ReturnKeyword, ContextKeyword, SizeofKeyword, AlignofKeyword, BuiltinExpectKeyword, BuiltinOffsetofKeyword, Identifier, TypedefName, Number, Character, String, RefusedString, OtherKeyword, OtherToken, End}

-- all classes, in their order
abbrev pub all_token_classes : List TokenClass
all_token_classes = LeftBracket ∷ RightBracket ∷ LeftParenthesis ∷ RightParenthesis ∷ LeftBrace ∷ RightBrace ∷ Dot ∷ Arrow ∷ PlusPlus ∷ MinusMinus ∷ Ampersand ∷ Star ∷ Plus ∷ Minus ∷ Tilde ∷ Exclamation ∷ Slash ∷ Percent ∷ ShiftLeft ∷ ShiftRight ∷ Less ∷ Greater ∷ LessEqual ∷ GreaterEqual ∷ EqualEqual ∷ NotEqual ∷ Caret ∷ Bar ∷ AndAnd ∷ OrOr ∷ Question ∷ Colon ∷ Semicolon ∷ Ellipsis ∷ Assign ∷ StarAssign ∷ SlashAssign ∷ PercentAssign ∷ PlusAssign ∷ MinusAssign ∷ ShiftLeftAssign ∷ ShiftRightAssign ∷ AndAssign ∷ XorAssign ∷ OrAssign ∷ Comma ∷ TypedefKeyword ∷ ExternKeyword ∷ StaticKeyword ∷ AutoKeyword ∷ RegisterKeyword ∷ InlineKeyword ∷ NoreturnKeyword ∷ ConstKeyword ∷ VolatileKeyword ∷ RestrictKeyword ∷ VoidKeyword ∷ CharKeyword ∷ ShortKeyword ∷ IntKeyword ∷ LongKeyword ∷ SignedKeyword ∷ UnsignedKeyword ∷ BoolKeyword ∷ StructKeyword ∷ UnionKeyword ∷ EnumKeyword ∷ TypeofKeyword ∷ AttributeKeyword ∷ StaticAssertKeyword ∷ CaseKeyword ∷ DefaultKeyword ∷ IfKeyword ∷ ElseKeyword ∷ SwitchKeyword ∷ WhileKeyword ∷ DoKeyword ∷ ForKeyword ∷ GotoKeyword ∷ ContinueKeyword ∷ BreakKeyword ∷ ReturnKeyword ∷ ContextKeyword ∷ SizeofKeyword ∷ AlignofKeyword ∷ BuiltinExpectKeyword ∷ BuiltinOffsetofKeyword ∷ Identifier ∷ TypedefName ∷ Number ∷ Character ∷ String ∷ RefusedString ∷ OtherKeyword ∷ OtherToken ∷ End ∷ []

-- the number of a class in that order, counted from 0
abbrev pub class_number : TokenClass → ℕ
class_number LeftBracket = 0
class_number RightBracket = 1
class_number LeftParenthesis = 2
class_number RightParenthesis = 3
class_number LeftBrace = 4
class_number RightBrace = 5
class_number Dot = 6
class_number Arrow = 7
class_number PlusPlus = 8
class_number MinusMinus = 9
class_number Ampersand = 10
class_number Star = 11
class_number Plus = 12
class_number Minus = 13
class_number Tilde = 14
class_number Exclamation = 15
class_number Slash = 16
class_number Percent = 17
class_number ShiftLeft = 18
class_number ShiftRight = 19
class_number Less = 20
class_number Greater = 21
class_number LessEqual = 22
class_number GreaterEqual = 23
class_number EqualEqual = 24
class_number NotEqual = 25
class_number Caret = 26
class_number Bar = 27
class_number AndAnd = 28
class_number OrOr = 29
class_number Question = 30
class_number Colon = 31
class_number Semicolon = 32
class_number Ellipsis = 33
class_number Assign = 34
class_number StarAssign = 35
class_number SlashAssign = 36
class_number PercentAssign = 37
class_number PlusAssign = 38
class_number MinusAssign = 39
class_number ShiftLeftAssign = 40
class_number ShiftRightAssign = 41
class_number AndAssign = 42
class_number XorAssign = 43
class_number OrAssign = 44
class_number Comma = 45
class_number TypedefKeyword = 46
class_number ExternKeyword = 47
class_number StaticKeyword = 48
class_number AutoKeyword = 49
class_number RegisterKeyword = 50
class_number InlineKeyword = 51
class_number NoreturnKeyword = 52
class_number ConstKeyword = 53
class_number VolatileKeyword = 54
class_number RestrictKeyword = 55
class_number VoidKeyword = 56
class_number CharKeyword = 57
class_number ShortKeyword = 58
class_number IntKeyword = 59
class_number LongKeyword = 60
class_number SignedKeyword = 61
class_number UnsignedKeyword = 62
class_number BoolKeyword = 63
class_number StructKeyword = 64
class_number UnionKeyword = 65
class_number EnumKeyword = 66
class_number TypeofKeyword = 67
class_number AttributeKeyword = 68
class_number StaticAssertKeyword = 69
class_number CaseKeyword = 70
class_number DefaultKeyword = 71
class_number IfKeyword = 72
class_number ElseKeyword = 73
class_number SwitchKeyword = 74
class_number WhileKeyword = 75
class_number DoKeyword = 76
class_number ForKeyword = 77
class_number GotoKeyword = 78
class_number ContinueKeyword = 79
class_number BreakKeyword = 80
class_number ReturnKeyword = 81
class_number ContextKeyword = 82
class_number SizeofKeyword = 83
class_number AlignofKeyword = 84
class_number BuiltinExpectKeyword = 85
class_number BuiltinOffsetofKeyword = 86
class_number Identifier = 87
class_number TypedefName = 88
class_number Number = 89
class_number Character = 90
class_number String = 91
class_number RefusedString = 92
class_number OtherKeyword = 93
class_number OtherToken = 94
class_number End = 95

-- they are one class
abbrev pub is_same : TokenClass → TokenClass → Bool
is_same first second = class_number first == class_number second

-- the class is one of these
abbrev pub is_among : List TokenClass → TokenClass → Bool
is_among classes class_ = list_any (is_same class_) classes
