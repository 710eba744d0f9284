-- The words that are more than names: keywords (C11 6.4.1), those of GNU C and of the kernel, and what isn't supported.
use Rattle.std.specs.Prelude.{ℕ, ◌==◌, List, [], ◌∷◌, ◌++◌, Option, Some, None, map, codes, if◌then◌else◌}
use Rattle.std.specs.List.{list_any, starts_with}
use Rattle.std.specs.Str.{bytes_eq}
use Rattle.vocabulary.specs.declared.error_kind.ErrorKind.{ErrorKind}
use Rattle.vocabulary.specs.declared.error_kind.ErrorKind.TheVariants.{FloatingType, InlineAssembly, GenericSelection, AtomicType, ComplexType, ThreadLocal, Int128, LocalLabel, UniversalCharacterName, AutoType, Alignas, Builtin, PragmaOperator}
use Rattle.vocabulary.specs.declared.token_class.TokenClass.{TokenClass}
use Rattle.vocabulary.specs.declared.token_class.TokenClass.TheVariants.{TypedefKeyword, ExternKeyword, StaticKeyword, AutoKeyword, RegisterKeyword, InlineKeyword, NoreturnKeyword, ConstKeyword, VolatileKeyword, RestrictKeyword, VoidKeyword, CharKeyword, ShortKeyword, IntKeyword, LongKeyword, SignedKeyword, UnsignedKeyword, BoolKeyword, StructKeyword, UnionKeyword, EnumKeyword, TypeofKeyword, AttributeKeyword, StaticAssertKeyword, CaseKeyword, DefaultKeyword, IfKeyword, ElseKeyword, SwitchKeyword, WhileKeyword, DoKeyword, ForKeyword, GotoKeyword, ContinueKeyword, BreakKeyword, ReturnKeyword, ContextKeyword, SizeofKeyword, AlignofKeyword, BuiltinExpectKeyword, BuiltinOffsetofKeyword, Identifier, OtherKeyword, OtherToken}
use Rattle.meaning_text.specs.Bytes.{backslash}

-- What a spelling is to the grammar: its class, and the error that it is where it isn't supported
pub record Reading : Type 0 where
  pub class_ : TokenClass
  pub refusal : Option ErrorKind

-- a token of this class
abbrev pub read_as : TokenClass → Reading
read_as class_ = record { class_ = class_; refusal = None }

-- a token that isn't supported: no production but one of tokens in balanced parentheses takes it
abbrev pub refused_as : ErrorKind → Reading
refused_as error = record { class_ = OtherToken; refusal = Some error }

-- a spelling, and how it is read
pub record WordRow : Type 0 where
  pub spelling : List ℕ
  pub reading : Reading

-- these spellings are read alike
abbrev pub words_spelled : Reading → List (List ℕ) → List WordRow
words_spelled reading spellings = map (λ spelling. record { spelling = spelling; reading = reading }) spellings

-- a keyword with one spelling
abbrev pub keyword : TokenClass → List ℕ → List WordRow
keyword class_ spelling = words_spelled (read_as class_) (spelling ∷ [])

-- a keyword of C11 that GNU C also spells with `__` before it, and before and behind
abbrev pub gnu_keyword : TokenClass → (spelling alternate : List ℕ) → List WordRow
gnu_keyword class_ spelling alternate =
    words_spelled (read_as class_) (spelling ∷ (codes "__" ++ alternate) ∷ (codes "__" ++ alternate ++ codes "__") ∷ [])

-- words that aren't supported
abbrev pub unsupported : ErrorKind → List (List ℕ) → List WordRow
unsupported error spellings = words_spelled (refused_as error) spellings

-- The table
abbrev pub words : List WordRow
words =
    keyword TypedefKeyword (codes "typedef")
    ++ keyword ExternKeyword (codes "extern")
    ++ keyword StaticKeyword (codes "static")
    ++ keyword AutoKeyword (codes "auto")
    ++ keyword RegisterKeyword (codes "register")
    ++ gnu_keyword InlineKeyword (codes "inline") (codes "inline")
    ++ keyword NoreturnKeyword (codes "_Noreturn")
    ++ gnu_keyword ConstKeyword (codes "const") (codes "const")
    ++ gnu_keyword VolatileKeyword (codes "volatile") (codes "volatile")
    ++ gnu_keyword RestrictKeyword (codes "restrict") (codes "restrict")
    ++ keyword VoidKeyword (codes "void")
    ++ keyword CharKeyword (codes "char")
    ++ keyword ShortKeyword (codes "short")
    ++ keyword IntKeyword (codes "int")
    ++ keyword LongKeyword (codes "long")
    ++ gnu_keyword SignedKeyword (codes "signed") (codes "signed")
    ++ keyword UnsignedKeyword (codes "unsigned")
    ++ keyword BoolKeyword (codes "_Bool")
    ++ keyword StructKeyword (codes "struct")
    ++ keyword UnionKeyword (codes "union")
    ++ keyword EnumKeyword (codes "enum")
    ++ gnu_keyword TypeofKeyword (codes "typeof") (codes "typeof")
    ++ words_spelled (read_as AttributeKeyword) (codes "__attribute__" ∷ codes "__attribute" ∷ [])
    ++ keyword StaticAssertKeyword (codes "_Static_assert")
    ++ keyword CaseKeyword (codes "case")
    ++ keyword DefaultKeyword (codes "default")
    ++ keyword IfKeyword (codes "if")
    ++ keyword ElseKeyword (codes "else")
    ++ keyword SwitchKeyword (codes "switch")
    ++ keyword WhileKeyword (codes "while")
    ++ keyword DoKeyword (codes "do")
    ++ keyword ForKeyword (codes "for")
    ++ keyword GotoKeyword (codes "goto")
    ++ keyword ContinueKeyword (codes "continue")
    ++ keyword BreakKeyword (codes "break")
    ++ keyword ReturnKeyword (codes "return")
    ++ keyword ContextKeyword (codes "__context__")
    ++ keyword SizeofKeyword (codes "sizeof")
    ++ gnu_keyword AlignofKeyword (codes "_Alignof") (codes "alignof")
    ++ keyword BuiltinExpectKeyword (codes "__builtin_expect")
    ++ keyword BuiltinOffsetofKeyword (codes "__builtin_offsetof")
    -- a keyword that no production names
    ++ keyword OtherKeyword (codes "_Imaginary")
    ++ unsupported FloatingType (codes "double" ∷ codes "float" ∷ [])
    ++ unsupported InlineAssembly (codes "asm" ∷ codes "__asm" ∷ codes "__asm__" ∷ [])
    ++ unsupported GenericSelection (codes "_Generic" ∷ [])
    ++ unsupported AtomicType (codes "_Atomic" ∷ [])
    ++ unsupported ComplexType (codes "_Complex" ∷ [])
    ++ unsupported ThreadLocal (codes "_Thread_local" ∷ [])
    ++ unsupported Int128 (codes "__int128" ∷ [])
    ++ unsupported LocalLabel (codes "__label__" ∷ [])
    ++ unsupported AutoType (codes "__auto_type" ∷ [])
    ++ unsupported Alignas (codes "_Alignas" ∷ [])
    ++ unsupported PragmaOperator (codes "_Pragma" ∷ [])

-- how a word is read that has no row: the other builtins aren't supported, and no universal character names
abbrev pub name_reading : List ℕ → Reading
name_reading text =
    if starts_with ◌==◌ text (codes "__builtin_") then refused_as Builtin
    else (if list_any (λ byte. byte == backslash) text then refused_as UniversalCharacterName
    else read_as Identifier)

-- how a word is read by the first of these rows that is spelled so
abbrev pub reading_in : List WordRow → List ℕ → Reading
reading_in [] text = name_reading text
reading_in (row ∷ rows) text = if bytes_eq row.spelling text then row.reading else reading_in rows text

-- how a word is read
abbrev pub word_reading : List ℕ → Reading
word_reading text = reading_in words text

-- a word that is read over wherever it stands: it says that what follows is no fault of ISO C
abbrev pub extension : List ℕ
extension = codes "__extension__"
