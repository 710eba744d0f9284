-- Worked examples: how words and tokens are read.
use Rattle.std.specs.Prelude.{◌≡◌, ℕ, Bool, true, false, not, ◌&&◌, List, [], ◌∷◌, ◌++◌, Option, Some, None, map, replicate, codes}
use Rattle.std.specs.List.{list_any}
use Rattle.std.specs.Str.{bytes_eq}
use Rattle.vocabulary.specs.declared.words.TheConstants.{KEYWORDS, RESERVED_WORDS}
use Rattle.vocabulary.specs.declared.error_kind.ErrorKind.{ErrorKind}
use Rattle.vocabulary.specs.declared.error_kind.ErrorKind.TheVariants.{FloatingType, InlineAssembly, GenericSelection, AtomicType, ComplexType, ThreadLocal, Int128, LocalLabel, UniversalCharacterName, WideOrUtfLiteral, AutoType, Alignas, Builtin, PragmaOperator}
use Rattle.vocabulary.specs.declared.token_kind.TokenKind.{TokenKind}
use Rattle.vocabulary.specs.declared.token_kind.TokenKind.TheVariants as kinds
use Rattle.vocabulary.specs.declared.token_class.TokenClass.{TokenClass}
use Rattle.vocabulary.specs.declared.token_class.TokenClass.TheVariants.{LeftBracket, Semicolon, TypedefKeyword, ExternKeyword, StaticKeyword, AutoKeyword, RegisterKeyword, InlineKeyword, NoreturnKeyword, ConstKeyword, VolatileKeyword, RestrictKeyword, VoidKeyword, CharKeyword, ShortKeyword, IntKeyword, LongKeyword, SignedKeyword, UnsignedKeyword, BoolKeyword, StructKeyword, UnionKeyword, EnumKeyword, TypeofKeyword, AttributeKeyword, StaticAssertKeyword, CaseKeyword, DefaultKeyword, IfKeyword, ElseKeyword, SwitchKeyword, WhileKeyword, DoKeyword, ForKeyword, GotoKeyword, ContinueKeyword, BreakKeyword, ReturnKeyword, ContextKeyword, SizeofKeyword, AlignofKeyword, BuiltinExpectKeyword, BuiltinOffsetofKeyword, Identifier, Number, Character, String, RefusedString, OtherKeyword, OtherToken}
use Rattle.meaning_text.specs.Tokens.{Tok}
use Rattle.meaning_grammar.specs.Words.{read_as, refused_as, words, word_reading}
use Rattle.meaning_grammar.specs.Terminals.{terminals}

-- no spelling stands twice
abbrev pub each_once : List (List ℕ) → Bool
each_once [] = true
each_once (text ∷ texts) = not (list_any (bytes_eq text) texts) && each_once texts

pub record WordExamples : Type 0 where
  pub once : each_once (map (λ row. row.spelling) words) ≡ true
  -- the keywords of C11 in the order of 6.4.1
  pub keywords :
      map (λ word. word_reading word.now) KEYWORDS
      ≡ map read_as (AutoKeyword ∷ BreakKeyword ∷ CaseKeyword ∷ CharKeyword ∷ ConstKeyword ∷ ContinueKeyword ∷ DefaultKeyword ∷ DoKeyword ∷ [])
      ++ refused_as FloatingType
      ∷ map read_as (ElseKeyword ∷ EnumKeyword ∷ ExternKeyword ∷ [])
      ++ refused_as FloatingType
      ∷ map read_as (ForKeyword ∷ GotoKeyword ∷ IfKeyword ∷ InlineKeyword ∷ IntKeyword ∷ LongKeyword ∷ RegisterKeyword ∷ RestrictKeyword ∷ ReturnKeyword ∷ ShortKeyword ∷ SignedKeyword ∷ SizeofKeyword ∷ StaticKeyword ∷ StructKeyword ∷ SwitchKeyword ∷ TypedefKeyword ∷ UnionKeyword ∷ UnsignedKeyword ∷ VoidKeyword ∷ VolatileKeyword ∷ WhileKeyword ∷ [])
      ++ refused_as Alignas ∷ read_as AlignofKeyword ∷ refused_as AtomicType ∷ read_as BoolKeyword ∷ refused_as ComplexType
      ∷ refused_as GenericSelection ∷ read_as OtherKeyword ∷ read_as NoreturnKeyword ∷ read_as StaticAssertKeyword
      ∷ refused_as ThreadLocal ∷ []
  pub reserved :
      map (λ word. word_reading word.now) RESERVED_WORDS ≡ refused_as InlineAssembly ∷ read_as TypeofKeyword ∷ refused_as PragmaOperator ∷ []
  pub gnu_words :
      map word_reading (codes "__attribute__" ∷ codes "__context__" ∷ codes "__builtin_expect" ∷ codes "__builtin_offsetof" ∷ [])
      ≡ map read_as (AttributeKeyword ∷ ContextKeyword ∷ BuiltinExpectKeyword ∷ BuiltinOffsetofKeyword ∷ [])
  pub before :
      map word_reading
      (codes "__const" ∷ codes "__volatile" ∷ codes "__restrict" ∷ codes "__inline" ∷ codes "__signed" ∷ codes "__typeof" ∷ codes "__attribute" ∷ codes "__alignof" ∷ [])
      ≡ map read_as (ConstKeyword ∷ VolatileKeyword ∷ RestrictKeyword ∷ InlineKeyword ∷ SignedKeyword ∷ TypeofKeyword ∷ AttributeKeyword ∷ AlignofKeyword ∷ [])
  pub around :
      map word_reading
      (codes "__const__" ∷ codes "__volatile__" ∷ codes "__restrict__" ∷ codes "__inline__" ∷ codes "__signed__" ∷ codes "__typeof__" ∷ codes "__alignof__" ∷ [])
      ≡ map read_as (ConstKeyword ∷ VolatileKeyword ∷ RestrictKeyword ∷ InlineKeyword ∷ SignedKeyword ∷ TypeofKeyword ∷ AlignofKeyword ∷ [])
  pub assembly : map word_reading (codes "asm" ∷ codes "__asm" ∷ codes "__asm__" ∷ []) ≡ replicate 3 (refused_as InlineAssembly)
  pub refused_words :
      map word_reading (codes "__int128" ∷ codes "__label__" ∷ codes "__auto_type" ∷ codes "__builtin_clz" ∷ codes "a\\u00e9" ∷ [])
      ≡ map refused_as (Int128 ∷ LocalLabel ∷ AutoType ∷ Builtin ∷ UniversalCharacterName ∷ [])
  pub plain_names :
      map word_reading
      (codes "__thread" ∷ codes "__complex__" ∷ codes "__func__" ∷ codes "__float128" ∷ codes "__int128_t" ∷ codes "__typedef" ∷ codes "__const_" ∷ codes "alignof" ∷ codes "attribute" ∷ codes "_builtin_x" ∷ [])
      ≡ replicate 10 (read_as Identifier)

-- a token of this kind and spelling, wherever it stands
abbrev pub token : TokenKind → List ℕ → Tok
token kind text =
    record { kind = kind; text = text; at = record { file = 1; line = 1; column = 1 }; space_before = false; line_start = false }

-- how the grammar reads the tokens, each with its index
abbrev pub readings : List Tok → List (ℕ × TokenClass × Option ErrorKind)
readings tokens = map (λ terminal. (terminal.index, terminal.class_, terminal.refusal)) (terminals tokens)

pub record TerminalExamples : Type 0 where
  -- an index counts what is left out
  pub extension :
      readings
      (token kinds.Identifier (codes "__extension__") ∷ token kinds.Identifier (codes "int") ∷ token kinds.Identifier (codes "x") ∷ token kinds.LeftBracket (codes "<:") ∷ token kinds.Identifier (codes "__extension__") ∷ token kinds.Semicolon (codes ";") ∷ [])
      ≡ (1, IntKeyword, None) ∷ (2, Identifier, None) ∷ (3, LeftBracket, None) ∷ (5, Semicolon, None) ∷ []
  pub literals :
      readings
      (token kinds.Number (codes "1.5") ∷ token kinds.Number (codes "09") ∷ token kinds.Character (codes "''") ∷ token kinds.Character (codes "L'a'") ∷ token kinds.Character (codes "'a\\u00e9'") ∷ token kinds.String (codes "\"\\q\"") ∷ token kinds.String (codes "u8\"a\"") ∷ token kinds.String (codes "\"\\u00e9\"") ∷ [])
      ≡ (0, OtherToken, Some FloatingType) ∷ (1, Number, None) ∷ (2, Character, None) ∷ (3, OtherToken, Some WideOrUtfLiteral) ∷ (4, OtherToken, Some UniversalCharacterName)
      ∷ (5, String, None) ∷ (6, RefusedString, Some WideOrUtfLiteral) ∷ (7, RefusedString, Some UniversalCharacterName) ∷ []
  pub others :
      readings (token kinds.Stray (codes "@") ∷ token kinds.Hash (codes "#") ∷ token kinds.HashHash (codes "%:%:") ∷ token kinds.Identifier (codes "_Imaginary") ∷ [])
      ≡ (0, OtherToken, None) ∷ (1, OtherToken, None) ∷ (2, OtherToken, None) ∷ (3, OtherKeyword, None) ∷ []
