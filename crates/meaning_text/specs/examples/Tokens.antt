-- Worked examples: short texts, and their tokens or their fault.
use Rattle.std.specs.Prelude.{◌≡◌, ℕ, Bool, true, false, not, ◌&&◌, nat_le, List, [], ◌∷◌, ◌++◌, map, length, Option, Some, None, is_some, codes, ⊤}
use Rattle.std.specs.List.{list_all, list_any}
use Rattle.std.specs.Str.{bytes_eq}
use Rattle.meaning_text.specs.Bytes.{space, new_line}
use Rattle.meaning_text.specs.Places.{At}
use Rattle.meaning_text.specs.Logical.{SourceByte, bytes_of, logical_text}
use Rattle.meaning_text.specs.Punctuators.{PunctuatorRow, own_spelling, plain_punctuators, digraphs, punctuators, punctuator_of}
use Rattle.vocabulary.specs.declared.token_kind.TokenKind.{TokenKind}
use Rattle.vocabulary.specs.declared.token_kind.TokenKind.TheVariants.{Identifier, Number, Character, String, HeaderName, LeftBracket, RightBracket, LeftBrace, RightBrace, Dot, PlusPlus, Plus, Slash, Less, Greater, Semicolon, Ellipsis, Hash, HashHash, Stray}
use Rattle.meaning_text.specs.Kinds.{kind_in}
use Rattle.meaning_text.specs.Tokens.{Tok, LexFault, OpenComment, OpenLiteral}
use Rattle.meaning_text.specs.Fronts.{AtToken, front_of}
use Rattle.meaning_text.specs.Terminals.{terminals_of}
use Rattle.meaning_text.specs.Lexing.{Lexed, Tokens, Refused, lexed_file}

-- the number of the file in each example
abbrev pub example_file : ℕ
example_file = 1

abbrev pub at_place : ℕ → ℕ → At
at_place line column = record { file = example_file; line = line; column = column }

-- a byte at this line and column
abbrev pub byte_at : ℕ → ℕ → ℕ → SourceByte
byte_at byte line column = record { byte = byte; at = at_place line column }

-- the first token of its line, behind white space or not
abbrev pub first_token : Bool → TokenKind → List ℕ → ℕ → ℕ → Tok
first_token spaced kind text line column =
    record { kind = kind; text = text; at = at_place line column; space_before = spaced; line_start = true }

-- a further token
abbrev pub next_token : Bool → TokenKind → List ℕ → ℕ → ℕ → Tok
next_token spaced kind text line column =
    record { kind = kind; text = text; at = at_place line column; space_before = spaced; line_start = false }

-- a spelling and its kind alone
abbrev pub Spelled : Type 0
Spelled = TokenKind × List ℕ

abbrev pub name : List ℕ → Spelled
name text = (Identifier, text)

abbrev pub number : List ℕ → Spelled
number text = (Number, text)

abbrev pub stray : ℕ → Spelled
stray byte = (Stray, byte ∷ [])

abbrev pub spelled_tokens : Lexed → Option (List Spelled)
spelled_tokens (Tokens tokens) = Some (map (λ (token : Tok). (token.kind, token.text)) tokens)
spelled_tokens (Refused fault) = None

-- a file of these bytes has tokens of these kinds that are spelled so
abbrev pub IsSpelled : List ℕ → List Spelled → Type 0
IsSpelled text tokens = spelled_tokens (lexed_file example_file text) ≡ Some tokens

-- it has these tokens
abbrev pub HasTokens : List ℕ → List Tok → Type 0
HasTokens text tokens = lexed_file example_file text ≡ Tokens tokens

abbrev pub found_terminals : Lexed → Option (List (List ℕ))
found_terminals (Tokens tokens) = Some (terminals_of tokens)
found_terminals (Refused fault) = None

-- the grammar sees these
abbrev pub HasTerminals : List ℕ → List (List ℕ) → Type 0
HasTerminals text terminals = found_terminals (lexed_file example_file text) ≡ Some terminals

-- it has this fault
abbrev pub HasFault : List ℕ → LexFault → Type 0
HasFault text fault = lexed_file example_file text ≡ Refused fault

abbrev pub logical_bytes : List ℕ → List ℕ
logical_bytes text = bytes_of (logical_text example_file text)

-- Logical texts

pub record LogicalExamples : Type 0 where
  pub empty : logical_text example_file [] ≡ []
  pub splice :
      logical_text example_file (codes "a\\\nb\n") ≡ byte_at 97 1 1 ∷ byte_at 98 2 1 ∷ byte_at new_line 2 2 ∷ []
  pub splice_alone : logical_text example_file (codes "\\\n") ≡ []
  pub supplied : logical_text example_file (codes "a") ≡ byte_at 97 1 1 ∷ byte_at new_line 1 2 ∷ []
  pub supplied_behind_splice : logical_text example_file (codes "a\\\n") ≡ byte_at 97 1 1 ∷ byte_at new_line 2 1 ∷ []
  pub none_supplied_behind_splice : logical_bytes (codes "a\n\\\n") ≡ codes "a\n"
  pub last_backslash : logical_bytes (codes "a\\") ≡ codes "a\\\n"
  -- a pair that the rest of another one makes is kept
  pub once : logical_bytes (codes "a\\\\\n\nb\n") ≡ codes "a\\\nb\n"
  pub carriage_return : logical_bytes (codes "a\\\r\nb\n") ≡ codes "a\\\r\nb\n"

-- Single spellings

-- outside of `#include` the spelling is of this kind
abbrev pub IsOfKind : List ℕ → TokenKind → Type 0
IsOfKind text kind = kind_in false text ≡ Some kind

abbrev pub IsNoToken : List ℕ → Type 0
IsNoToken text = kind_in false text ≡ None

abbrev pub IsHeaderName : List ℕ → Type 0
IsHeaderName text = kind_in true text ≡ Some HeaderName

pub record SpellingExamples : Type 0 where
  pub identifier : IsOfKind (codes "_aZ9") Identifier
  pub universal : IsOfKind (codes "a\\u00e9") Identifier × IsOfKind (codes "\\U0001F600x") Identifier
  pub short_universal : IsNoToken (codes "a\\u00e") × IsNoToken (codes "\\U000000e")
  pub dollar : IsNoToken (codes "a$")
  pub numbers :
      IsOfKind (codes "0") Number × IsOfKind (codes ".5") Number × IsOfKind (codes "1..2.a_e+P-") Number
      × IsOfKind (codes "1u\\u00e9") Number
  pub signs :
      IsOfKind (codes "1e-5") Number × IsOfKind (codes "1E+5") Number × IsOfKind (codes "0x1p-3") Number × IsOfKind (codes "0x1P+3") Number
  pub sign_in_number : IsNoToken (codes "1+2") × IsNoToken (codes "1e+-") × IsNoToken (codes ".e5")
  -- a sign stands behind an exponent letter, which a digit of a universal character name isn't
  pub sign_behind_universal :
      IsNoToken (codes "1\\u000e+") × IsOfKind (codes "1\\u0000e+") Number
      × IsNoToken (codes "1\\U0000000e+") × IsOfKind (codes "1\\U00000000e+") Number
  pub characters :
      IsOfKind (codes "''") Character × IsOfKind (codes "L''") Character × IsOfKind (codes "u'\\''") Character
      × IsOfKind (codes "'\"/*'") Character × IsOfKind (codes "U'ab'") Character
  pub no_characters :
      IsNoToken (codes "'") × IsNoToken (codes "'a") × IsNoToken (codes "'\\'") × IsNoToken (codes "'a\nb'")
      × IsNoToken (codes "'\\\n'") × IsNoToken (codes "u8'a'") × IsNoToken (codes "'a'b") × IsNoToken (codes "LL'a'")
  pub strings :
      IsOfKind (codes "\"\"") String × IsOfKind (codes "u8\"a\\\"b\"") String × IsOfKind (codes "L\"'\\\\\"") String
      × IsOfKind (34 ∷ 0 ∷ 13 ∷ 255 ∷ 34 ∷ []) String
  pub no_strings : IsNoToken (codes "\"a\\\"") × IsNoToken (codes "u8 \"a\"") × IsNoToken (codes "8\"\"")
  pub header_names :
      IsHeaderName (codes "<a//b>") × IsHeaderName (codes "<it's>") × IsHeaderName (codes "\"a\\\"")
      × IsHeaderName (codes "\"a\"") × IsHeaderName (codes "<:>")
  pub no_header_names :
      (kind_in true (codes "<>") ≡ None) × (kind_in true (codes "\"\"") ≡ Some String)
      × (kind_in true (codes "\"a\\\"b\"") ≡ Some String) × (kind_in true (codes "<a\n>") ≡ None)
      × IsNoToken (codes "<a>") × IsOfKind (codes "\"a\"") String
  pub strays :
      IsOfKind (codes "$") Stray × IsOfKind (codes "@") Stray × IsOfKind (codes "`") Stray × IsOfKind (codes "\\") Stray
      × IsOfKind (codes "\r") Stray × IsOfKind (0 ∷ []) Stray × IsOfKind (128 ∷ []) Stray
  pub no_strays : IsNoToken (codes "\"") × IsNoToken (codes " ") × IsNoToken (codes "\n") × IsNoToken (codes "$$") × IsNoToken []

-- Whole files

pub record TextExamples : Type 0 where
  pub nothing : HasTokens [] [] × HasTokens (codes " \t\u{b}\u{c}\n") [] × HasTokens (codes "// a") []
  -- the place is that of the first byte, and a comment is white space
  pub places :
      HasTokens (codes "a /*\n*/b//c\n d")
      (first_token false Identifier (codes "a") 1 1 ∷ next_token true Identifier (codes "b") 2 3
      ∷ first_token true Identifier (codes "d") 3 2 ∷ [])
  -- a tab is one column, and a token knows its file
  pub tab_column : HasTokens (codes "\ta") (first_token true Identifier (codes "a") 1 2 ∷ [])
  pub other_file :
      lexed_file 7 (codes "a")
      ≡ Tokens (record { kind = Identifier; text = codes "a"; at = record { file = 7; line = 1; column = 1 }; space_before = false; line_start = true } ∷ [])
  -- a new-line is white space
  pub next_line : HasTokens (codes "a\nb") (first_token false Identifier (codes "a") 1 1 ∷ first_token true Identifier (codes "b") 2 1 ∷ [])
  -- a comment alone parts tokens as a space does
  pub comment_is_space : HasTokens (codes "a/**/b") (first_token false Identifier (codes "a") 1 1 ∷ next_token true Identifier (codes "b") 1 6 ∷ [])
  -- one token begins the line
  pub line_start :
      HasTokens (codes "#include <a>\n")
      (first_token false Hash (codes "#") 1 1 ∷ next_token false Identifier (codes "include") 1 2
      ∷ next_token true HeaderName (codes "<a>") 1 10 ∷ [])
  -- a word goes on over a splice
  pub spliced :
      HasTokens (codes "in\\\nt x\\\n;")
      (first_token false Identifier (codes "int") 1 1 ∷ next_token true Identifier (codes "x") 2 3
      ∷ next_token false Semicolon (codes ";") 3 1 ∷ [])
  pub last_backslash : IsSpelled (codes "a\\") (name (codes "a") ∷ stray 92 ∷ [])
  pub longest : IsSpelled (codes "a+++b") (name (codes "a") ∷ (PlusPlus, codes "++") ∷ (Plus, codes "+") ∷ name (codes "b") ∷ [])
  pub dots : IsSpelled (codes "..5....") ((Dot, codes ".") ∷ number (codes ".5....") ∷ [])
      × IsSpelled (codes "....x") ((Ellipsis, codes "...") ∷ (Dot, codes ".") ∷ name (codes "x") ∷ [])
  pub one_number : IsSpelled (codes "1u\\u00e9;") (number (codes "1u\\u00e9") ∷ (Semicolon, codes ";") ∷ [])
  pub sign_behind_universal :
      IsSpelled (codes "1\\u000e+5") (number (codes "1\\u000e") ∷ (Plus, codes "+") ∷ number (codes "5") ∷ [])
  pub short_universal :
      IsSpelled (codes "a\\u00e;") (name (codes "a") ∷ stray 92 ∷ name (codes "u00e") ∷ (Semicolon, codes ";") ∷ [])
  pub carriage_return :
      HasTokens (codes "x;\r\n")
      (first_token false Identifier (codes "x") 1 1 ∷ next_token false Semicolon (codes ";") 1 2
      ∷ next_token false Stray (codes "\r") 1 3 ∷ [])
  pub prefixes :
      IsSpelled (codes "L'a'u8\"b\"u8'c'L d")
      ((Character, codes "L'a'") ∷ (String, codes "u8\"b\"") ∷ name (codes "u8") ∷ (Character, codes "'c'") ∷ name (codes "L")
      ∷ name (codes "d") ∷ [])
  -- a digraph keeps its spelling
  pub digraph :
      HasTokens (codes "a<::><%%>%:%:%:")
      (first_token false Identifier (codes "a") 1 1 ∷ next_token false LeftBracket (codes "<:") 1 2
      ∷ next_token false RightBracket (codes ":>") 1 4
      ∷ next_token false LeftBrace (codes "<%") 1 6
      ∷ next_token false RightBrace (codes "%>") 1 8
      ∷ next_token false HashHash (codes "%:%:") 1 10
      ∷ next_token false Hash (codes "%:") 1 14 ∷ [])
  -- but the grammar sees what it stands for
  pub terminals :
      HasTerminals (codes "#include <a>\na<:'b'%>1\"c\" $")
      (codes "#" ∷ codes "include" ∷ codes "<a>" ∷ codes "a" ∷ codes "[" ∷ codes "'b'" ∷ codes "}" ∷ codes "1" ∷ codes "\"c\"" ∷ codes "$" ∷ [])
  pub comments :
      IsSpelled (codes "a/**/b/***/c/*/*/d") (name (codes "a") ∷ name (codes "b") ∷ name (codes "c") ∷ name (codes "d") ∷ [])
  pub no_comment : IsSpelled (codes "\"/*\"a/ /b") ((String, codes "\"/*\"") ∷ name (codes "a") ∷ (Slash, codes "/") ∷ (Slash, codes "/") ∷ name (codes "b") ∷ [])
  -- directly behind `#include`
  pub included :
      IsSpelled (codes "#include <a//b>\n") ((Hash, codes "#") ∷ name (codes "include") ∷ (HeaderName, codes "<a//b>") ∷ [])
      × IsSpelled (codes " %:/**/include/**/<it's>\n")
      ((Hash, codes "%:") ∷ name (codes "include") ∷ (HeaderName, codes "<it's>") ∷ [])
  -- the longer of a header name and a string literal
  pub included_string :
      IsSpelled (codes "#include \"a\\\"b\"") ((Hash, codes "#") ∷ name (codes "include") ∷ (String, codes "\"a\\\"b\"") ∷ [])
      × IsSpelled (codes "#include \"a\\\"\n") ((Hash, codes "#") ∷ name (codes "include") ∷ (HeaderName, codes "\"a\\\"") ∷ [])
      × IsSpelled (codes "#include \"\"") ((Hash, codes "#") ∷ name (codes "include") ∷ (String, codes "\"\"") ∷ [])
  -- and nowhere else
  pub not_included :
      IsSpelled (codes "#include E <a>") ((Hash, codes "#") ∷ name (codes "include") ∷ name (codes "E") ∷ (Less, codes "<") ∷ name (codes "a") ∷ (Greater, codes ">") ∷ [])
      × IsSpelled (codes "a #include<b>") (name (codes "a") ∷ (Hash, codes "#") ∷ name (codes "include") ∷ (Less, codes "<") ∷ name (codes "b") ∷ (Greater, codes ">") ∷ [])
      × IsSpelled (codes "#\ninclude<b>") ((Hash, codes "#") ∷ name (codes "include") ∷ (Less, codes "<") ∷ name (codes "b") ∷ (Greater, codes ">") ∷ [])
      × IsSpelled (codes "#include\n<b>") ((Hash, codes "#") ∷ name (codes "include") ∷ (Less, codes "<") ∷ name (codes "b") ∷ (Greater, codes ">") ∷ [])
      × IsSpelled (codes "#x <b>") ((Hash, codes "#") ∷ name (codes "x") ∷ (Less, codes "<") ∷ name (codes "b") ∷ (Greater, codes ">") ∷ [])
      × IsSpelled (codes "##include<b>") ((HashHash, codes "##") ∷ name (codes "include") ∷ (Less, codes "<") ∷ name (codes "b") ∷ (Greater, codes ">") ∷ [])
      × IsSpelled (codes "include<b>") (name (codes "include") ∷ (Less, codes "<") ∷ name (codes "b") ∷ (Greater, codes ">") ∷ [])

pub record FaultExamples : Type 0 where
  pub comment : HasFault (codes "a /*b") (OpenComment (at_place 1 3)) × HasFault (codes "/*/") (OpenComment (at_place 1 1))
  pub literal : HasFault (codes "a 'b\n'") (OpenLiteral (at_place 1 3))
  -- the prefix is a token, and the fault stands at the quotation mark
  pub prefixed : HasFault (codes "L\"a") (OpenLiteral (at_place 1 2))
  pub first : HasFault (codes "\"a\n/* 'b") (OpenLiteral (at_place 1 1)) × HasFault (codes "/* 'b\n\"") (OpenComment (at_place 1 1))
  pub backslash : HasFault (codes "\"a\\\"") (OpenLiteral (at_place 1 1)) × HasFault (codes "\"\\\\\n\n\"") (OpenLiteral (at_place 1 1))
  pub spliced : HasFault (codes "x\\\n '") (OpenLiteral (at_place 2 2))

-- The table of punctuators

-- no spelling of these comes twice
abbrev pub each_once : List (List ℕ) → Bool
each_once [] = true
each_once (spelling ∷ others) = not (list_any (bytes_eq spelling) others) && each_once others

abbrev pub row_spellings : List (List ℕ)
row_spellings = map (λ (row : PunctuatorRow). row.spelling) punctuators

-- this spelling, if there is one, is that of the kind
abbrev pub IsFoundAs : TokenKind → Option (List ℕ) → Type 0
IsFoundAs kind None = ⊤
IsFoundAs kind (Some spelling) = punctuator_of spelling ≡ Some kind

pub record TableFacts : Type 0 where
  pub count : (length plain_punctuators ≡ 48) × (length digraphs ≡ 6) × (length punctuators ≡ 54)
  -- as 6.4.6 p1 lists them
  pub listed :
      IsSpelled
      (codes "[ ] ( ) { } . -> ++ -- & * + - ~ ! / % << >> < > <= >= == != ^ | && || ? : ; ... = *= /= %= += -= <<= >>= &= ^= |= , # ##")
      (map (λ (row : PunctuatorRow). (row.kind, row.spelling)) plain_punctuators)
  pub once : each_once row_spellings ≡ true
  pub short : list_all (λ spelling. nat_le (length spelling) 4) row_spellings ≡ true
  -- a kind has one spelling of its own or none, by which it stands in the table
  pub own_spellings : (kind : TokenKind) → IsFoundAs kind (own_spelling kind)
  -- what a digraph stands for is a punctuator with a spelling of its own
  pub targets : list_all (λ (row : PunctuatorRow). is_some (own_spelling row.kind)) digraphs ≡ true
  -- each spelling is that punctuator, of no other kind, also where header names are allowed
  pub kinds :
      (map (kind_in false) row_spellings ≡ map (λ (row : PunctuatorRow). Some row.kind) punctuators)
      × (map (kind_in true) row_spellings ≡ map (λ (row : PunctuatorRow). Some row.kind) punctuators)
  -- and the function finds it
  pub fronts :
      map (λ spelling. front_of false (spelling ++ space ∷ [])) row_spellings
      ≡ map (λ (row : PunctuatorRow). AtToken row.kind (length row.spelling)) punctuators
