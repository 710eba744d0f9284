-- The lines of a file, and the directives among them (C11 6.10).
use Rattle.std.specs.Prelude.{ℕ, Bool, true, false, List, [], ◌∷◌, ◌++◌, codes, if◌then◌else◌}
use Rattle.std.specs.Str.{bytes_eq}
use Rattle.meaning_text.specs.Tokens.{Tok, is_hash}

-- a line that has a token
pub record Line : Type 0 where
  pub first : Tok
  pub rest : List Tok

-- the token is one of the first line's, unless that begins with its own first token
abbrev pub before_lines : Tok → List Line → List Line
before_lines t [] = record { first = t; rest = [] } ∷ []
before_lines t (line ∷ lines) = elim line.first.line_start [
  | true ↦ record { first = t; rest = [] } ∷ line ∷ lines
  | false ↦ record { first = t; rest = line.first ∷ line.rest } ∷ lines
]

-- the lines of a list of tokens
abbrev pub lines_of : List Tok → List Line
lines_of [] = []
lines_of (t ∷ ts) = before_lines t (lines_of ts)

-- A file as its directives, each with the text before it and the tokens behind its `#`, and the text behind the last. A line
-- whose first token is `#` is a directive (p2); all others are text (p1).
pub data FileParts : Type 0 where
  LastText : List Tok → FileParts
  DirectiveBehind : (text : List Tok) → (hash : Tok) → (rest : List Tok) → FileParts → FileParts

-- a line of text before them
abbrev pub text_before : Line → FileParts → FileParts
text_before line (LastText text) = LastText (line.first ∷ line.rest ++ text)
text_before line (DirectiveBehind text hash rest parts) = DirectiveBehind (line.first ∷ line.rest ++ text) hash rest parts

-- the lines of a file in parts
abbrev pub file_parts : List Line → FileParts
file_parts [] = LastText []
file_parts (line ∷ lines) = elim (is_hash line.first.kind) [
  | true ↦ DirectiveBehind [] line.first line.rest (file_parts lines)
  | false ↦ text_before line (file_parts lines)
]

-- What a directive is. The first six are conditionals.
pub data DirectiveName : Type 0 where
  IfLine : DirectiveName
  IfdefLine : DirectiveName
  IfndefLine : DirectiveName
  ElifLine : DirectiveName
  ElseLine : DirectiveName
  EndifLine : DirectiveName
  IncludeLine : DirectiveName
  DefineLine : DirectiveName
  UndefLine : DirectiveName
  ErrorLine : DirectiveName
  -- it does nothing: the empty one, `#line`, `#pragma`, and the two that compilers have, `#ident` and `#warning`
  UnreadLine : DirectiveName
  UnknownLine : DirectiveName

-- by the word behind `#`, the ones that aren't conditionals
abbrev pub other_directive : List ℕ → DirectiveName
other_directive word =
    if bytes_eq word (codes "include") then IncludeLine
    else (if bytes_eq word (codes "define") then DefineLine
    else (if bytes_eq word (codes "undef") then UndefLine
    else (if bytes_eq word (codes "error") then ErrorLine
    else (if bytes_eq word (codes "line") then UnreadLine
    else (if bytes_eq word (codes "pragma") then UnreadLine
    else (if bytes_eq word (codes "ident") then UnreadLine
    else (if bytes_eq word (codes "warning") then UnreadLine
    else UnknownLine)))))))

-- by the word behind `#`
abbrev pub directive_named : List ℕ → DirectiveName
directive_named word =
    if bytes_eq word (codes "if") then IfLine
    else (if bytes_eq word (codes "ifdef") then IfdefLine
    else (if bytes_eq word (codes "ifndef") then IfndefLine
    else (if bytes_eq word (codes "elif") then ElifLine
    else (if bytes_eq word (codes "else") then ElseLine
    else (if bytes_eq word (codes "endif") then EndifLine
    else other_directive word)))))

-- by the tokens behind `#`
abbrev pub directive_of : List Tok → DirectiveName
directive_of [] = UnreadLine
directive_of (t ∷ ts) = directive_named t.text

-- the tokens behind that word
abbrev pub behind_word : List Tok → List Tok
behind_word [] = []
behind_word (t ∷ ts) = ts

-- it is one of the six
abbrev pub is_conditional : DirectiveName → Bool
is_conditional IfLine = true
is_conditional IfdefLine = true
is_conditional IfndefLine = true
is_conditional ElifLine = true
is_conditional ElseLine = true
is_conditional EndifLine = true
is_conditional name = false
