-- The tokens of a text (C11 6.4), as a relation on whole texts.
use Rattle.std.specs.Prelude.{◌≡◌, ℕ, ◌<◌, ◌≤◌, Bool, true, false, ◌&&◌, ◌==◌, List, [], ◌∷◌, ◌++◌, length, take, Option, Some, None, codes, ⊤, if◌then◌else◌}
use Rattle.std.specs.List.{list_any}
use Rattle.std.specs.Str.{bytes_eq}
use Rattle.meaning_text.specs.Bytes.{new_line, is_white, is_quotation_mark}
use Rattle.meaning_text.specs.Places.{At}
use Rattle.meaning_text.specs.Logical.{SourceByte, bytes_of, logical_text}
use Rattle.meaning_text.specs.Comments.{begins_comment, begins_block_comment, is_block_comment, is_line_comment, is_line_end}
use Rattle.vocabulary.specs.declared.token_kind.TokenKind.{TokenKind}
use Rattle.vocabulary.specs.declared.token_kind.TokenKind.TheVariants.{Hash}
use Rattle.meaning_text.specs.Kinds.{kind_in}

-- a token, with how it is spelled and where it stands
pub record Tok : Type 0 where
  pub kind : TokenKind
  -- its spelling, without the pairs of backslash and new-line that were in it
  pub text : List ℕ
  -- where its first byte stands
  pub at : At
  -- white space stands directly before it; comments and new-lines count
  pub space_before : Bool
  -- it is the first token of its line
  pub line_start : Bool

-- What stands between tokens

-- a byte of white space, or a comment (6.4 p3, 6.4.9)
pub data Piece : Type 0 where
  White : SourceByte → Piece
  LineComment : List SourceByte → Piece
  BlockComment : List SourceByte → Piece

-- the bytes of a piece
abbrev pub piece_text : Piece → List SourceByte
piece_text (White b) = b ∷ []
piece_text (LineComment text) = text
piece_text (BlockComment text) = text

-- A piece before such a text is what it is called; a comment that begins with `//` goes on to the end of the line.
abbrev pub is_piece : Piece → List SourceByte → Bool
is_piece (White b) rest = is_white b.byte
is_piece (LineComment text) rest = is_line_comment (bytes_of text) && is_line_end (bytes_of rest)
is_piece (BlockComment text) rest = is_block_comment (bytes_of text)

-- it ends a line: a new-line inside a comment doesn't
abbrev pub ends_line : Piece → Bool
ends_line (White b) = b.byte == new_line
ends_line (LineComment text) = false
ends_line (BlockComment text) = false

-- pieces one behind the other
abbrev pub Gap : Type 0
Gap = List Piece

-- the bytes of a gap
abbrev pub gap_text : Gap → List SourceByte
gap_text [] = []
gap_text (piece ∷ gap) = piece_text piece ++ gap_text gap

-- the pieces are white space and comments before such a text
abbrev pub IsGap : Gap → List SourceByte → Type 0
IsGap [] rest = ⊤
IsGap (piece ∷ gap) rest = (is_piece piece (gap_text gap ++ rest) ≡ true) × IsGap gap rest

-- the gap has a piece
abbrev pub is_some_gap : Gap → Bool
is_some_gap [] = false
is_some_gap (piece ∷ gap) = true

-- What the tokens before make of a place in a text: header names exist directly behind `include` directly behind
-- the `#` that is first in its line (6.4 p4, 6.10 p2).
pub data Context : Type 0 where
  AtLineStart : Context
  BehindHash : Context
  BehindInclude : Context
  Elsewhere : Context

-- header names exist in this context
abbrev pub allows_header_name : Context → Bool
allows_header_name AtLineStart = false
allows_header_name BehindHash = false
allows_header_name BehindInclude = true
allows_header_name Elsewhere = false

-- a token in this context is the first of its line
abbrev pub is_line_start : Context → Bool
is_line_start AtLineStart = true
is_line_start BehindHash = false
is_line_start BehindInclude = false
is_line_start Elsewhere = false

-- the context behind a gap: a new line begins where the gap ends one
abbrev pub behind_gap : Context → Gap → Context
behind_gap context gap = if list_any ends_line gap then AtLineStart else context

-- `#`, also where it is spelled as a digraph
abbrev pub is_hash : TokenKind → Bool
is_hash Hash = true
is_hash kind = false

-- the context behind a token of this kind and spelling
abbrev pub behind_token : Context → TokenKind → List ℕ → Context
behind_token AtLineStart kind text = if is_hash kind then BehindHash else Elsewhere
behind_token BehindHash kind text = if bytes_eq text (codes "include") then BehindInclude else Elsewhere
behind_token BehindInclude kind text = Elsewhere
behind_token Elsewhere kind text = Elsewhere

-- no longer front of the text and what follows it is a token (6.4 p4)
abbrev pub IsLongest : Bool → List ℕ → List ℕ → Type 0
IsLongest allowed text rest =
    (k : ℕ) → 0 < k → k ≤ length rest → kind_in allowed (text ++ take k rest) ≡ None

-- where the first byte of a text stands
abbrev pub place_of : List SourceByte → Option At
place_of [] = None
place_of (b ∷ text) = Some b.at

-- In this context the text is the gap, the bytes of the token, and the rest.
pub record BeginsWith (context : Context) (text : List SourceByte) (gap : Gap) (token : Tok) (spelled rest : List SourceByte) : Type 0 where
  pub split : text ≡ gap_text gap ++ spelled ++ rest
  pub is_gap : IsGap gap (spelled ++ rest)
  pub no_comment : begins_comment (bytes_of (spelled ++ rest)) ≡ false
  pub kind : kind_in (allows_header_name (behind_gap context gap)) (bytes_of spelled) ≡ Some token.kind
  pub longest : IsLongest (allows_header_name (behind_gap context gap)) (bytes_of spelled) (bytes_of rest)
  pub spelling : bytes_of spelled ≡ token.text
  pub place : place_of spelled ≡ Some token.at
  pub space_before : is_some_gap gap ≡ token.space_before
  pub line_start : is_line_start (behind_gap context gap) ≡ token.line_start

-- The text begins with these tokens, each behind a gap and as long as it can be. Behind a last gap stands what is
-- told of the context and the rest there.
abbrev pub TokensUpTo : (Context → List SourceByte → Type 0) → Context → List SourceByte → List Tok → Type 0
TokensUpTo End context text [] =
    (gap : Gap) × (rest : List SourceByte) × (text ≡ gap_text gap ++ rest) × IsGap gap rest × End (behind_gap context gap) rest
TokensUpTo End context text (token ∷ tokens) =
    (gap : Gap) × (spelled rest : List SourceByte) × BeginsWith context text gap token spelled rest
    × TokensUpTo End (behind_token (behind_gap context gap) token.kind token.text) rest tokens

-- nothing is left of the text
abbrev pub IsEnd : Context → List SourceByte → Type 0
IsEnd context rest = rest ≡ []

-- The tokens, with the gaps between them, make up the text in order.
abbrev pub Lexes : Context → List SourceByte → List Tok → Type 0
Lexes context text tokens = TokensUpTo IsEnd context text tokens

-- why a text has no tokens: what opens here is never closed
pub data LexFault : Type 0 where
  OpenComment : At → LexFault
  OpenLiteral : At → LexFault

-- Here opens a comment of which no front of the rest is the whole (6.4.9 p1), or a quotation mark stands here with
-- which no token begins.
abbrev pub IsFaultAt : LexFault → Context → List SourceByte → Type 0
IsFaultAt fault context [] = ⊥
IsFaultAt (OpenComment at) context (b ∷ rest) =
    (b.at ≡ at) × (begins_block_comment (bytes_of (b ∷ rest)) ≡ true)
    × ((k : ℕ) → is_block_comment (take k (bytes_of (b ∷ rest))) ≡ false)
IsFaultAt (OpenLiteral at) context (b ∷ rest) =
    (b.at ≡ at) × (is_quotation_mark b.byte ≡ true)
    × ((k : ℕ) → kind_in (allows_header_name context) (take k (bytes_of (b ∷ rest))) ≡ None)

-- behind some tokens the text has this fault
abbrev pub Opens : Context → List SourceByte → LexFault → Type 0
Opens context text fault = (tokens : List Tok) × TokensUpTo (IsFaultAt fault) context text tokens

-- The tokens of a file with this number, and the fault of one that has none.
abbrev pub LexesFile : ℕ → List ℕ → List Tok → Type 0
LexesFile file bytes tokens = Lexes AtLineStart (logical_text file bytes) tokens

-- a file with this number has this fault
abbrev pub OpensFile : ℕ → List ℕ → LexFault → Type 0
OpensFile file bytes fault = Opens AtLineStart (logical_text file bytes) fault
