-- The plain function beside the relation `Lexes`, second half: it takes a text front by front and computes its tokens,
-- or the first fault.
use Rattle.std.specs.Prelude.{ℕ, zero, suc, Bool, true, false, List, [], ◌∷◌, length, take, drop}
use Rattle.meaning_text.specs.Logical.{SourceByte, bytes_of, logical_text}
use Rattle.meaning_text.specs.Tokens.{Tok, Context, AtLineStart, allows_header_name, is_line_start, behind_token, LexFault, OpenComment, OpenLiteral}
use Rattle.meaning_text.specs.Fronts.{Front, AtEnd, AtNewLine, AtBlank, AtComment, AtToken, AtOpenComment, AtOpenLiteral, front_of}

-- the tokens of a text, or the fault for which it has none
pub data Lexed : Type 0 where
  Tokens : List Tok → Lexed
  Refused : LexFault → Lexed

-- with a token before those that are found, if no fault is
abbrev pub with_token : Tok → Lexed → Lexed
with_token token (Tokens tokens) = Tokens (token ∷ tokens)
with_token token (Refused fault) = Refused fault

-- What the front makes of a text that begins with this byte, where `later` gives the tokens of what is behind the front.
-- The flag says whether white space stands directly before the text.
abbrev pub lexed_front : (Context → Bool → List SourceByte → Lexed) → Context → Bool → SourceByte → List SourceByte → Front → Lexed
lexed_front later context space first rest AtEnd = Tokens []
lexed_front later context space first rest AtNewLine = later AtLineStart true rest
lexed_front later context space first rest AtBlank = later context true rest
lexed_front later context space first rest (AtComment count) = later context true (drop count (first ∷ rest))
lexed_front later context space first rest (AtToken kind count) =
    with_token
    (record {
      kind = kind;
      text = take count (bytes_of (first ∷ rest));
      at = first.at;
      space_before = space;
      line_start = is_line_start context;
    })
    (later (behind_token context kind (take count (bytes_of (first ∷ rest)))) false (drop count (first ∷ rest)))
lexed_front later context space first rest AtOpenComment = Refused (OpenComment first.at)
lexed_front later context space first rest AtOpenLiteral = Refused (OpenLiteral first.at)

-- The tokens of a text, or its first fault, if it has no more fronts than this. Each front takes a byte at least.
abbrev pub lexed_within : ℕ → Context → Bool → List SourceByte → Lexed
lexed_within fronts context space [] = Tokens []
lexed_within zero context space (first ∷ rest) = Tokens []
lexed_within (suc fronts) context space (first ∷ rest) =
    lexed_front (lexed_within fronts) context space first rest (front_of (allows_header_name context) (bytes_of (first ∷ rest)))

-- the same behind white space or without it, for a text of any length
abbrev pub lexed_behind : Context → Bool → List SourceByte → Lexed
lexed_behind context space text = lexed_within (length text) context space text

-- the tokens of a text that has no white space directly before it, or its first fault
abbrev pub lexed : Context → List SourceByte → Lexed
lexed context text = lexed_behind context false text

-- the tokens of the file with this number, or its first fault
abbrev pub lexed_file : ℕ → List ℕ → Lexed
lexed_file file bytes = lexed AtLineStart (logical_text file bytes)
