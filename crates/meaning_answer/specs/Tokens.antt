-- The text of a unit's tokens, as `-E` writes it.
use Rattle.std.specs.Prelude.{ℕ, Bool, ◌==◌, ◌&&◌, List, [], ◌∷◌, ◌++◌, codes, if◌then◌else◌}
use Rattle.meaning_text.specs.Places.{At}
use Rattle.meaning_text.specs.Tokens.{Tok}

-- one line of one file
abbrev pub is_line_of : At → At → Bool
is_line_of at other = at.file == other.file && at.line == other.line

-- a token behind one that stands here: on a line of its own, unless both stand on one line
abbrev pub token_behind : At → Tok → List ℕ
token_behind at t = (if is_line_of at t.at then codes " " else codes "\n") ++ t.text

-- tokens behind one that stands here, and the last new-line
abbrev pub tokens_behind : At → List Tok → List ℕ
tokens_behind at [] = codes "\n"
tokens_behind at (t ∷ ts) = token_behind at t ++ tokens_behind t.at ts

-- the text of the tokens
abbrev pub tokens_text : List Tok → List ℕ
tokens_text [] = []
tokens_text (t ∷ ts) = t.text ++ tokens_behind t.at ts
