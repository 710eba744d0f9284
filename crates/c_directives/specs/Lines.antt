-- How the parts of a file and its directives are seen by the definitions of `meaning_preprocessing`.
use Rattle.std.specs.Prelude.{ℕ, suc, ◌&&◌, List, [], ◌∷◌, ◌++◌, if◌then◌else◌}
use Rattle.meaning_text.specs.Tokens.{is_hash}
use Rattle.meaning_preprocessing.specs.Lines.{FileParts, file_parts, lines_of}
use Rattle.meaning_preprocessing.specs.Lines as lines
use Rattle.c_tokens.specs.declared.token.Token.{Token}
use Rattle.c_tokens.specs.Seen.{tok_of, toks_of}
use Rattle.c_directives.specs.declared.lines.FilePart.{FilePart}
use Rattle.c_directives.specs.declared.lines.FilePart.TheVariants.{LastText, Directive}
use Rattle.c_directives.specs.declared.words.DirectiveName.{DirectiveName}
use Rattle.c_directives.specs.declared.words.DirectiveName.TheVariants as found

-- the parts of a file of these tokens
abbrev pub parts_of : List (List ℕ) → List Token → FileParts
parts_of names tokens = file_parts (lines_of (toks_of names tokens))

-- the parts that begin so
abbrev pub part_seen : List (List ℕ) → FilePart → FileParts
part_seen names (LastText text) = lines.LastText (toks_of names text.now)
part_seen names (Directive text hash rest behind) =
    lines.DirectiveBehind (toks_of names text.now) (tok_of names hash) (toks_of names rest.now) (parts_of names behind.now)

-- the tokens of a part and those behind it
abbrev pub tokens_in : FilePart → List Token
tokens_in (LastText text) = text.now
tokens_in (Directive text hash rest behind) = text.now ++ hash ∷ rest.now ++ behind.now

-- the tokens of a part from its `#` on
abbrev pub from_hash : FilePart → List Token
from_hash (LastText text) = []
from_hash (Directive text hash rest behind) = hash ∷ rest.now ++ behind.now

-- without the text before the first directive
abbrev pub without_text : FileParts → FileParts
without_text (lines.LastText text) = lines.LastText []
without_text (lines.DirectiveBehind text hash rest parts) = lines.DirectiveBehind [] hash rest parts

-- how many tokens go on with a line
abbrev pub line_length : List Token → ℕ
line_length [] = 0
line_length (t ∷ ts) = if t.line_start then 0 else suc (line_length ts)

-- how many tokens go on with a text
abbrev pub text_behind : List Token → ℕ
text_behind [] = 0
text_behind (t ∷ ts) = if t.line_start && is_hash t.kind then 0 else suc (text_behind ts)

-- how many tokens of lines stand before a directive
abbrev pub text_length : List Token → ℕ
text_length [] = 0
text_length (t ∷ ts) = if is_hash t.kind then 0 else suc (text_behind ts)

abbrev pub name_seen : DirectiveName → lines.DirectiveName
name_seen found.If = lines.IfLine
name_seen found.Ifdef = lines.IfdefLine
name_seen found.Ifndef = lines.IfndefLine
name_seen found.Elif = lines.ElifLine
name_seen found.Else = lines.ElseLine
name_seen found.Endif = lines.EndifLine
name_seen found.Include = lines.IncludeLine
name_seen found.Define = lines.DefineLine
name_seen found.Undef = lines.UndefLine
name_seen found.Error = lines.ErrorLine
name_seen found.Unread = lines.UnreadLine
name_seen found.Unknown = lines.UnknownLine
