-- The string literal that `#` makes of an argument (C11 6.10.3.2 p2).
use Rattle.std.specs.Prelude.{ℕ, false, ◌==◌, ◌||◌, List, [], ◌∷◌, ◌++◌, if◌then◌else◌}
use Rattle.vocabulary.specs.declared.token_kind.TokenKind.TheVariants.{String}
use Rattle.meaning_text.specs.Bytes.{space, double_quote, backslash}
use Rattle.meaning_text.specs.Places.{At}
use Rattle.meaning_text.specs.Tokens.{Tok}
use Rattle.meaning_macros.specs.Signs.{is_literal_kind}
use Rattle.meaning_macros.specs.Hiding.{Hiding, hides_nothing}

-- a backslash goes before each `"` and each backslash
abbrev pub with_backslashes : List ℕ → List ℕ
with_backslashes [] = []
with_backslashes (b ∷ text) =
    (if b == double_quote || b == backslash then backslash ∷ b ∷ [] else b ∷ []) ++ with_backslashes text

-- how a token is spelled within the string: it is so in literals alone
abbrev pub spelled_within : Tok → List ℕ
spelled_within t = if is_literal_kind t.kind then with_backslashes t.text else t.text

-- one space for any white space between two tokens
abbrev pub text_behind : List Hiding → List ℕ
text_behind [] = []
text_behind (t ∷ ts) = (if t.token.space_before then space ∷ [] else []) ++ spelled_within t.token ++ text_behind ts

-- none before the first and behind the last
abbrev pub argument_text : List Hiding → List ℕ
argument_text [] = []
argument_text (t ∷ ts) = spelled_within t.token ++ text_behind ts

-- The token that `#` makes. It is of a string literal's kind even where a backslash that is no literal's spoils it, which is
-- our choice: the standard leaves it undefined.
abbrev pub string_of_argument : At → List Hiding → Hiding
string_of_argument place argument =
    hides_nothing (record {
      kind = String;
      text = double_quote ∷ (argument_text argument ++ double_quote ∷ []);
      at = place;
      space_before = false;
      line_start = false;
    })
