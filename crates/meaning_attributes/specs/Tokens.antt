-- What a token is to an attribute. GNU's attributes and `__extension__` are no part of C11.
use Rattle.std.specs.Prelude.{ℕ, Bool, true, false, ◌&&◌, not, Option, None, Some, Result, Ok, Err, List, [], ◌∷◌, filter, codes}
use Rattle.std.specs.Str.{bytes_eq}
use Rattle.vocabulary.specs.declared.token_kind.TokenKind.{TokenKind}
use Rattle.vocabulary.specs.declared.token_kind.TokenKind.TheVariants.{Identifier, Number, LeftParenthesis, RightParenthesis}
use Rattle.meaning_text.specs.Tokens.{Tok}
use Rattle.meaning_literals.specs.Constants.{Constant, Fault}
use Rattle.meaning_literals.specs.Integers.{integer_of}

-- a name or a keyword
abbrev pub is_identifier_kind : TokenKind → Bool
is_identifier_kind Identifier = true
is_identifier_kind kind = false

-- `(`
abbrev pub is_opening : TokenKind → Bool
is_opening LeftParenthesis = true
is_opening kind = false

-- `)`
abbrev pub is_closing : TokenKind → Bool
is_closing RightParenthesis = true
is_closing kind = false

-- `__extension__`, which means nothing wherever it stands
abbrev pub is_extension : Tok → Bool
is_extension token = is_identifier_kind token.kind && bytes_eq token.text (codes "__extension__")

-- it isn't `__extension__`
abbrev pub means_something : Tok → Bool
means_something token = not (is_extension token)

-- the tokens but for each `__extension__`
abbrev pub without_extensions : List Tok → List Tok
without_extensions tokens = filter means_something tokens

-- the value of an integer constant of any base and suffix, unless it is refused
abbrev pub constant_value : Result Constant Fault → Option ℕ
constant_value (Ok constant) = Some constant.bits
constant_value (Err fault) = None

-- the number of a token of this kind and spelling; a character constant has none
abbrev pub number_spelled : TokenKind → List ℕ → Option ℕ
number_spelled Number text = constant_value (integer_of text)
number_spelled kind text = None

-- the number that the token is
abbrev pub number_at : Tok → Option ℕ
number_at token = number_spelled token.kind token.text

-- the number that the tokens are
abbrev pub lone_number : List Tok → Option ℕ
lone_number (token ∷ []) = number_at token
lone_number tokens = None
