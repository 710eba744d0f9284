-- What the grammar sees of a unit's tokens.
use Rattle.std.specs.Prelude.{ℕ, ◌+◌, List, [], ◌∷◌, Option, Result, Err, Some, if◌then◌else◌}
use Rattle.std.specs.Str.{bytes_eq}
use Rattle.vocabulary.specs.declared.error_kind.ErrorKind.{ErrorKind}
use Rattle.vocabulary.specs.declared.error_kind.ErrorKind.TheVariants.{FloatingType, UniversalCharacterName, WideOrUtfLiteral}
use Rattle.vocabulary.specs.declared.token_kind.TokenKind.{TokenKind}
use Rattle.vocabulary.specs.declared.token_kind.TokenKind.TheVariants as kinds
use Rattle.vocabulary.specs.declared.token_class.TokenClass.{TokenClass}
use Rattle.vocabulary.specs.declared.token_class.TokenClass.TheVariants as classes
use Rattle.meaning_text.specs.Tokens.{Tok}
use Rattle.meaning_literals.specs.Constants.{Constant, Fault, FloatingFault, WideFault, UniversalFault}
use Rattle.meaning_literals.specs.Integers.{integer_of}
use Rattle.meaning_literals.specs.Quoted.{char_of, string_of}
use Rattle.meaning_grammar.specs.Words.{Reading, read_as, refused_as, word_reading, extension}

-- What the grammar sees of a token
pub record Terminal : Type 0 where
  -- the index of the token in the unit
  pub index : ℕ
  -- its class, where a name is none of a type
  pub class_ : TokenClass
  -- its spelling
  pub text : List ℕ
  -- what it is refused for where nothing goes on with it, if it is a word or a literal that isn't supported
  pub refusal : Option ErrorKind

-- Literals: one that isn't supported is told as such; what else is bad in one is asked of its value

-- of a number
abbrev pub number_reading : Result Constant Fault → Reading
number_reading (Err FloatingFault) = refused_as FloatingType
number_reading result = read_as classes.Number

-- of a character constant
abbrev pub character_reading : Result Constant Fault → Reading
character_reading (Err WideFault) = refused_as WideOrUtfLiteral
character_reading (Err UniversalFault) = refused_as UniversalCharacterName
character_reading result = read_as classes.Character

-- of a string literal
abbrev pub string_reading : Result (List ℕ) Fault → Reading
string_reading (Err WideFault) = record { class_ = classes.RefusedString; refusal = Some WideOrUtfLiteral }
string_reading (Err UniversalFault) = record { class_ = classes.RefusedString; refusal = Some UniversalCharacterName }
string_reading result = read_as classes.String

-- how a token of this kind and spelling is read; a digraph is of the kind of what it stands for
abbrev pub reading_of : TokenKind → List ℕ → Reading
reading_of kinds.Identifier text = word_reading text
reading_of kinds.Number text = number_reading (integer_of text)
reading_of kinds.Character text = character_reading (char_of text)
reading_of kinds.String text = string_reading (string_of text)
reading_of kinds.LeftBracket text = read_as classes.LeftBracket
reading_of kinds.RightBracket text = read_as classes.RightBracket
reading_of kinds.LeftParenthesis text = read_as classes.LeftParenthesis
reading_of kinds.RightParenthesis text = read_as classes.RightParenthesis
reading_of kinds.LeftBrace text = read_as classes.LeftBrace
reading_of kinds.RightBrace text = read_as classes.RightBrace
reading_of kinds.Dot text = read_as classes.Dot
reading_of kinds.Arrow text = read_as classes.Arrow
reading_of kinds.PlusPlus text = read_as classes.PlusPlus
reading_of kinds.MinusMinus text = read_as classes.MinusMinus
reading_of kinds.Ampersand text = read_as classes.Ampersand
reading_of kinds.Star text = read_as classes.Star
reading_of kinds.Plus text = read_as classes.Plus
reading_of kinds.Minus text = read_as classes.Minus
reading_of kinds.Tilde text = read_as classes.Tilde
reading_of kinds.Exclamation text = read_as classes.Exclamation
reading_of kinds.Slash text = read_as classes.Slash
reading_of kinds.Percent text = read_as classes.Percent
reading_of kinds.ShiftLeft text = read_as classes.ShiftLeft
reading_of kinds.ShiftRight text = read_as classes.ShiftRight
reading_of kinds.Less text = read_as classes.Less
reading_of kinds.Greater text = read_as classes.Greater
reading_of kinds.LessEqual text = read_as classes.LessEqual
reading_of kinds.GreaterEqual text = read_as classes.GreaterEqual
reading_of kinds.EqualEqual text = read_as classes.EqualEqual
reading_of kinds.NotEqual text = read_as classes.NotEqual
reading_of kinds.Caret text = read_as classes.Caret
reading_of kinds.Bar text = read_as classes.Bar
reading_of kinds.AndAnd text = read_as classes.AndAnd
reading_of kinds.OrOr text = read_as classes.OrOr
reading_of kinds.Question text = read_as classes.Question
reading_of kinds.Colon text = read_as classes.Colon
reading_of kinds.Semicolon text = read_as classes.Semicolon
reading_of kinds.Ellipsis text = read_as classes.Ellipsis
reading_of kinds.Assign text = read_as classes.Assign
reading_of kinds.StarAssign text = read_as classes.StarAssign
reading_of kinds.SlashAssign text = read_as classes.SlashAssign
reading_of kinds.PercentAssign text = read_as classes.PercentAssign
reading_of kinds.PlusAssign text = read_as classes.PlusAssign
reading_of kinds.MinusAssign text = read_as classes.MinusAssign
reading_of kinds.ShiftLeftAssign text = read_as classes.ShiftLeftAssign
reading_of kinds.ShiftRightAssign text = read_as classes.ShiftRightAssign
reading_of kinds.AndAssign text = read_as classes.AndAssign
reading_of kinds.XorAssign text = read_as classes.XorAssign
reading_of kinds.OrAssign text = read_as classes.OrAssign
reading_of kinds.Comma text = read_as classes.Comma
-- a header name, `#`, `##`, a stray byte
reading_of kind text = read_as classes.OtherToken

-- the terminal of the token with this index
abbrev pub terminal_at : ℕ → Tok → Terminal
terminal_at index token =
    let reading = reading_of token.kind token.text in
    record { index = index; class_ = reading.class_; text = token.text; refusal = reading.refusal }

-- the terminals of tokens, of which the first has this index
abbrev pub terminals_from : ℕ → List Tok → List Terminal
terminals_from index [] = []
terminals_from index (token ∷ tokens) =
    if bytes_eq token.text extension then terminals_from (index + 1) tokens
    else terminal_at index token ∷ terminals_from (index + 1) tokens

-- the terminals of a unit's tokens
abbrev pub terminals : List Tok → List Terminal
terminals tokens = terminals_from 0 tokens
