-- The punctuators of C11 6.4.6.
use Rattle.std.specs.Prelude.{ℕ, List, [], ◌∷◌, ◌++◌, map, Option, Some, None, unwrap_or, codes, if◌then◌else◌}
use Rattle.std.specs.Str.{bytes_eq}
use Rattle.vocabulary.specs.declared.token_kind.TokenKind.{TokenKind}
use Rattle.vocabulary.specs.declared.token_kind.TokenKind.TheVariants.{LeftBracket, RightBracket, LeftParenthesis, RightParenthesis, LeftBrace, RightBrace, Dot, Arrow, PlusPlus, MinusMinus, Ampersand, Star, Plus, Minus, Tilde, Exclamation, Slash, Percent, ShiftLeft, ShiftRight, Less, Greater, LessEqual, GreaterEqual, EqualEqual, NotEqual, Caret, Bar, AndAnd, OrOr, Question, Colon, Semicolon, Ellipsis, Assign, StarAssign, SlashAssign, PercentAssign, PlusAssign, MinusAssign, ShiftLeftAssign, ShiftRightAssign, AndAssign, XorAssign, OrAssign, Comma, Hash, HashHash}

-- how a punctuator is spelled where it is no digraph (p1); no other token has a spelling of its own
abbrev pub own_spelling : TokenKind → Option (List ℕ)
own_spelling LeftBracket = Some (codes "[")
own_spelling RightBracket = Some (codes "]")
own_spelling LeftParenthesis = Some (codes "(")
own_spelling RightParenthesis = Some (codes ")")
own_spelling LeftBrace = Some (codes "{")
own_spelling RightBrace = Some (codes "}")
own_spelling Dot = Some (codes ".")
own_spelling Arrow = Some (codes "->")
own_spelling PlusPlus = Some (codes "++")
own_spelling MinusMinus = Some (codes "--")
own_spelling Ampersand = Some (codes "&")
own_spelling Star = Some (codes "*")
own_spelling Plus = Some (codes "+")
own_spelling Minus = Some (codes "-")
own_spelling Tilde = Some (codes "~")
own_spelling Exclamation = Some (codes "!")
own_spelling Slash = Some (codes "/")
own_spelling Percent = Some (codes "%")
own_spelling ShiftLeft = Some (codes "<<")
own_spelling ShiftRight = Some (codes ">>")
own_spelling Less = Some (codes "<")
own_spelling Greater = Some (codes ">")
own_spelling LessEqual = Some (codes "<=")
own_spelling GreaterEqual = Some (codes ">=")
own_spelling EqualEqual = Some (codes "==")
own_spelling NotEqual = Some (codes "!=")
own_spelling Caret = Some (codes "^")
own_spelling Bar = Some (codes "|")
own_spelling AndAnd = Some (codes "&&")
own_spelling OrOr = Some (codes "||")
own_spelling Question = Some (codes "?")
own_spelling Colon = Some (codes ":")
own_spelling Semicolon = Some (codes ";")
own_spelling Ellipsis = Some (codes "...")
own_spelling Assign = Some (codes "=")
own_spelling StarAssign = Some (codes "*=")
own_spelling SlashAssign = Some (codes "/=")
own_spelling PercentAssign = Some (codes "%=")
own_spelling PlusAssign = Some (codes "+=")
own_spelling MinusAssign = Some (codes "-=")
own_spelling ShiftLeftAssign = Some (codes "<<=")
own_spelling ShiftRightAssign = Some (codes ">>=")
own_spelling AndAssign = Some (codes "&=")
own_spelling XorAssign = Some (codes "^=")
own_spelling OrAssign = Some (codes "|=")
own_spelling Comma = Some (codes ",")
own_spelling Hash = Some (codes "#")
own_spelling HashHash = Some (codes "##")
own_spelling kind = None

-- a spelling, and the punctuator that is spelled so
pub record PunctuatorRow : Type 0 where
  pub spelling : List ℕ
  pub kind : TokenKind

-- the row of a punctuator with its own spelling
abbrev pub plain : TokenKind → PunctuatorRow
plain kind = record { spelling = unwrap_or (own_spelling kind) []; kind = kind }

-- the row of a digraph, with the punctuator that it behaves as
abbrev pub digraph : List ℕ → TokenKind → PunctuatorRow
digraph spelling kind = record { spelling = spelling; kind = kind }

-- the 48 with a spelling of their own
abbrev pub punctuator_kinds : List TokenKind
punctuator_kinds =
    LeftBracket ∷ RightBracket ∷ LeftParenthesis ∷ RightParenthesis ∷ LeftBrace ∷ RightBrace ∷ Dot ∷ Arrow
    ∷ PlusPlus ∷ MinusMinus ∷ Ampersand ∷ Star ∷ Plus ∷ Minus ∷ Tilde ∷ Exclamation
    ∷ Slash ∷ Percent ∷ ShiftLeft ∷ ShiftRight ∷ Less ∷ Greater ∷ LessEqual ∷ GreaterEqual
    ∷ EqualEqual ∷ NotEqual ∷ Caret ∷ Bar ∷ AndAnd ∷ OrOr
    ∷ Question ∷ Colon ∷ Semicolon ∷ Ellipsis
    ∷ Assign ∷ StarAssign ∷ SlashAssign ∷ PercentAssign ∷ PlusAssign ∷ MinusAssign ∷ ShiftLeftAssign ∷ ShiftRightAssign
    ∷ AndAssign ∷ XorAssign ∷ OrAssign
    ∷ Comma ∷ Hash ∷ HashHash ∷ []

-- the rows of the 48
unfoldable pub plain_punctuators : List PunctuatorRow
plain_punctuators = map plain punctuator_kinds

-- the six that behave as others (p3)
unfoldable pub digraphs : List PunctuatorRow
digraphs =
    digraph (codes "<:") LeftBracket ∷ digraph (codes ":>") RightBracket
    ∷ digraph (codes "<%") LeftBrace ∷ digraph (codes "%>") RightBrace
    ∷ digraph (codes "%:") Hash ∷ digraph (codes "%:%:") HashHash ∷ []

-- the rows of all 54 spellings (p1)
unfoldable pub punctuators : List PunctuatorRow
punctuators = plain_punctuators ++ digraphs

-- the punctuator of the first row with this spelling
abbrev pub punctuator_among : List PunctuatorRow → List ℕ → Option TokenKind
punctuator_among [] text = None
punctuator_among (row ∷ rows) text = if bytes_eq row.spelling text then Some row.kind else punctuator_among rows text

-- the punctuator that is spelled so
unfoldable pub punctuator_of : List ℕ → Option TokenKind
punctuator_of text = punctuator_among punctuators text
