-- What the grammar sees of tokens.
use Rattle.std.specs.Prelude.{ℕ, List, map, unwrap_or}
use Rattle.vocabulary.specs.declared.token_kind.TokenKind.{TokenKind}
use Rattle.meaning_text.specs.Punctuators.{own_spelling}
use Rattle.meaning_text.specs.Tokens.{Tok}

-- A digraph behaves as the punctuator that it stands for, but for its spelling (C11 6.4.6 p3).
abbrev pub terminal_spelled : TokenKind → List ℕ → List ℕ
terminal_spelled kind text = unwrap_or (own_spelling kind) text

-- the terminal of a token
abbrev pub terminal_of : Tok → List ℕ
terminal_of token = terminal_spelled token.kind token.text

-- the terminals of tokens, in order
abbrev pub terminals_of : List Tok → List (List ℕ)
terminals_of tokens = map terminal_of tokens
