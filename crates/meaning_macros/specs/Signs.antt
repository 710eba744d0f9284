-- The tokens by which bodies and calls of macros are told apart (C11 6.10.3).
use Rattle.std.specs.Prelude.{Bool, true, false}
use Rattle.vocabulary.specs.declared.token_kind.TokenKind.{TokenKind}
use Rattle.vocabulary.specs.declared.token_kind.TokenKind.TheVariants.{Identifier, Character, String, LeftParenthesis, RightParenthesis, Comma, HashHash}

-- a name or a keyword: each can name a macro (6.10.3 p9, 6.4.1 p2)
abbrev pub is_identifier_kind : TokenKind → Bool
is_identifier_kind Identifier = true
is_identifier_kind kind = false

-- a character constant or a string literal
abbrev pub is_literal_kind : TokenKind → Bool
is_literal_kind Character = true
is_literal_kind String = true
is_literal_kind kind = false

-- `(`
abbrev pub is_left_parenthesis : TokenKind → Bool
is_left_parenthesis LeftParenthesis = true
is_left_parenthesis kind = false

-- `)`
abbrev pub is_right_parenthesis : TokenKind → Bool
is_right_parenthesis RightParenthesis = true
is_right_parenthesis kind = false

-- `,`
abbrev pub is_comma : TokenKind → Bool
is_comma Comma = true
is_comma kind = false

-- `##`, also where it is spelled as a digraph
abbrev pub is_hash_hash : TokenKind → Bool
is_hash_hash HashHash = true
is_hash_hash kind = false
