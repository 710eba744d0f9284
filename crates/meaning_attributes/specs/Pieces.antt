-- Lists of tokens that are cut at their commas, and those between parentheses.
use Rattle.std.specs.Prelude.{ℕ, suc, ◌-◌, ◌+◌, ◌==◌, Bool, true, false, ◌&&◌, List, [], ◌∷◌, if◌then◌else◌}
use Rattle.vocabulary.specs.declared.token_kind.TokenKind.{TokenKind}
use Rattle.vocabulary.specs.declared.token_kind.TokenKind.TheVariants.{LeftParenthesis, RightParenthesis, Comma}
use Rattle.meaning_text.specs.Tokens.{Tok}
use Rattle.meaning_attributes.specs.Tokens.{is_opening, is_closing}

-- How many parentheses are open behind a token, of those that are open before it. One that closes none, which the
-- grammar derives nowhere, changes nothing.
abbrev pub depth_behind : ℕ → TokenKind → ℕ
depth_behind depth LeftParenthesis = depth + 1
depth_behind depth RightParenthesis = depth - 1
depth_behind depth kind = depth

-- `,`
abbrev pub is_comma : TokenKind → Bool
is_comma Comma = true
is_comma kind = false

-- a comma where no parenthesis is open
abbrev pub cuts : ℕ → TokenKind → Bool
cuts depth kind = depth == 0 && is_comma kind

-- the token before the first of the pieces
abbrev pub before_first : Tok → List (List Tok) → List (List Tok)
before_first token [] = (token ∷ []) ∷ []
before_first token (piece ∷ pieces) = (token ∷ piece) ∷ pieces

-- the pieces of tokens before which so many parentheses are open
abbrev pub pieces_at : ℕ → List Tok → List (List Tok)
pieces_at depth [] = [] ∷ []
pieces_at depth (token ∷ tokens) =
    if cuts depth token.kind then [] ∷ pieces_at 0 tokens
    else before_first token (pieces_at (depth_behind depth token.kind) tokens)

-- what stands before, between and behind the commas outside parentheses
abbrev pub comma_pieces : List Tok → List (List Tok)
comma_pieces tokens = pieces_at 0 tokens

-- Parentheses

-- a parenthesis closes none of those that are open
abbrev pub closes : (depth : ℕ) → TokenKind → Bool
closes depth kind = depth == 0 && is_closing kind

-- the tokens up to that parenthesis, where so many are open before them
abbrev pub up_to_closing : (depth : ℕ) → List Tok → List Tok
up_to_closing depth [] = []
up_to_closing depth (token ∷ tokens) = if closes depth token.kind then [] else token ∷ up_to_closing (depth_behind depth token.kind) tokens

-- what stands between the first parenthesis and the one that closes it
abbrev pub in_parentheses : List Tok → List Tok
in_parentheses [] = []
in_parentheses (token ∷ tokens) = if is_opening token.kind then up_to_closing 0 tokens else in_parentheses tokens

-- how many tokens that begins behind
abbrev pub length_to_inside : List Tok → ℕ
length_to_inside [] = 0
length_to_inside (token ∷ tokens) = suc (if is_opening token.kind then 0 else length_to_inside tokens)
