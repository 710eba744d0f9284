-- Where the parentheses of a list pair up, there is one way to cut it at the commas outside of them.
use Rattle.std.specs.Prelude.{◌≡◌, ℕ, ◌==◌, Bool, true, ◌&&◌, not, List, [], ◌∷◌, ◌++◌}
use Rattle.std.specs.List.{list_all}
use Rattle.vocabulary.specs.declared.token_kind.TokenKind.{TokenKind}
use Rattle.meaning_text.specs.Tokens.{Tok}
use Rattle.meaning_attributes.specs.Tokens.{is_closing}
use Rattle.meaning_attributes.specs.Pieces.{cuts, depth_behind, is_comma, comma_pieces}

-- a closing parenthesis that closes none
abbrev pub closes_none : ℕ → TokenKind → Bool
closes_none depth kind = depth == 0 && is_closing kind

-- the parentheses pair up, where so many are open at the start
abbrev pub is_balanced_at : ℕ → List Tok → Bool
is_balanced_at depth [] = depth == 0
is_balanced_at depth (token ∷ tokens) =
    not (closes_none depth token.kind) && is_balanced_at (depth_behind depth token.kind) tokens

-- the parentheses pair up
abbrev pub is_balanced : List Tok → Bool
is_balanced tokens = is_balanced_at 0 tokens

-- they pair up, and no comma stands outside, where so many are open at the start
abbrev pub is_piece_at : ℕ → List Tok → Bool
is_piece_at depth [] = depth == 0
is_piece_at depth (token ∷ tokens) =
    not (closes_none depth token.kind) && not (cuts depth token.kind) && is_piece_at (depth_behind depth token.kind) tokens

-- the parentheses pair up, and no comma stands outside
abbrev pub is_one_piece : List Tok → Bool
is_one_piece tokens = is_piece_at 0 tokens

-- the tokens are these pieces, with a comma between each and the next
abbrev pub AreJoined : List (List Tok) → List Tok → Type 0
AreJoined [] tokens = ⊥
AreJoined (piece ∷ []) tokens = tokens ≡ piece
AreJoined (piece ∷ other ∷ pieces) tokens =
    (comma : Tok) × (rest : List Tok) × (is_comma comma.kind ≡ true) × (tokens ≡ piece ++ comma ∷ rest) × AreJoined (other ∷ pieces) rest

-- the pieces of a list make it up
abbrev pub PiecesAreJoined : Type 0
PiecesAreJoined = (tokens : List Tok) → AreJoined (comma_pieces tokens) tokens

-- no piece has a comma outside its parentheses, which pair up
abbrev pub PiecesArePieces : Type 0
PiecesArePieces = (tokens : List Tok) → is_balanced tokens ≡ true → list_all is_one_piece (comma_pieces tokens) ≡ true

-- there are no others
abbrev pub PiecesAreThose : Type 0
PiecesAreThose = (tokens : List Tok) (pieces : List (List Tok)) → AreJoined pieces tokens → list_all is_one_piece pieces ≡ true → comma_pieces tokens ≡ pieces
