-- How the pieces of a list make it up.
use Rattle.std.proofs.Common.{◌≡◌, ℕ, ◌==◌, Bool, true, false, cond, ◌&&◌, not, List, [], ◌∷◌, ◌++◌, refl, sym, ap, ◌∙◌, arith}
use Rattle.std.specs.List.{list_all}
use Rattle.std.proofs.lemmas.Bool.{and_parts, and_from, cond-true, cond-false}
use Rattle.std.proofs.lemmas.Bool.Decides.{nat_tests}
use Rattle.vocabulary.specs.declared.token_kind.TokenKind.{TokenKind}
use Rattle.vocabulary.specs.declared.token_kind.TokenKind.TheVariants.{Comma}
use Rattle.meaning_text.specs.Tokens.{Tok}
use Rattle.meaning_attributes.specs.Pieces.{before_first, cuts, depth_behind, is_comma, pieces_at, comma_pieces}
use Rattle.meaning_attributes.specs.laws.Pieces.{AreJoined, closes_none, is_balanced_at, is_piece_at, is_one_piece}

-- a comma before joined pieces begins with an empty piece
joined-comma : (token : Tok) (pieces : List (List Tok)) (tokens : List Tok) → is_comma token.kind ≡ true → AreJoined pieces tokens → AreJoined ([] ∷ pieces) (token ∷ tokens)
joined-comma token [] tokens comma joined = absurd joined
joined-comma token (piece ∷ pieces) tokens comma joined = (token, tokens, comma, refl, joined)

-- another token joins the first piece
joined-before : (token : Tok) (pieces : List (List Tok)) (tokens : List Tok) → AreJoined pieces tokens → AreJoined (before_first token pieces) (token ∷ tokens)
joined-before token [] tokens joined = absurd joined
joined-before token (piece ∷ []) tokens joined = ap (λ rest. token ∷ rest) joined
joined-before token (piece ∷ other ∷ pieces) tokens joined =
    (joined.0, joined.1, joined.2, ap (λ rest. token ∷ rest) joined.3, joined.4)

-- whichever of both the token is
joined-either : (cut : Bool) (token : Tok) (behind others : List (List Tok)) (tokens : List Tok) → (cut ≡ true → is_comma token.kind ≡ true) → AreJoined behind tokens → AreJoined others tokens → AreJoined (cond cut ([] ∷ behind) (before_first token others)) (token ∷ tokens)
joined-either true token behind others tokens comma joined rest = joined-comma token behind tokens (comma refl) joined
joined-either false token behind others tokens comma joined rest = joined-before token others tokens rest

pub pieces_at-joined : (depth : ℕ) (tokens : List Tok) → AreJoined (pieces_at depth tokens) tokens
pieces_at-joined depth [] = refl
pieces_at-joined depth (token ∷ tokens) =
    joined-either (cuts depth token.kind) token (pieces_at 0 tokens) (pieces_at (depth_behind depth token.kind) tokens) tokens
    (λ cut. (and_parts (depth == 0) (is_comma token.kind) cut).1) (pieces_at-joined 0 tokens) (pieces_at-joined (depth_behind depth token.kind) tokens)

-- the first of these is a piece where so many parentheses are open, and the others are pieces
abbrev are_pieces : ℕ → List (List Tok) → Bool
are_pieces depth [] = false
are_pieces depth (piece ∷ pieces) = is_piece_at depth piece && list_all is_one_piece pieces

are_pieces-list_all : (pieces : List (List Tok)) → are_pieces 0 pieces ≡ true → list_all is_one_piece pieces ≡ true
are_pieces-list_all [] are = cc
are_pieces-list_all (piece ∷ pieces) are = are

pieces-before : (depth : ℕ) (token : Tok) (pieces : List (List Tok)) → closes_none depth token.kind ≡ false → cuts depth token.kind ≡ false → are_pieces (depth_behind depth token.kind) pieces ≡ true → are_pieces depth (before_first token pieces) ≡ true
pieces-before depth token [] closes uncut are = cc
pieces-before depth token (piece ∷ pieces) closes uncut are = rw (closes, uncut) are

is_piece_at-nil : (depth : ℕ) → (depth == 0) ≡ true → (pieces : List (List Tok)) → list_all is_one_piece pieces ≡ true → are_pieces depth ([] ∷ pieces) ≡ true
is_piece_at-nil depth zero pieces are = and_from (depth == 0) (list_all is_one_piece pieces) zero are

pieces-either : (depth : ℕ) (token : Tok) (cut : Bool) (behind others : List (List Tok)) → cuts depth token.kind ≡ cut → closes_none depth token.kind ≡ false
    → (cut ≡ true → are_pieces 0 behind ≡ true) → (cut ≡ false → are_pieces (depth_behind depth token.kind) others ≡ true)
    → are_pieces depth (cond cut ([] ∷ behind) (before_first token others)) ≡ true
pieces-either depth token true behind others is closes are rest =
    is_piece_at-nil depth (and_parts (depth == 0) (is_comma token.kind) is).0 behind (are_pieces-list_all behind (are refl))
pieces-either depth token false behind others is closes are rest = pieces-before depth token others closes is (rest refl)

-- a comma opens and closes nothing
comma-depth : (depth : ℕ) (kind : TokenKind) → is_comma kind ≡ true → depth_behind depth kind ≡ depth
comma-depth depth Comma comma = refl
comma-depth depth kind comma = cc

-- behind a comma that cuts no parenthesis is open
cut-depth : (depth : ℕ) (kind : TokenKind) → cuts depth kind ≡ true → depth_behind depth kind ≡ 0
cut-depth depth kind cut =
    let parts = and_parts (depth == 0) (is_comma kind) cut in
    let zero : depth ≡ 0 = grind (arith, nat_tests, parts.0) in
    comma-depth depth kind parts.1 ∙ zero

false_from_not : (b : Bool) → not b ≡ true → b ≡ false
false_from_not true same = cc
false_from_not false same = refl

pub pieces_at-pieces : (depth : ℕ) (tokens : List Tok) → is_balanced_at depth tokens ≡ true → are_pieces depth (pieces_at depth tokens) ≡ true
pieces_at-pieces depth [] balanced = and_from (depth == 0) true balanced refl
pieces_at-pieces depth (token ∷ tokens) balanced =
    let parts = and_parts (not (closes_none depth token.kind)) (is_balanced_at (depth_behind depth token.kind) tokens) balanced in
    pieces-either depth token (cuts depth token.kind) (pieces_at 0 tokens) (pieces_at (depth_behind depth token.kind) tokens) refl (false_from_not _ parts.0)
    (λ cut. pieces_at-pieces 0 tokens (ap (λ d. is_balanced_at d tokens) (sym (cut-depth depth token.kind cut)) ∙ parts.1))
    (λ uncut. pieces_at-pieces (depth_behind depth token.kind) tokens parts.1)

pub comma_pieces-pieces : (tokens : List Tok) → is_balanced_at 0 tokens ≡ true → list_all is_one_piece (comma_pieces tokens) ≡ true
comma_pieces-pieces tokens balanced = are_pieces-list_all (comma_pieces tokens) (pieces_at-pieces 0 tokens balanced)

-- the first token of a piece doesn't cut, and the others are as they have to be behind it
record BeginsPiece (depth : ℕ) (token : Tok) (tokens : List Tok) : Type 0 where
  uncut : cuts depth token.kind ≡ false
  behind : is_piece_at (depth_behind depth token.kind) tokens ≡ true

begins_piece : (depth : ℕ) (token : Tok) (tokens : List Tok) → is_piece_at depth (token ∷ tokens) ≡ true → BeginsPiece depth token tokens
begins_piece depth token tokens is =
    let parts = and_parts (not (closes_none depth token.kind) && not (cuts depth token.kind)) (is_piece_at (depth_behind depth token.kind) tokens) is in
    let front = and_parts (not (closes_none depth token.kind)) (not (cuts depth token.kind)) parts.0 in
    record { uncut = false_from_not _ front.1; behind = parts.1 }

-- a piece alone is its own piece
piece-alone : (depth : ℕ) (piece : List Tok) → is_piece_at depth piece ≡ true → pieces_at depth piece ≡ piece ∷ []
piece-alone depth [] is = refl
piece-alone depth (token ∷ tokens) is =
    let begins = begins_piece depth token tokens is in
    cond-false (cuts depth token.kind) _ _ begins.uncut
    ∙ ap (before_first token) (piece-alone (depth_behind depth token.kind) tokens begins.behind)

-- a piece before a comma is the first one
piece-comma : (depth : ℕ) (piece : List Tok) (comma : Tok) (rest : List Tok) → is_piece_at depth piece ≡ true → is_comma comma.kind ≡ true → pieces_at depth (piece ++ comma ∷ rest) ≡ piece ∷ pieces_at 0 rest
piece-comma depth [] comma rest is spelled =
    cond-true (cuts depth comma.kind) _ _ (and_from (depth == 0) (is_comma comma.kind) is spelled)
piece-comma depth (token ∷ tokens) comma rest is spelled =
    let begins = begins_piece depth token tokens is in
    cond-false (cuts depth token.kind) _ _ begins.uncut
    ∙ ap (before_first token) (piece-comma (depth_behind depth token.kind) tokens comma rest begins.behind spelled)

pub comma_pieces-unique : (pieces : List (List Tok)) (tokens : List Tok) → AreJoined pieces tokens → list_all is_one_piece pieces ≡ true → comma_pieces tokens ≡ pieces
comma_pieces-unique [] tokens joined are = absurd joined
comma_pieces-unique (piece ∷ []) tokens joined are =
    let parts = and_parts (is_one_piece piece) true are in
    ap comma_pieces joined ∙ piece-alone 0 piece parts.0
comma_pieces-unique (piece ∷ other ∷ pieces) tokens joined are =
    let parts = and_parts (is_one_piece piece) (list_all is_one_piece (other ∷ pieces)) are in
    ap comma_pieces joined.3 ∙ piece-comma 0 piece joined.0 joined.1 parts.0 joined.2
    ∙ ap (λ others. piece ∷ others) (comma_pieces-unique (other ∷ pieces) joined.1 joined.4 parts.1)
