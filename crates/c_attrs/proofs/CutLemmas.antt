-- The first comma that cuts, and the pieces before and behind it.
use Rattle.std.proofs.Common.{◌≡◌, ℕ, ◌==◌, Bool, true, false, suc, List, [], ◌∷◌, take, drop, refl, sym, ap, ◌∙◌}
use Rattle.std.proofs.lemmas.Bool.{and_parts, cond-true, cond-false}
use Rattle.std.proofs.Math.Bool.{and-false}
use Rattle.vocabulary.specs.declared.token_kind.TokenKind.{TokenKind}
use Rattle.vocabulary.specs.declared.token_kind.TokenKind.TheVariants.{Identifier}
use Rattle.meaning_text.specs.Tokens.{Tok}
use Rattle.meaning_attributes.specs.Tokens.{is_extension, is_identifier_kind}
use Rattle.meaning_attributes.specs.Pieces.{before_first, cuts, depth_behind, pieces_at}
use Rattle.c_tokens.specs.declared.token.Token.{Token}
use Rattle.c_tokens.specs.Seen.{tok_of, toks_of}
use Rattle.c_attrs.specs.Seen.{significant}
use Rattle.c_attrs.specs.Cuts.{length_to_comma}
use Rattle.c_attrs.proofs.TokenLemmas.{significant-drops, significant-keeps}

-- the pieces behind the comma with which these tokens begin, if there is one
abbrev pub behind_cut : (List Token → List Tok) → List Token → List (List Tok)
behind_cut seen [] = []
behind_cut seen (comma ∷ tokens) = pieces_at 0 (seen tokens)

-- tokens by a way to see them are cut at the first comma
abbrev pub IsCut : (List Token → List Tok) → ℕ → List Token → Type 0
IsCut seen depth tokens =
    pieces_at depth (seen tokens) ≡ seen (take (length_to_comma depth tokens) tokens) ∷ behind_cut seen (drop (length_to_comma depth tokens) tokens)

-- the parts at a comma that cuts
cut-here : (names : List (List ℕ)) (depth : ℕ) (token : Token) (tokens : List Token) → cuts depth token.kind ≡ true → IsCut (toks_of names) depth (token ∷ tokens)
cut-here names depth token tokens cut = rw cut refl

cut-later : (names : List (List ℕ)) (depth : ℕ) (token : Token) (tokens : List Token) → cuts depth token.kind ≡ false → IsCut (toks_of names) (depth_behind depth token.kind) tokens → IsCut (toks_of names) depth (token ∷ tokens)
cut-later names depth token tokens uncut behind = rw uncut (ap (before_first (tok_of names token)) behind)

cut-either : (names : List (List ℕ)) (depth : ℕ) (token : Token) (tokens : List Token) (cut : Bool) → cuts depth token.kind ≡ cut → IsCut (toks_of names) (depth_behind depth token.kind) tokens → IsCut (toks_of names) depth (token ∷ tokens)
cut-either names depth token tokens true is behind = cut-here names depth token tokens is
cut-either names depth token tokens false is behind = cut-later names depth token tokens is behind

pub is_cut : (names : List (List ℕ)) (depth : ℕ) (tokens : List Token) → IsCut (toks_of names) depth tokens
is_cut names depth [] = refl
is_cut names depth (token ∷ tokens) =
    cut-either names depth token tokens (cuts depth token.kind) refl (is_cut names (depth_behind depth token.kind) tokens)

-- `__extension__` opens, closes and cuts nothing
identifier-uncut : (depth : ℕ) (kind : TokenKind) → is_identifier_kind kind ≡ true → cuts depth kind ≡ false
identifier-uncut depth Identifier identifier = and-false (depth == 0)
identifier-uncut depth kind identifier = cc

identifier-depth : (depth : ℕ) (kind : TokenKind) → is_identifier_kind kind ≡ true → depth_behind depth kind ≡ depth
identifier-depth depth Identifier identifier = refl
identifier-depth depth kind identifier = cc

-- the parts at a token that means something
significant-here : (names : List (List ℕ)) (depth : ℕ) (token : Token) (tokens : List Token) → is_extension (tok_of names token) ≡ false → cuts depth token.kind ≡ true → IsCut (significant names) depth (token ∷ tokens)
significant-here names depth token tokens means cut =
    ap (pieces_at depth) (significant-keeps names token tokens means)
    ∙ cond-true (cuts depth token.kind) _ _ cut
    ∙ ap (λ count. significant names (take count (token ∷ tokens)) ∷ behind_cut (significant names) (drop count (token ∷ tokens))) (sym (cond-true (cuts depth token.kind) 0 _ cut))

significant-later : (names : List (List ℕ)) (depth : ℕ) (token : Token) (tokens : List Token) → is_extension (tok_of names token) ≡ false → cuts depth token.kind ≡ false → IsCut (significant names) (depth_behind depth token.kind) tokens → IsCut (significant names) depth (token ∷ tokens)
significant-later names depth token tokens means uncut behind =
    let count = length_to_comma (depth_behind depth token.kind) tokens in
    ap (pieces_at depth) (significant-keeps names token tokens means)
    ∙ cond-false (cuts depth token.kind) _ _ uncut
    ∙ ap (before_first (tok_of names token)) behind
    ∙ ap (λ piece. piece ∷ behind_cut (significant names) (drop count tokens)) (sym (significant-keeps names token (take count tokens) means))
    ∙ ap (λ some. significant names (take some (token ∷ tokens)) ∷ behind_cut (significant names) (drop some (token ∷ tokens))) (sym (cond-false (cuts depth token.kind) 0 (suc count) uncut))

-- the parts at an `__extension__`
significant-extension : (names : List (List ℕ)) (depth : ℕ) (token : Token) (tokens : List Token) → is_extension (tok_of names token) ≡ true → IsCut (significant names) depth tokens → IsCut (significant names) depth (token ∷ tokens)
significant-extension names depth token tokens extends behind =
    let identifier = (and_parts (is_identifier_kind token.kind) _ extends).0 in
    let count = length_to_comma depth tokens in
    let whole : length_to_comma depth (token ∷ tokens) ≡ suc count =
    cond-false (cuts depth token.kind) 0 _ (identifier-uncut depth token.kind identifier)
    ∙ ap (λ inside. suc (length_to_comma inside tokens)) (identifier-depth depth token.kind identifier) in
    ap (pieces_at depth) (significant-drops names token tokens extends)
    ∙ behind
    ∙ ap (λ piece. piece ∷ behind_cut (significant names) (drop count tokens)) (sym (significant-drops names token (take count tokens) extends))
    ∙ ap (λ some. significant names (take some (token ∷ tokens)) ∷ behind_cut (significant names) (drop some (token ∷ tokens))) (sym whole)

-- the parts at whichever token it is
significant-either : (names : List (List ℕ)) (depth : ℕ) (token : Token) (tokens : List Token) (extends cut : Bool) → is_extension (tok_of names token) ≡ extends → cuts depth token.kind ≡ cut
    → IsCut (significant names) depth tokens → IsCut (significant names) (depth_behind depth token.kind) tokens → IsCut (significant names) depth (token ∷ tokens)
significant-either names depth token tokens true cut is _ same behind = significant-extension names depth token tokens is same
significant-either names depth token tokens false true is cut same behind = significant-here names depth token tokens is cut
significant-either names depth token tokens false false is uncut same behind = significant-later names depth token tokens is uncut behind

pub significant-is_cut : (names : List (List ℕ)) (depth : ℕ) (tokens : List Token) → IsCut (significant names) depth tokens
significant-is_cut names depth [] = refl
significant-is_cut names depth (token ∷ tokens) =
    significant-either names depth token tokens (is_extension (tok_of names token)) (cuts depth token.kind) refl refl
    (significant-is_cut names depth tokens) (significant-is_cut names (depth_behind depth token.kind) tokens)

-- the parts of a list that is cut so far from its front
pub first-cut : (seen : List Token → List Tok) (tokens piece behind : List Token) (count : ℕ) → IsCut seen 0 tokens → count ≡ length_to_comma 0 tokens → piece ≡ take count tokens → behind ≡ drop count tokens → pieces_at 0 (seen tokens) ≡ seen piece ∷ behind_cut seen behind
first-cut seen tokens piece behind count cut same front back =
    cut ∙ ap (λ some. seen (take some tokens) ∷ behind_cut seen (drop some tokens)) (sym same)
    ∙ ap (λ taken. seen taken ∷ behind_cut seen (drop count tokens)) (sym front)
    ∙ ap (λ left. seen piece ∷ behind_cut seen left) (sym back)
