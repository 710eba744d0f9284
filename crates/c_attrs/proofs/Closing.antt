-- The tokens up to a parenthesis that closes, by ids and by their spellings.
use Rattle.std.proofs.Common.{◌≡◌, ℕ, Bool, true, false, List, [], ◌∷◌, take, refl, ap}
use Rattle.meaning_attributes.specs.Pieces.{closes, depth_behind, up_to_closing}
use Rattle.c_tokens.specs.declared.token.Token.{Token}
use Rattle.c_tokens.specs.Seen.{tok_of, toks_of}
use Rattle.c_attrs.specs.Closing.{length_to_closing}

-- so many tokens are those up to it
abbrev AreUpTo : List (List ℕ) → (depth : ℕ) → List Token → Type 0
AreUpTo names depth tokens = toks_of names (take (length_to_closing depth tokens) tokens) ≡ up_to_closing depth (toks_of names tokens)

up_to_either : (names : List (List ℕ)) (depth : ℕ) (token : Token) (tokens : List Token) (found : Bool) → closes depth token.kind ≡ found
    → AreUpTo names (depth_behind depth token.kind) tokens → AreUpTo names depth (token ∷ tokens)
up_to_either names depth token tokens true is behind = rw is refl
up_to_either names depth token tokens false is behind = rw is (ap (λ toks. tok_of names token ∷ toks) behind)

pub up_to_closing-seen : (names : List (List ℕ)) (depth : ℕ) (tokens : List Token) → AreUpTo names depth tokens
up_to_closing-seen names depth [] = refl
up_to_closing-seen names depth (token ∷ tokens) =
    up_to_either names depth token tokens (closes depth token.kind) refl (up_to_closing-seen names (depth_behind depth token.kind) tokens)
