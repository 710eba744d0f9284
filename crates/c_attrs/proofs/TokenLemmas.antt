-- The tokens that mean something, from either end.
use Rattle.std.proofs.Common.{◌≡◌, ℕ, true, false, List, [], ◌∷◌, ◌++◌, refl, ◌∙◌}
use Rattle.meaning_attributes.specs.Tokens.{is_extension}
use Rattle.c_tokens.specs.declared.token.Token.{Token}
use Rattle.c_tokens.specs.Seen.{tok_of}
use Rattle.c_attrs.specs.Seen.{significant}

pub significant-keeps : (names : List (List ℕ)) (token : Token) (tokens : List Token) → is_extension (tok_of names token) ≡ false → significant names (token ∷ tokens) ≡ tok_of names token ∷ significant names tokens
significant-keeps names token tokens means = rw means refl

pub significant-drops : (names : List (List ℕ)) (token : Token) (tokens : List Token) → is_extension (tok_of names token) ≡ true → significant names (token ∷ tokens) ≡ significant names tokens
significant-drops names token tokens extends = rw extends refl
