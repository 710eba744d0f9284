-- Tokens that mean something, one at a time.
use Rattle.std.specs.Prelude.{ℕ, Bool, true, false, List, [], ◌∷◌, ◌++◌, Option, Some, None}
use Rattle.std.specs.Borrow.{Bor}
use Rattle.meaning_text.specs.Tokens.{Tok}
use Rattle.c_tokens.specs.declared.token.Token.{Token}
use Rattle.c_tokens.specs.Seen.{tok_of}
use Rattle.c_attrs.specs.Seen.{significant}

-- what a first token and those behind it make up
abbrev pub first_and_rest : List (List ℕ) → Option (Token × Bor (List Token)) → List Tok
first_and_rest names None = []
first_and_rest names (Some (token, behind)) = tok_of names token ∷ significant names behind.now

-- what a last token and those before it make up
abbrev pub last_and_rest : List (List ℕ) → Option (Token × Bor (List Token)) → List Tok
last_and_rest names None = []
last_and_rest names (Some (token, before)) = significant names before.now ++ tok_of names token ∷ []

-- the one token, if there is just one
abbrev pub only_token : List Tok → Option Tok
only_token (token ∷ []) = Some token
only_token tokens = None

abbrev pub has_no_tokens : List Tok → Bool
has_no_tokens [] = true
has_no_tokens (token ∷ tokens) = false
