-- Tokens, as they are seen.
use Rattle.std.proofs.Common.{◌≡◌, ℕ, List, length}
use Rattle.std.proofs.lemmas.List.{length-map}
use Rattle.c_tokens.specs.Seen.{tok_of, toks_of}
use Rattle.c_tokens.specs.declared.token.Token.{Token}

pub length-toks_of : (names : List (List ℕ)) (tokens : List Token) → length (toks_of names tokens) ≡ length tokens
length-toks_of names tokens = length-map tokens (tok_of names)
