-- Tokens in turn.
use Rattle.std.specs.Prelude.{List, [], ◌∷◌, Option, Some, None}
use Rattle.c_tokens.specs.declared.token.Token.{Token}

abbrev pub front_token : List Token → Option Token
front_token [] = None
front_token (token ∷ tokens) = Some token

abbrev pub behind_first : List Token → List Token
behind_first [] = []
behind_first (token ∷ tokens) = tokens
