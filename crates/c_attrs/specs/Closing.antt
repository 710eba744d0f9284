-- Where the parenthesis stands that closes what was opened before these tokens.
use Rattle.std.specs.Prelude.{ℕ, suc, List, [], ◌∷◌, if◌then◌else◌}
use Rattle.meaning_attributes.specs.Pieces.{closes, depth_behind}
use Rattle.c_tokens.specs.declared.token.Token.{Token}

-- how many tokens stand before it, where so many parentheses are open before them
abbrev pub length_to_closing : (depth : ℕ) → List Token → ℕ
length_to_closing depth [] = 0
length_to_closing depth (token ∷ tokens) =
    if closes depth token.kind then 0 else suc (length_to_closing (depth_behind depth token.kind) tokens)
