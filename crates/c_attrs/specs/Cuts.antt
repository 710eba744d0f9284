-- Where tokens are cut at a comma.
use Rattle.std.specs.Prelude.{ℕ, suc, List, [], ◌∷◌, length, Option, Some, None, if◌then◌else◌}
use Rattle.std.specs.Borrow.{Bor}
use Rattle.meaning_text.specs.Tokens.{Tok}
use Rattle.meaning_attributes.specs.Pieces.{comma_pieces, cuts, depth_behind}
use Rattle.c_tokens.specs.declared.token.Token.{Token}
use Rattle.c_tokens.specs.Seen.{toks_of}
use Rattle.c_attrs.specs.Seen.{significant}

-- how many tokens stand before the first comma that cuts, where so many parentheses are open before them
abbrev pub length_to_comma : ℕ → List Token → ℕ
length_to_comma depth [] = 0
length_to_comma depth (token ∷ tokens) =
    if cuts depth token.kind then 0 else suc (length_to_comma (depth_behind depth token.kind) tokens)

-- the pieces of what is left of a list, which is nothing behind the last one
abbrev pub pieces_in : List (List ℕ) → Option (Bor (List Token)) → List (List Tok)
pieces_in names None = []
pieces_in names (Some left) = comma_pieces (toks_of names left.now)

-- those of the tokens that mean something
abbrev pub significant_pieces_in : List (List ℕ) → Option (Bor (List Token)) → List (List Tok)
significant_pieces_in names None = []
significant_pieces_in names (Some left) = comma_pieces (significant names left.now)

-- how many tokens are left, with the comma before them
abbrev pub size_left : Option (Bor (List Token)) → ℕ
size_left None = 0
size_left (Some left) = suc (length left.now)
