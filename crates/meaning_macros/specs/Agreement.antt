-- When a second definition of a name is no other one (C11 6.10.3 p1, p2).
use Rattle.std.specs.Prelude.{ℕ, Bool, true, false, not, ◌&&◌, List, [], ◌∷◌, Option, Some, None}
use Rattle.std.specs.Str.{bytes_eq}
use Rattle.meaning_text.specs.Tokens.{Tok}
use Rattle.meaning_macros.specs.Macros.{Macro, inner_body}

-- both hold or neither does
abbrev pub both_or_neither : Bool → Bool → Bool
both_or_neither true b = b
both_or_neither false b = not b

-- the same spellings in the same order
abbrev pub same_names : List (List ℕ) → List (List ℕ) → Bool
same_names [] [] = true
same_names [] (b ∷ others) = false
same_names (a ∷ names) [] = false
same_names (a ∷ names) (b ∷ others) = bytes_eq a b && same_names names others

-- the same parameters, or both object-like
abbrev pub same_parameters : Option (List (List ℕ)) → Option (List (List ℕ)) → Bool
same_parameters None None = true
same_parameters None (Some others) = false
same_parameters (Some names) None = false
same_parameters (Some names) (Some others) = same_names names others

-- The same spelling, behind white space both or neither: how much and of which kind doesn't matter. `[` and `<:` are
-- spelled differently.
abbrev pub same_token : Tok → Tok → Bool
same_token a b = bytes_eq a.text b.text && both_or_neither a.space_before b.space_before

-- the same tokens in the same order
abbrev pub same_tokens : List Tok → List Tok → Bool
same_tokens [] [] = true
same_tokens [] (b ∷ others) = false
same_tokens (a ∷ tokens) [] = false
same_tokens (a ∷ tokens) (b ∷ others) = same_token a b && same_tokens tokens others

-- two definitions of one name agree
abbrev pub agree : Macro → Macro → Bool
agree m n = same_parameters m.parameters n.parameters && both_or_neither m.variadic n.variadic && same_tokens (inner_body m) (inner_body n)
