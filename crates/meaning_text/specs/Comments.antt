-- Comments, by their whole text (C11 6.4.9).
use Rattle.std.specs.Prelude.{ℕ, Bool, true, false, not, ◌==◌, ◌&&◌, ◌||◌, List, [], ◌∷◌, drop, if◌then◌else◌}
use Rattle.std.specs.List.{list_all}
use Rattle.meaning_text.specs.Bytes.{new_line, star, slash}
use Rattle.meaning_text.specs.Quoted.{is_empty}

-- the text begins with a slash and this byte
abbrev pub begins_slash_and : ℕ → List ℕ → Bool
begins_slash_and second [] = false
begins_slash_and second (b ∷ []) = false
begins_slash_and second (b ∷ c ∷ text) = b == slash && c == second

-- the openings `/*` and `//`
abbrev pub begins_block_comment : List ℕ → Bool
begins_block_comment text = begins_slash_and star text

-- the text begins with `//`
abbrev pub begins_line_comment : List ℕ → Bool
begins_line_comment text = begins_slash_and slash text

-- the text begins with `/*` or `//`
abbrev pub begins_comment : List ℕ → Bool
begins_comment text = begins_block_comment text || begins_line_comment text

-- the first star that has a slash behind it ends the text with that slash
abbrev pub ends_block : (behind_star : Bool) → List ℕ → Bool
ends_block behind_star [] = false
ends_block behind_star (b ∷ text) =
    if b == slash && behind_star then is_empty text else ends_block (b == star) text

-- a comment from `/*` to the first `*/` behind that
abbrev pub is_block_comment : List ℕ → Bool
is_block_comment text = begins_block_comment text && ends_block false (drop 2 text)

-- a comment that begins with `//`; the new-line behind it is no part of it (p2)
abbrev pub is_line_comment : List ℕ → Bool
is_line_comment text = begins_line_comment text && list_all (λ b. not (b == new_line)) text

-- a line ends here
abbrev pub is_line_end : List ℕ → Bool
is_line_end [] = true
is_line_end (b ∷ text) = b == new_line
