-- Words by their first letter, so that few rows are compared with a spelling.
use Rattle.std.specs.Prelude.{ℕ, ◌==◌, Bool, true, false, nat_le, List, [], ◌∷◌, Option, Some, None, if◌then◌else◌}
use Rattle.std.specs.List.{filter}
use Rattle.std.specs.Str.{bytes_eq}
use Rattle.meaning_grammar.specs.Words.{Reading, WordRow, words}
use Rattle.c_terminals.specs.declared.spellings.Group.{Group}
use Rattle.c_terminals.specs.declared.spellings.Group.TheVariants.{Underscored, UpToD, UpToR, BehindR}

abbrev pub is_same_group : Group → Group → Bool
is_same_group Underscored Underscored = true
is_same_group UpToD UpToD = true
is_same_group UpToR UpToR = true
is_same_group BehindR BehindR = true
is_same_group group other = false

abbrev pub group_of : List ℕ → Group
group_of [] = BehindR
group_of (byte ∷ bytes) =
    if byte == 95 then Underscored
    else (if nat_le byte 100 then UpToD
    else (if nat_le byte 114 then UpToR
    else BehindR))

-- the rows of a group
abbrev pub words_in : Group → List WordRow
words_in group = filter (λ row. is_same_group group (group_of row.spelling)) words

-- the reading of the first of these rows that is spelled so
abbrev pub found_in : List WordRow → List ℕ → Option Reading
found_in [] text = None
found_in (row ∷ rows) text = if bytes_eq row.spelling text then Some row.reading else found_in rows text
