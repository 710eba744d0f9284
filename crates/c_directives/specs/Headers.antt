-- How headers are seen by the definitions of `meaning_preprocessing`.
use Rattle.std.specs.Prelude.{ℕ, ◌+◌, ◌==◌, List, [], ◌∷◌, map, if◌then◌else◌}
use Rattle.std.specs.Global.{Vec}
use Rattle.meaning_text.specs.Bytes.{slash}
use Rattle.meaning_preprocessing.specs.Search as headers
use Rattle.c_tokens.specs.Seen.{IsKnown, text_of}
use Rattle.c_directives.specs.declared.header.Header.{Header}
use Rattle.c_directives.specs.declared.header.Header.TheVariants.{InQuotes, InAngles}

abbrev pub header_seen : List (List ℕ) → Header → headers.Header
header_seen names (InQuotes name) = headers.InQuotes (text_of names name)
header_seen names (InAngles name) = headers.InAngles (text_of names name)

-- its name is one of the table
abbrev pub IsKnownHeader : List (List ℕ) → Header → Type 0
IsKnownHeader names (InQuotes name) = IsKnown names name
IsKnownHeader names (InAngles name) = IsKnown names name

-- how far a directory goes: behind so many bytes, where it went so far
abbrev pub end_from : (count end : ℕ) → List ℕ → ℕ
end_from count end [] = end
end_from count end (b ∷ path) = if b == slash then end_from (count + 1) (count + 1) path else end_from (count + 1) end path

-- the name of a header
abbrev pub name_seen : List (List ℕ) → Header → List ℕ
name_seen names header = headers.name_of_header (header_seen names header)

abbrev pub bytes_of : Vec ℕ → List ℕ
bytes_of path = path.items

-- the paths of a name in directories
abbrev pub paths_in : List ℕ → List (List ℕ) → List (List ℕ)
paths_in name directories = map (λ directory. headers.path_in directory name) directories
