-- Header names, and where a file is looked for (C11 6.10.2).
use Rattle.std.specs.Prelude.{ℕ, ◌-◌, Bool, true, false, not, ◌==◌, List, [], ◌∷◌, ◌++◌, length, take, drop, map, Option, Some, None, option_map, if◌then◌else◌}
use Rattle.std.specs.List.{list_any}
use Rattle.vocabulary.specs.declared.token_kind.TokenKind.{TokenKind}
use Rattle.vocabulary.specs.declared.token_kind.TokenKind.TheVariants.{String, HeaderName, Less, Greater}
use Rattle.meaning_text.specs.Bytes.{slash, less, double_quote}
use Rattle.meaning_text.specs.Places.{At}
use Rattle.meaning_text.specs.Tokens.{Tok}

-- Headers

-- a header as the directive gives it
pub data Header : Type 0 where
  -- `"X"`
  InQuotes : List ℕ → Header
  -- `<X>`
  InAngles : List ℕ → Header

abbrev pub name_of_header : Header → List ℕ
name_of_header (InQuotes name) = name
name_of_header (InAngles name) = name

abbrev pub begins_with_byte : ℕ → List ℕ → Bool
begins_with_byte byte [] = false
begins_with_byte byte (b ∷ text) = b == byte

-- without its first and its last byte; an escape stays as it is spelled
abbrev pub between_ends : List ℕ → List ℕ
between_ends text = take (length text - 2) (drop 1 text)

-- a header name (6.4.7)
abbrev pub header_spelled : List ℕ → Header
header_spelled text = if begins_with_byte less text then InAngles (between_ends text) else InQuotes (between_ends text)

abbrev pub is_header_kind : TokenKind → Bool
is_header_kind HeaderName = true
is_header_kind kind = false

abbrev pub is_string_kind : TokenKind → Bool
is_string_kind String = true
is_string_kind kind = false

abbrev pub is_less_kind : TokenKind → Bool
is_less_kind Less = true
is_less_kind kind = false

abbrev pub is_greater_kind : TokenKind → Bool
is_greater_kind Greater = true
is_greater_kind kind = false

-- the spellings up to the first `>`, joined without white space, where that is the last token
abbrev pub name_to_greater : List Tok → Option (List ℕ)
name_to_greater [] = None
name_to_greater (t ∷ []) = if is_greater_kind t.kind then Some [] else None
name_to_greater (t ∷ u ∷ ts) = elim (is_greater_kind t.kind) [
  | true ↦ None
  | false ↦ option_map (λ name. t.text ++ name) (name_to_greater (u ∷ ts))
]

-- a string literal without a prefix
abbrev pub string_header : Tok → Option Header
string_header t =
    elim (is_string_kind t.kind) [
      | true ↦ if begins_with_byte double_quote t.text then Some (InQuotes (between_ends t.text)) else None
      | false ↦ None
    ]

-- The header that tokens are behind the replacements (p4, where the way is our choice): one string literal without a prefix,
-- or `<` to `>`.
abbrev pub header_of : List Tok → Option Header
header_of [] = None
header_of (t ∷ []) = string_header t
header_of (t ∷ u ∷ ts) = elim (is_less_kind t.kind) [
  | true ↦ option_map InAngles (name_to_greater (u ∷ ts))
  | false ↦ None
]

-- the header that an `#include` asks for, the path of the file that asks, and where the header stands
pub record HeaderRequest : Type 0 where
  pub header : Header
  pub asking : List ℕ
  pub place : At

-- Places

-- a path through its last `/`
abbrev pub directory_of : List ℕ → List ℕ
directory_of [] = []
directory_of (b ∷ path) = elim (list_any (λ c. c == slash) (b ∷ path)) [
  | true ↦ b ∷ directory_of path
  | false ↦ []
]

-- a directory wants a `/` before a name, unless it is empty or ends in one
abbrev pub wants_slash : List ℕ → Bool
wants_slash [] = false
wants_slash (b ∷ []) = not (b == slash)
wants_slash (b ∷ c ∷ path) = wants_slash (c ∷ path)

-- a name in a directory
abbrev pub path_in : List ℕ → List ℕ → List ℕ
path_in directory name = directory ++ (if wants_slash directory then slash ∷ [] else []) ++ name

-- in this order: what stands in quotes is looked for beside the file that asks (p2, p3)
abbrev pub directories_for : Header → (asking : List ℕ) → List (List ℕ) → List (List ℕ)
directories_for (InQuotes name) asking directories = directory_of asking ∷ directories
directories_for (InAngles name) asking directories = directories

-- the paths that are looked for, in order; one that begins with `/` is taken alone
abbrev pub paths_for : Header → (asking : List ℕ) → List (List ℕ) → List (List ℕ)
paths_for header asking directories = elim (begins_with_byte slash (name_of_header header)) [
  | true ↦ name_of_header header ∷ []
  | false ↦ map (λ directory. path_in directory (name_of_header header)) (directories_for header asking directories)
]

-- the bytes of the file with a path, where there is one
abbrev pub Files : Type 0
Files = List ℕ → Option (List ℕ)

-- a file that is there
pub record FoundFile : Type 0 where
  pub path : List ℕ
  pub bytes : List ℕ

abbrev pub found_or : List ℕ → Option (List ℕ) → Option FoundFile → Option FoundFile
found_or path (Some bytes) others = Some (record { path = path; bytes = bytes })
found_or path None others = others

-- the first of these paths at which there is a file
abbrev pub first_found : Files → List (List ℕ) → Option FoundFile
first_found files [] = None
first_found files (path ∷ paths) = found_or path (files path) (first_found files paths)
