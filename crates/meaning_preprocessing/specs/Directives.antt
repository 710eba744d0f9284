-- What each directive does (C11 6.10).
use Rattle.std.specs.Prelude.{ℕ, true, false, List, [], ◌∷◌, ◌++◌, Option, Some, None, Result, Ok, Err}
use Rattle.vocabulary.specs.declared.error_kind.ErrorKind.{ErrorKind}
use Rattle.vocabulary.specs.declared.error_kind.ErrorKind.TheVariants.{MalformedDirective, UnknownDirective, ErrorDirective}
use Rattle.meaning_text.specs.Bytes.{space}
use Rattle.meaning_text.specs.Tokens.{Tok}
use Rattle.meaning_macros.specs.Signs.{is_identifier_kind}
use Rattle.meaning_macros.specs.Macros.{Definition}
use Rattle.meaning_preprocessing.specs.Lines.{DirectiveName, IfLine, IfdefLine, IfndefLine, ElifLine, ElseLine, EndifLine, IncludeLine, DefineLine, UndefLine, ErrorLine, UnreadLine, UnknownLine, directive_of, behind_word}
use Rattle.meaning_preprocessing.specs.DefinitionLines.{definition_behind, with_definition, without_definition}
use Rattle.meaning_preprocessing.specs.State.{UnitState, refused, path_of}
use Rattle.meaning_preprocessing.specs.Search.{Header, header_spelled, is_header_kind, header_of}
use Rattle.meaning_preprocessing.specs.Groups.{Group, are_read, skipped_group, Turn, Turns, Includes, Halts, with_expanded, Evaluation, if_turn, ifdef_turn, elif_turn, else_turn, endif_turn}

-- Definitions

-- the table with one definition more, or why it isn't; another definition of a name is told with that name
abbrev pub table_turn : Tok → Definition → Result (List Definition) ErrorKind → List Group → UnitState → Turn
table_turn hash definition (Ok definitions) groups s = Turns groups (record s { definitions = definitions })
table_turn hash definition (Err kind) groups s = Halts (refused s kind hash.at definition.name)

abbrev pub definition_turn : Tok → Result Definition ErrorKind → List Group → UnitState → Turn
definition_turn hash (Err kind) groups s = Halts (refused s kind hash.at [])
definition_turn hash (Ok definition) groups s = table_turn hash definition (with_definition definition s.definitions) groups s

-- `#define` (6.10.3)
abbrev pub define_turn : Tok → List Tok → List Group → UnitState → Turn
define_turn hash rest groups s = definition_turn hash (definition_behind rest) groups s

-- `#undef` (6.10.3.5)
abbrev pub undef_turn : Tok → List Tok → List Group → UnitState → Turn
undef_turn hash [] groups s = Halts (refused s MalformedDirective hash.at [])
undef_turn hash (t ∷ u ∷ rest) groups s = Halts (refused s MalformedDirective hash.at [])
undef_turn hash (t ∷ []) groups s = elim (is_identifier_kind t.kind) [
  | true ↦ Turns groups (record s { definitions = without_definition t.text s.definitions })
  | false ↦ Halts (refused s MalformedDirective hash.at [])
]

-- Includes

-- the file that has the directive asks
abbrev pub asked : Tok → Tok → Header → UnitState → Turn
asked hash first header s = Includes (record { header = header; asking = path_of s.paths hash.at.file; place = first.at }) s

abbrev pub asked_if : Tok → Tok → Option Header → UnitState → Turn
asked_if hash first None s = Halts (refused s MalformedDirective hash.at [])
asked_if hash first (Some header) s = asked hash first header s

-- `#include` (6.10.2): a header name, with nothing behind it, or what other tokens become
abbrev pub include_turn : Tok → List Tok → UnitState → Turn
include_turn hash [] s = Halts (refused s MalformedDirective hash.at [])
include_turn hash (t ∷ []) s = elim (is_header_kind t.kind) [
  | true ↦ asked hash t (header_spelled t.text) s
  | false ↦ with_expanded s (t ∷ []) (λ tokens u. asked_if hash t (header_of tokens) u)
]
include_turn hash (t ∷ u ∷ rest) s = elim (is_header_kind t.kind) [
  | true ↦ Halts (refused s MalformedDirective hash.at [])
  | false ↦ with_expanded s (t ∷ u ∷ rest) (λ tokens v. asked_if hash t (header_of tokens) v)
]

-- Each directive

-- the tokens of an `#error`, each behind a space (6.10.5)
abbrev pub error_words : List Tok → List ℕ
error_words [] = []
error_words (t ∷ ts) = space ∷ (t.text ++ error_words ts)

-- a directive with this name and these tokens behind its word, where lines are read
abbrev pub read_turn : Evaluation → DirectiveName → Tok → List Tok → List Group → UnitState → Turn
read_turn value IfLine hash rest groups s = if_turn value hash rest groups s
read_turn value IfdefLine hash rest groups s = ifdef_turn true hash rest groups s
read_turn value IfndefLine hash rest groups s = ifdef_turn false hash rest groups s
read_turn value ElifLine hash rest groups s = elif_turn value hash rest groups s
read_turn value ElseLine hash rest groups s = else_turn hash rest groups s
read_turn value EndifLine hash rest groups s = endif_turn hash rest groups s
read_turn value IncludeLine hash rest groups s = include_turn hash rest s
read_turn value DefineLine hash rest groups s = define_turn hash rest groups s
read_turn value UndefLine hash rest groups s = undef_turn hash rest groups s
read_turn value ErrorLine hash rest groups s = Halts (refused s ErrorDirective hash.at (error_words rest))
read_turn value UnreadLine hash rest groups s = Turns groups s
read_turn value UnknownLine hash rest groups s = Halts (refused s UnknownDirective hash.at [])

-- The same where lines are skipped: conditionals alone are looked at, to keep track of what is open (6.10.1 p6).
abbrev pub skipped_turn : Evaluation → DirectiveName → Tok → List Tok → List Group → UnitState → Turn
skipped_turn value IfLine hash rest groups s = Turns (skipped_group hash ∷ groups) s
skipped_turn value IfdefLine hash rest groups s = Turns (skipped_group hash ∷ groups) s
skipped_turn value IfndefLine hash rest groups s = Turns (skipped_group hash ∷ groups) s
skipped_turn value ElifLine hash rest groups s = elif_turn value hash rest groups s
skipped_turn value ElseLine hash rest groups s = else_turn hash rest groups s
skipped_turn value EndifLine hash rest groups s = endif_turn hash rest groups s
skipped_turn value name hash rest groups s = Turns groups s

-- a directive by its `#` and the tokens behind that
abbrev pub turn_of : Evaluation → Tok → List Tok → List Group → UnitState → Turn
turn_of value hash rest groups s = elim (are_read groups) [
  | true ↦ read_turn value (directive_of rest) hash (behind_word rest) groups s
  | false ↦ skipped_turn value (directive_of rest) hash (behind_word rest) groups s
]
