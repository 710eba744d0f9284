-- How open groups, and what a conditional does to them, are seen by the definitions of `meaning_preprocessing`.
use Rattle.std.specs.Prelude.{◌≡◌, ℕ, Bool, List, [], ◌∷◌, map, reverse, Option, Some, None, Result, Ok, Err, ⊤}
use Rattle.vocabulary.specs.declared.error_kind.ErrorKind.TheVariants.{UnterminatedConditional}
use Rattle.meaning_text.specs.Tokens.{Tok}
use Rattle.meaning_macros.specs.Macros.{Definition}
use Rattle.meaning_preprocessing.specs.Groups as groups
use Rattle.meaning_preprocessing.specs.Groups.{Evaluation, Turn, Turns, Halts, with_condition}
use Rattle.meaning_preprocessing.specs.State.{UnitState, Piece, Continues, IsOver, only_ending, refused}
use Rattle.sparse_model.specs.declared.ids.NameId.{NameId}
use Rattle.sparse_model.specs.declared.place.Place.{Place}
use Rattle.c_tokens.specs.Seen.{at_of, text_of}
use Rattle.c_macros.specs.Table.{Table}
use Rattle.c_directives.specs.Conditions.{HasMacros}
use Rattle.c_directives.specs.declared.fault.LineFault.{LineFault}
use Rattle.c_directives.specs.declared.fault.LineFault.TheVariants.{Refused, Memory}
use Rattle.c_directives.specs.declared.groups.Group.{Group}
use Rattle.c_directives.specs.declared.groups.NextPart.{NextPart}
use Rattle.c_directives.specs.declared.groups.NextPart.TheVariants.{Asked, Skipped}

abbrev pub group_seen : Group → groups.Group
group_seen group =
    record { place = at_of group.place; outer = group.outer; taken = group.taken; reads = group.reads; last = group.last }

-- the innermost group stands last in the code
abbrev pub groups_seen : List Group → List groups.Group
groups_seen open_groups = map group_seen (reverse open_groups)

-- the word that an error's text names, which is empty where it names none
abbrev pub word_seen : List (List ℕ) → Option NameId → List ℕ
word_seen names None = []
word_seen names (Some word) = text_of names word

-- the result tells what the conditional does, or that memory is wanting
abbrev pub IsTurned : List (List ℕ) → UnitState → Tok → List Group → Result Unit LineFault → Turn → Type 0
IsTurned names s hash open_groups (Ok done) turn = turn ≡ Turns (groups_seen open_groups) s
IsTurned names s hash open_groups (Err (Refused kind word)) turn = turn ≡ Halts (refused s kind hash.at (word_seen names word))
IsTurned names s hash open_groups (Err Memory) turn = ⊤

-- the innermost group, whose next part is read or not
abbrev pub with_part : Bool → List groups.Group → List groups.Group
with_part holds [] = []
with_part holds (group ∷ others) = record group { taken = holds; reads = holds } ∷ others

-- the same of an `#elif`, which may wait for its condition
abbrev pub IsElifBegun : List (List ℕ) → Evaluation → Tok → List Tok → UnitState → List Group → Result NextPart LineFault → Turn → Type 0
IsElifBegun names value hash line s open_groups (Ok Asked) turn =
    turn ≡ with_condition value hash line s (λ holds u. Turns (with_part holds (groups_seen open_groups)) u)
IsElifBegun names value hash line s open_groups (Ok Skipped) turn = turn ≡ Turns (groups_seen open_groups) s
IsElifBegun names value hash line s open_groups (Err (Refused kind word)) turn = turn ≡ Halts (refused s kind hash.at (word_seen names word))
IsElifBegun names value hash line s open_groups (Err Memory) turn = ⊤

-- the end of a file, where the outermost open group began here
abbrev pub closed_by : UnitState → Option Place → Piece
closed_by s None = only_ending (Continues s)
closed_by s (Some place) = only_ending (IsOver (refused s UnterminatedConditional (at_of place) []))

-- The result tells what a line does to the macros, or that memory is wanting.
abbrev pub IsKept : List (List ℕ) → UnitState → Tok → List groups.Group → Table → Result Unit LineFault → Turn → Type 0
IsKept names s hash open_groups table (Ok done) turn =
    (definitions : List Definition) × (turn ≡ Turns open_groups (record s { definitions = definitions })) × HasMacros names definitions table
IsKept names s hash open_groups table (Err (Refused kind word)) turn = turn ≡ Halts (refused s kind hash.at (word_seen names word))
IsKept names s hash open_groups table (Err Memory) turn = ⊤
