-- Conditional groups (C11 6.10.1), and what a directive does to those that are open in its file.
use Rattle.std.specs.Prelude.{Bool, true, false, not, ◌&&◌, ◌==◌, List, [], ◌∷◌, Option, Some, None}
use Rattle.vocabulary.specs.declared.error_kind.ErrorKind.TheVariants.{UnterminatedConditional, ConditionalWithoutIf, ConditionalAfterElse, MalformedDirective, BadIfExpression, DivisionByZeroInIf}
use Rattle.meaning_text.specs.Places.{At}
use Rattle.meaning_text.specs.Tokens.{Tok}
use Rattle.meaning_macros.specs.Signs.{is_identifier_kind}
use Rattle.meaning_conditions.specs.Answers.{Answer, HasValue, HasBadIndex, HasZeroDivisor}
use Rattle.meaning_preprocessing.specs.State.{UnitState, Stop, PieceEnd, Continues, IsOver, Piece, only_ending, refused, expanded_in}
use Rattle.meaning_preprocessing.specs.ConditionLines.{is_defined, Nothing, answered, with_undefined}
use Rattle.meaning_preprocessing.specs.Search.{HeaderRequest}

-- from an `#if`, `#ifdef` or `#ifndef` to its `#endif`
pub record Group : Type 0 where
  -- where the `#` stands that began it
  pub place : At
  -- what stands around it is read
  pub outer : Bool
  -- one of its parts was read, or is
  pub taken : Bool
  -- the part that is open is read
  pub reads : Bool
  -- the part that is open is that behind `#else`
  pub last : Bool

-- lines are read where the innermost group reads
abbrev pub are_read : List Group → Bool
are_read [] = true
are_read (group ∷ groups) = group.reads

-- the group that a condition begins
abbrev pub group_of : Tok → Bool → Group
group_of hash holds = record { place = hash.at; outer = true; taken = holds; reads = holds; last = false }

-- a group within one that is skipped
abbrev pub skipped_group : Tok → Group
skipped_group hash = record { place = hash.at; outer = false; taken = false; reads = false; last = false }

-- what a directive does
pub data Turn : Type 0 where
  -- the file goes on within these groups
  Turns : List Group → UnitState → Turn
  -- another file is read first
  Includes : HeaderRequest → UnitState → Turn
  Halts : Stop → Turn

abbrev pub turn_of_ending : List Tok → PieceEnd → (List Tok → UnitState → Turn) → Turn
turn_of_ending tokens (Continues s) next = next tokens s
turn_of_ending tokens (IsOver stop) next = Halts stop

-- with the macros replaced in the tokens of a directive, which are none of the unit's
abbrev pub with_expanded : UnitState → List Tok → (List Tok → UnitState → Turn) → Turn
with_expanded s tokens next = let all = expanded_in s tokens in turn_of_ending all.tokens all.ending next

-- Conditions

-- what an `#if` comes to by its tokens
abbrev pub Evaluation : Type 0
Evaluation = List Tok → Answer

-- a condition holds where its value isn't 0 (p3)
abbrev pub by_answer : Tok → Answer → UnitState → (Bool → UnitState → Turn) → Turn
by_answer hash (HasValue number) s next = next (not (number.bits == 0)) s
by_answer hash (HasBadIndex index) s next = Halts (refused s BadIfExpression hash.at [])
by_answer hash (HasZeroDivisor index) s next = Halts (refused s DivisionByZeroInIf hash.at [])

-- `defined` is answered, then macros are replaced, then identifiers that are left are kept, and then there is a value (p4)
abbrev pub evaluated_line : Evaluation → Tok → Option (List Tok) → UnitState → (Bool → UnitState → Turn) → Turn
evaluated_line value hash None s next = Halts (refused s BadIfExpression hash.at [])
evaluated_line value hash (Some tokens) s next =
    with_expanded s tokens (λ left u. by_answer hash (value left) (with_undefined left u) next)

-- goes on with what the tokens behind `#if` or `#elif` come to
abbrev pub with_condition : Evaluation → Tok → List Tok → UnitState → (Bool → UnitState → Turn) → Turn
with_condition value hash rest s next = evaluated_line value hash (answered s.definitions Nothing rest) s next

-- The six conditionals, by their `#` and the tokens behind their word

abbrev pub if_turn : Evaluation → Tok → List Tok → List Group → UnitState → Turn
if_turn value hash rest groups s = with_condition value hash rest s (λ holds u. Turns (group_of hash holds ∷ groups) u)

abbrev pub same_truth : Bool → Bool → Bool
same_truth true b = b
same_truth false b = not b

-- `#ifdef`, where a macro of that name is wanted, and `#ifndef` (p5)
abbrev pub ifdef_turn : (wanted : Bool) → Tok → List Tok → List Group → UnitState → Turn
ifdef_turn wanted hash [] groups s = Halts (refused s MalformedDirective hash.at [])
ifdef_turn wanted hash (t ∷ u ∷ rest) groups s = Halts (refused s MalformedDirective hash.at [])
ifdef_turn wanted hash (t ∷ []) groups s = elim (is_identifier_kind t.kind) [
  | true ↦ Turns (group_of hash (same_truth wanted (is_defined s.definitions t.text)) ∷ groups) s
  | false ↦ Halts (refused s MalformedDirective hash.at [])
]

-- An `#elif` is evaluated where no part was read yet, and otherwise not even looked at (p6).
abbrev pub elif_turn : Evaluation → Tok → List Tok → List Group → UnitState → Turn
elif_turn value hash rest [] s = Halts (refused s ConditionalWithoutIf hash.at [])
elif_turn value hash rest (group ∷ groups) s = elim group.last [
  | true ↦ Halts (refused s ConditionalAfterElse hash.at [])
  | false ↦ elim (group.outer && not group.taken) [
    | true ↦ with_condition value hash rest s (λ holds u. Turns (record group { taken = holds; reads = holds } ∷ groups) u)
    | false ↦ Turns (record group { reads = false } ∷ groups) s
  ]
]

abbrev pub has_tokens : List Tok → Bool
has_tokens [] = false
has_tokens (t ∷ ts) = true

-- tokens behind `#else` and `#endif` are an error, but within a group that is skipped (p6)
abbrev pub else_turn : Tok → List Tok → List Group → UnitState → Turn
else_turn hash rest [] s = Halts (refused s ConditionalWithoutIf hash.at [])
else_turn hash rest (group ∷ groups) s = elim group.last [
  | true ↦ Halts (refused s ConditionalAfterElse hash.at [])
  | false ↦ elim (group.outer && has_tokens rest) [
    | true ↦ Halts (refused s MalformedDirective hash.at [])
    | false ↦ Turns (record group { taken = true; reads = group.outer && not group.taken; last = true } ∷ groups) s
  ]
]

abbrev pub endif_turn : Tok → List Tok → List Group → UnitState → Turn
endif_turn hash rest [] s = Halts (refused s ConditionalWithoutIf hash.at [])
endif_turn hash rest (group ∷ groups) s = elim (group.outer && has_tokens rest) [
  | true ↦ Halts (refused s MalformedDirective hash.at [])
  | false ↦ Turns groups s
]

-- The end of a file

-- the place of the outermost group
abbrev pub outermost : Group → List Group → At
outermost group [] = group.place
outermost group (other ∷ groups) = outermost other groups

-- a group that a file began ends in it
abbrev pub closed_file : List Group → UnitState → Piece
closed_file [] s = only_ending (Continues s)
closed_file (group ∷ groups) s = only_ending (IsOver (refused s UnterminatedConditional (outermost group groups) []))
