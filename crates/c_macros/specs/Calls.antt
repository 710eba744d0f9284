-- A call behind the `(`, in items.
use Rattle.std.specs.Prelude.{◌≡◌, ◌+◌, ◌-◌, ◌&&◌, ℕ, Bool, true, false, nat_eq, nat_lt, List, [], ◌∷◌, ◌++◌, length, Option, Some, None, ⊤, if◌then◌else◌}
use Rattle.meaning_macros.specs.Signs.{is_left_parenthesis, is_right_parenthesis, is_comma}
use Rattle.meaning_macros.specs.Calls.{matched, most_cuts}
use Rattle.meaning_macros.specs.Hiding.{Hiding}
use Rattle.meaning_macros.specs.Macros as macros
use Rattle.meaning_macros.specs.Macros.{parameters_of}
use Rattle.c_macros.specs.declared.definition.Macro.{Macro}
use Rattle.c_macros.specs.declared.item.Item.{Item}
use Rattle.c_macros.specs.declared.reading.CallRead.{CallRead}
use Rattle.c_macros.specs.declared.reading.CallRead.TheVariants.{Open, Wrong, Fits}
use Rattle.c_macros.specs.Arguments.{arguments_by}
use Rattle.number_sets.specs.NumberSets as sets
use Rattle.c_macros.specs.declared.run.Run.{Run}
use Rattle.c_macros.specs.Purpose.{IsCalled}
use Rattle.c_macros.specs.Reading.{HasSet, Reading, Reads, hidings_by}
use Rattle.c_macros.specs.Run.{absent_one}
use Rattle.c_macros.specs.Seen.{Spelling, macro_by}
use Rattle.c_macros.specs.Table.{Table, macro_at}
use Rattle.c_macros.specs.Waiting.{Holds, Later, Waiting, pending, floors, later_items, work_of}

-- a call behind its `(`
pub record Found : Type 0 where
  pub first : List Item
  pub more : List Later
  pub closing : Item
  pub rest : List Item

abbrev pub with_item : Item → Option Found → Option Found
with_item t None = None
with_item t (Some found) = Some (record found { first = t ∷ found.first })

abbrev pub with_comma : Item → Option Found → Option Found
with_comma t None = None
with_comma t (Some found) = Some (record found { first = []; more = record { comma = t; items = found.first } ∷ found.more })

-- the same as `split` of the definition, with the commas kept
abbrev pub split_items : (depth cuts : ℕ) → List Item → Option Found
split_items depth cuts [] = None
split_items depth cuts (t ∷ ts) = elim (is_right_parenthesis t.token.kind) as (λ _. Option Found) [
  | true ↦ elim (nat_eq depth 0) as (λ _. Option Found) [
    | true ↦ Some (record { first = []; more = []; closing = t; rest = ts })
    | false ↦ with_item t (split_items (depth - 1) cuts ts)
  ]
  | false ↦ elim (is_left_parenthesis t.token.kind) as (λ _. Option Found) [
    | true ↦ with_item t (split_items (depth + 1) cuts ts)
    | false ↦ elim (is_comma t.token.kind && nat_eq depth 0 && nat_lt 0 cuts) as (λ _. Option Found) [
      | true ↦ with_comma t (split_items depth (cuts - 1) ts)
      | false ↦ with_item t (split_items depth cuts ts)
    ]
  ]
]

-- how far its arguments are read
abbrev pub found_stops : ℕ → Found → List ℕ
found_stops below found = (below + length (pending found.more found.closing found.rest)) ∷ floors below found.more found.closing found.rest

abbrev pub is_nil : {X : Type 0} → List X → Bool
is_nil [] = true
is_nil (x ∷ xs) = false

-- the arguments that a macro is called with, one for each parameter
abbrev pub fitted : macros.Macro → List Hiding → List (List Hiding) → Bool → List (List Hiding)
fitted m first later absent = (if nat_eq (length (parameters_of m)) 0 then [] else first ∷ later) ++ absent_one absent

-- the call has the right number of arguments
pub record IsFit (m : Macro) (below now : List Item) (old new : List ℕ) (absent : Bool) (closing : Item) : Type 0 where
  pub found : Found
  pub splits : (s : Spelling) → split_items 0 (most_cuts (macro_by s m)) now ≡ Some found
  pub closes : found.closing ≡ closing
  pub stops : new ≡ old ++ found_stops (length below) found
  pub matches : (r : Reading) → matched (macro_by r.spelled m) (hidings_by r found.first ∷ arguments_by r (later_items found.more)) ≡ Some (fitted (macro_by r.spelled m) (hidings_by r found.first) (arguments_by r (later_items found.more)) absent)

-- the call has another number of arguments
pub record IsWrong (m : Macro) (now : List Item) : Type 0 where
  pub found : Found
  pub splits : (s : Spelling) → split_items 0 (most_cuts (macro_by s m)) now ≡ Some found
  pub matches : (r : Reading) → matched (macro_by r.spelled m) (hidings_by r found.first ∷ arguments_by r (later_items found.more)) ≡ None

-- what was read of a call
abbrev pub ReadsCall : Macro → (below now : List Item) → (old new : List ℕ) → CallRead → Type 0
ReadsCall m below now old new Open = (s : Spelling) → split_items 0 (most_cuts (macro_by s m)) now ≡ None
ReadsCall m below now old new Wrong = IsWrong m now
ReadsCall m below now old new (Fits absent closing) = IsFit m below now old new absent closing

-- the `)` of a call that fits hides a set of the table
abbrev pub HasClosing : sets.Table → CallRead → Type 0
HasClosing table Open = ⊤
HasClosing table Wrong = ⊤
HasClosing table (Fits absent closing) = HasSet table closing

-- A call whose arguments are as many as the parameters: the run before it was read, with the name and the `(` taken, and
-- after that.
pub record IsOpening (names : List (List ℕ)) (before after : Run) (table : Table) (m : Macro) (waits : List Waiting) (made now : List Item) (name opening : Item) (absent : Bool) (closing : Item) (first_stop : ℕ) : Type 0 where
  pub holds : Holds before waits made now
  pub same : after ≡ record before { stops = after.stops; closings = after.closings }
  pub first : first_stop ≡ length before.stops.items
  pub fits : IsFit m (work_of waits) now before.stops.items after.stops.items absent closing
  pub found : macro_at table name.token.name ≡ Some m
  pub called : (r : Reading) → Reads names after.sets r → IsCalled r table name (opening ∷ now)
