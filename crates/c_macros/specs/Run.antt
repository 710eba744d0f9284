-- What comes of a run in the end.
use Rattle.std.specs.Prelude.{◌≡◌, ◌+◌, ◌<◌, ◌*◌, ℕ, Bool, true, false, List, [], ◌∷◌, ◌++◌, length, map, option_map, unwrap_or, All, Some, None}
use Rattle.meaning_macros.specs.Macros as macros
use Rattle.meaning_macros.specs.Hiding.{Hiding}
use Rattle.meaning_macros.specs.Expansion as expansion
use Rattle.number_sets.specs.NumberSets.{IsSet}
use Rattle.number_sets.specs.NumberSets as sets
use Rattle.sparse_model.specs.declared.ids.NameId.{NameId}
use Rattle.c_tokens.specs.Seen.{IsKnown}
use Rattle.c_macros.specs.declared.budget.Budget.{Budget}
use Rattle.c_macros.specs.declared.definition.Macro.{Macro}
use Rattle.c_macros.specs.declared.expand_fault.ExpandFault.{ExpandFault}
use Rattle.c_macros.specs.declared.item.Item.{Item}
use Rattle.c_macros.specs.declared.run.Call.{Call}
use Rattle.c_macros.specs.declared.run.Run.{Run}
use Rattle.c_macros.specs.Arguments.{arguments_by}
use Rattle.c_macros.specs.Ends.{Ends, budget_by}
use Rattle.c_macros.specs.Meaning.{IsExpansion, Opened, Suspended, meaning}
use Rattle.c_macros.specs.Reading.{HasName, HasSet, Reading, Reads, hiding_by, hidings_by}
use Rattle.c_macros.specs.Stops.{AreClosings}
use Rattle.c_macros.specs.Seen.{IsKnownMacro, Spelling, macro_by}
use Rattle.c_macros.specs.Table.{Table, macro_at, spelling_of_file}
use Rattle.c_macros.specs.Waiting.{Waiting, Shape, raws_of, puts_of, later_items}

-- a table of macros of which the ids are spelled so
abbrev pub table_by : Spelling → Table → macros.MacroTable
table_by spelling table =
    record {
      definitions = map (λ (entry : NameId × Macro). record { name = spelling entry.0; macro = macro_by spelling entry.1 }) table.macros;
      files = map (λ (entry : ℕ × NameId). record { file = entry.0; spelled = spelling entry.1 }) table.files;
    }

-- a macro that puts nothing
abbrev pub nothing : macros.Macro
nothing = record { parameters = None; variadic = false; body = [] }

-- the macro of a name, as it is read
abbrev pub macro_named : Spelling → Table → NameId → macros.Macro
macro_named spelling table name = unwrap_or (option_map (macro_by spelling) (macro_at table name)) nothing

-- an argument that isn't there is empty
abbrev pub absent_one : Bool → List (List Hiding)
absent_one true = [] ∷ []
absent_one false = []

abbrev pub opened_by : Reading → Table → Waiting → Opened
opened_by r table w = record {
  name = hiding_by r w.name;
  macro = macro_named r.spelled table w.name.token.name;
  hides = r.hidden w.hides;
  put = hidings_by r w.put;
  rest = hidings_by r w.rest;
}

-- a call that waits, as it is read
abbrev pub suspended_by : Reading → Table → Waiting → Suspended
suspended_by r table w = record {
  call = opened_by r table w;
  raws = arguments_by r (raws_of w.done);
  readys = arguments_by r (puts_of w.done);
  raw = hidings_by r w.raw;
  later = arguments_by r (later_items w.todo) ++ absent_one w.absent;
}

abbrev pub all_suspended : Reading → Table → List Waiting → List Suspended
all_suspended r table [] = []
all_suspended r table (w ∷ ws) = suspended_by r table w ∷ all_suspended r table ws

-- what comes of these calls and tokens in the end
abbrev pub outcome : expansion.Expander → Reading → Table → List Waiting → (made now : List Item) → Budget → expansion.Expanded
outcome f r table waits made now b = meaning f (all_suspended r table waits) (hidings_by r made) (hidings_by r now) (budget_by b)

-- the next run has calls and tokens of which the same comes
pub record Comes (names : List (List ℕ)) (next : Run) (table : Table) (waits : List Waiting) (made now : List Item) (b c : Budget) : Type 0 where
  pub shape : Shape next
  pub means : (r : Reading) → Reads names next.sets r → (f : expansion.Expander) → IsExpansion (table_by r.spelled table) f
      → outcome f r table shape.waits shape.made shape.now c ≡ outcome f r table waits made now b

-- the id and the set of an item are ones of the tables
pub record IsKnownItem (names : List (List ℕ)) (table : sets.Table) (item : Item) : Type 0 where
  pub name : HasName names item
  pub set : HasSet table item

pub record IsKnownCall (names : List (List ℕ)) (table : sets.Table) (call : Call) : Type 0 where
  pub name : IsKnownItem names table call.name
  pub hides : IsSet table call.hides

-- all ids and sets of a run are ones of the tables, which have the empty set, and its notes are right
pub record IsKnownRun (names : List (List ℕ)) (run : Run) : Type 0 where
  pub work : All (IsKnownItem names run.sets) run.work.items
  pub put : All (IsKnownItem names run.sets) run.put.items
  pub raw : All (IsKnownItem names run.sets) run.raw.items
  pub calls : All (IsKnownCall names run.sets) run.calls.items
  pub some_set : 0 < length run.sets
  pub closings : AreClosings run.work.items run.closings.items

-- what may still happen
abbrev pub left_to_do : Run → Budget → ℕ
left_to_do run b = 2 * length run.work.items + length run.calls.items + 2 * b.tokens

-- the fault is that of what comes of these calls and tokens
abbrev pub Fails : List (List ℕ) → Run → Table → List Waiting → (made now : List Item) → Budget → ExpandFault → Type 0
Fails names next table waits made now b fault =
    (r : Reading) → Reads names next.sets r → (f : expansion.Expander) → IsExpansion (table_by r.spelled table) f → Ends fault (outcome f r table waits made now b)

-- the ids of the table are ones of the names
pub record KnowsTable (names : List (List ℕ)) (table : Table) : Type 0 where
  pub macros : (name : NameId) (m : Macro) → macro_at table name ≡ Some m → IsKnownMacro names m
  pub files : (file : ℕ) (name : NameId) → spelling_of_file table file ≡ Some name → IsKnown names name
