-- Where each `goto` goes, by the kinds of cells, whatever names are.
use Rattle.std.specs.Prelude.{◌≡◌, ◌≢◌, ◌↔◌, ◌⊎◌, ℕ, ◌<◌, ◌≤◌, Bool, List, map, length, get_or, Option, Some, None}
use Rattle.sparse_model.specs.declared.ids.NameId.{NameId}
use Rattle.sparse_model.specs.contracts.ids.NameIdPartialEq.TheImpl as names
use Rattle.indexmap.specs.IndexMap.{get}
use Rattle.meaning_paths.specs.Walks.{IsIn}
use Rattle.control_cells.specs.Labels.{row_at}
use Rattle.control_cells.specs.Trees.{first_at}
use Rattle.control_cells.specs.declared.cell.Cell.{Cell}
use Rattle.control_cells.specs.declared.jumps.Gotos.{Gotos}
use Rattle.control_cells.specs.declared.kind.ControlKind.{ControlKind}
use Rattle.control_cells.specs.declared.kind.ControlKind.TheVariants.{Sequence, Goto, Label}

abbrev pub kinds_of : List Cell → List ControlKind
kinds_of cells = map (λ cell. cell.kind) cells

abbrev pub kind_at : List ControlKind → (number : ℕ) → ControlKind
kind_at kinds number = get_or kinds number Sequence

abbrev pub goto_name : ControlKind → Option NameId
goto_name (Goto name) = Some name
goto_name kind = None

abbrev pub label_name : ControlKind → Option NameId
label_name (Label name) = Some name
label_name kind = None

-- Each `goto` so far

abbrev pub same_name : NameId → NameId → Bool
same_name name other = names.eq-value.it name other

-- the last `goto` of a name among so many cells
abbrev pub IsLastOf : List ControlKind → NameId → (count : ℕ) → Option ℕ → Type 0
IsLastOf kinds name count None = (number : ℕ) → number < count → kind_at kinds number ≢ Goto name
IsLastOf kinds name count (Some last) =
    (last < count) × (kind_at kinds last ≡ Goto name) × ((number : ℕ) → last < number → number < count → kind_at kinds number ≢ Goto name)

pub record AreGotos (kinds : List ControlKind) (count : ℕ) (gotos : Gotos) : Type 0 where
  pub length_is : length gotos.earlier.items ≡ count
  pub last : (name : NameId) → IsLastOf kinds name count (get same_name gotos.last name)
  pub earlier : (number : ℕ) (name : NameId) → number < count → kind_at kinds number ≡ Goto name → IsLastOf kinds name number (get_or gotos.earlier.items number None)

-- Joining

-- a `goto` of this name among the cells from this one on
pub record IsGotoBelow (kinds : List ControlKind) (name : NameId) (first count number : ℕ) : Type 0 where
  pub behind : first ≤ number
  pub before : number < count
  pub is : kind_at kinds number ≡ Goto name

-- each such from a bound on goes to the label too
pub record HaveJoinedFrom (kinds : List ControlKind) (name : NameId) (first bound count label : ℕ) (old new : List (List ℕ)) : Type 0 where
  pub length_is : length new ≡ length old
  pub each : (number other : ℕ) → number < length old
      → IsIn other (row_at new number)
      ↔ (IsIn other (row_at old number) ⊎ ((other ≡ label) × (bound ≤ number) × IsGotoBelow kinds name first count number))

-- each such does
abbrev pub HaveJoined : List ControlKind → NameId → (first count label : ℕ) → (old new : List (List ℕ)) → Type 0
HaveJoined kinds name first count label old new = HaveJoinedFrom kinds name first 0 count label old new

-- the label is one of these, and has the name of a `goto` below
pub record IsJump (kinds : List ControlKind) (first count : ℕ) (labels : List ℕ) (number label : ℕ) : Type 0 where
  pub name : NameId
  pub goto : IsGotoBelow kinds name first count number
  pub among : IsIn label labels
  pub is : kind_at kinds label ≡ Label name

pub record HaveAllJoined (kinds : List ControlKind) (first count : ℕ) (labels : List ℕ) (old new : List (List ℕ)) : Type 0 where
  pub length_is : length new ≡ length old
  pub each : (number label : ℕ) → number < length old
      → IsIn label (row_at new number) ↔ (IsIn label (row_at old number) ⊎ IsJump kinds first count labels number label)

-- where those below one of the first so many cells go to its labels
pub record AreJumps (kinds : List ControlKind) (firsts : List ℕ) (labels : List (List ℕ)) (count : ℕ) (jumps : List (List ℕ)) : Type 0 where
  pub length_is : length jumps ≡ length kinds
  pub each : (number label : ℕ) → number < length kinds
      → IsIn label (row_at jumps number) ↔ ((body : ℕ) × (body < count) × IsJump kinds (first_at firsts body) body (row_at labels body) number label)
