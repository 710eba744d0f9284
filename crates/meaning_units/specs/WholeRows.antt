-- The rows of a unit: one sentence for all of them.
use Rattle.std.specs.Prelude.{◌≡◌, ℕ, ◌<◌, ◌≤◌, List, ◌++◌, length, map, take, get_or, slice_get, Some}
use Rattle.meaning_operands.specs.Failures.{Failure, Broken}
use Rattle.meaning_typing.specs.Facts.{Fact}
use Rattle.meaning_typing.specs.Rows.{Row, nothing}
use Rattle.meaning_typing.specs.Surroundings.{Surrounding, surrounding_at}
use Rattle.meaning_typing.specs.Typing.{access_failures, token_at}
use Rattle.meaning_typing.specs.Units.{UnitNodes}
use Rattle.meaning_units.specs.UnitRows.{IsUnitRow}

-- what rows tell of their nodes
abbrev pub facts_of : List Row → List Fact
facts_of rows = map (λ row. row.fact) rows

-- the one at this handle is the row of its node, over what those before it tell
abbrev pub IsRowAt : UnitNodes → List Surrounding → List Row → (handle : ℕ) → Type 0
IsRowAt nodes surroundings rows handle =
    (row : Row) × (slice_get rows handle ≡ Some row) × IsUnitRow nodes surroundings (facts_of (take handle rows)) handle row

-- These are the rows of the first nodes of a unit.
pub record AreFirstRows (nodes : UnitNodes) (surroundings : List Surrounding) (rows : List Row) : Type 0 where
  pub few : length rows ≤ length nodes
  pub each : (handle : ℕ) → handle < length rows → IsRowAt nodes surroundings rows handle

-- These are the rows of all its nodes.
pub record AreRows (nodes : UnitNodes) (surroundings : List Surrounding) (rows : List Row) : Type 0 where
  pub all : length rows ≡ length nodes
  pub first : AreFirstRows nodes surroundings rows

-- What stands at a node

abbrev pub row_at : List Row → (handle : ℕ) → Row
row_at rows handle = get_or rows handle nothing

-- all rules that fail, that of its access the last
abbrev pub failures_at : UnitNodes → List Surrounding → List Row → (handle : ℕ) → List Failure
failures_at nodes surroundings rows handle =
    (row_at rows handle).failures ++ access_failures (token_at nodes handle) (surrounding_at surroundings handle) (row_at rows handle).fact

-- all constraints that it breaks
abbrev pub broken_at : List Row → (handle : ℕ) → List Broken
broken_at rows handle = (row_at rows handle).broken

-- where it passes the limit of the size of an object
abbrev pub passed_at : List Row → (handle : ℕ) → List ℕ
passed_at rows handle = (row_at rows handle).passed
