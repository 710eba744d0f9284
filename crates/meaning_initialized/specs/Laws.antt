-- A node that initializes something has one row.
use Rattle.std.specs.Prelude.{◌≡◌, ℕ, List, Some}
use Rattle.meaning_layout.specs.Sizes.{Told}
use Rattle.meaning_typing.specs.Facts.{Fact}
use Rattle.meaning_typing.specs.Rows.{Row}
use Rattle.meaning_typing.specs.Surroundings.{Surrounding}
use Rattle.meaning_typing.specs.Units.{UnitNodes}
use Rattle.meaning_initializers.specs.Reading.{aggregates_behind}
use Rattle.meaning_initializers.specs.laws.Filling.{AreNested}
use Rattle.meaning_initialized.specs.Plain.{row_found}
use Rattle.meaning_initialized.specs.Rows.{IsInitializingRow}

-- at most one
abbrev pub RowsAreUnique : Type 0
RowsAreUnique =
    (told : Told) (nodes : UnitNodes) (surroundings : List Surrounding) (facts : List Fact) (handle : ℕ) (row other : Row)
    → IsInitializingRow told nodes surroundings facts handle row → IsInitializingRow told nodes surroundings facts handle other → row ≡ other

-- what the plain program answers is it
abbrev pub FoundRowsAreRows : Type 0
FoundRowsAreRows =
    (depth : ℕ) (told : Told) (nodes : UnitNodes) (surroundings : List Surrounding) (facts : List Fact) (handle : ℕ) (row : Row)
    → row_found depth told nodes surroundings facts handle ≡ Some row → IsInitializingRow told nodes surroundings facts handle row

-- there is one, where no structure lies in itself
abbrev pub RowsExist : Type 0
RowsExist =
    (told : Told) (nodes : UnitNodes) (surroundings : List Surrounding) (facts : List Fact) (heights : ℕ → ℕ)
    → AreNested (aggregates_behind nodes surroundings facts) heights → (handle : ℕ) → (row : Row) × IsInitializingRow told nodes surroundings facts handle row
