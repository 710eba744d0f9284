-- By what is initialized.
use Rattle.std.proofs.Common.{◌≡◌, ℕ, Bool, List, Option, Some, None, option_map, refl, sym, ap, ◌∙◌}
use Rattle.std.proofs.lemmas.Option.{same_Some}
use Rattle.meaning_layout.specs.Sizes.{Told}
use Rattle.meaning_typing.specs.Facts.{Fact}
use Rattle.meaning_typing.specs.Rows.{Row}
use Rattle.meaning_typing.specs.Surroundings.{Surrounding}
use Rattle.meaning_typing.specs.Units.{UnitNodes}
use Rattle.meaning_initializers.specs.Filling.{Outcome}
use Rattle.meaning_initializers.specs.Reading.{aggregates_behind, initializer_at}
use Rattle.meaning_initializers.specs.laws.Filling.{AreNested}
use Rattle.meaning_initializers.specs.plain.Filling.{initialized}
use Rattle.meaning_initializers.proofs.Answering.{answers_are_outcomes}
use Rattle.meaning_initializers.proofs.Existence.{outcomes_exist}
use Rattle.meaning_initializers.proofs.Uniqueness.{outcomes_are_unique}
use Rattle.meaning_initialized.specs.Initialized.{Initialized, NoObject, NoPlace, Incomplete, AnObject, initialized_at, initializing_part}
use Rattle.meaning_initialized.specs.Laws.{FoundRowsAreRows, RowsAreUnique, RowsExist}
use Rattle.meaning_initialized.specs.Plain.{row_found_of}
use Rattle.meaning_initialized.specs.Rows.{IsRowOf, row_of_outcome}

module _ (told : Told) (nodes : UnitNodes) (surroundings : List Surrounding) (facts : List Fact) (handle : ℕ) where
  unique_of : (what : Initialized) (row other : Row) → IsRowOf told nodes surroundings facts handle what row → IsRowOf told nodes surroundings facts handle what other → row ≡ other
  unique_of NoObject row other is so = is ∙ sym so
  unique_of NoPlace row other is so = is ∙ sym so
  unique_of Incomplete row other is so = is ∙ sym so
  unique_of (AnObject type_ is_static) row other is so =
      is.2
      ∙ ap (row_of_outcome told nodes surroundings facts handle is_static)
      (outcomes_are_unique (aggregates_behind nodes surroundings facts) is_static type_ (initializer_at nodes facts (initializing_part nodes handle)) is.0 so.0 is.1 so.1)
      ∙ sym so.2

  exist_of : (heights : ℕ → ℕ) → AreNested (aggregates_behind nodes surroundings facts) heights → (what : Initialized) → (row : Row) × IsRowOf told nodes surroundings facts handle what row
  exist_of heights nested NoObject = (_, refl)
  exist_of heights nested NoPlace = (_, refl)
  exist_of heights nested Incomplete = (_, refl)
  exist_of heights nested (AnObject type_ is_static) =
      let outcome = outcomes_exist (aggregates_behind nodes surroundings facts) heights nested is_static type_ (initializer_at nodes facts (initializing_part nodes handle)) in
      (_, (outcome.0, outcome.1, refl))

  by_outcome : (is_static : Bool) (found : Option Outcome) (row : Row) → option_map (row_of_outcome told nodes surroundings facts handle is_static) found ≡ Some row
      → (outcome : Outcome) × (found ≡ Some outcome) × (row ≡ row_of_outcome told nodes surroundings facts handle is_static outcome)
  by_outcome is_static None row is = absurd (cc is)
  by_outcome is_static (Some outcome) row is = (outcome, refl, sym (same_Some _ _ is))

  found_of : (depth : ℕ) (what : Initialized) (row : Row) → row_found_of depth told nodes surroundings facts handle what ≡ Some row → IsRowOf told nodes surroundings facts handle what row
  found_of depth NoObject row is = sym (same_Some _ _ is)
  found_of depth NoPlace row is = sym (same_Some _ _ is)
  found_of depth Incomplete row is = sym (same_Some _ _ is)
  found_of depth (AnObject type_ is_static) row is =
      let initializer = initializer_at nodes facts (initializing_part nodes handle) in
      let found = by_outcome is_static (initialized (aggregates_behind nodes surroundings facts) is_static depth type_ initializer) row is in
      (found.0, answers_are_outcomes (aggregates_behind nodes surroundings facts) is_static depth type_ initializer found.0 found.1, found.2)

pub rows_are_unique : RowsAreUnique
rows_are_unique told nodes surroundings facts handle row other =
    unique_of told nodes surroundings facts handle (initialized_at told nodes surroundings facts handle) row other

pub rows_exist : RowsExist
rows_exist told nodes surroundings facts heights nested handle =
    exist_of told nodes surroundings facts handle heights nested (initialized_at told nodes surroundings facts handle)

pub found_rows_are_rows : FoundRowsAreRows
found_rows_are_rows depth told nodes surroundings facts handle row =
    found_of told nodes surroundings facts handle depth (initialized_at told nodes surroundings facts handle) row
