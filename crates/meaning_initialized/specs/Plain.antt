-- The same as a program, which goes so deep into an initializer at most.
use Rattle.std.specs.Prelude.{ℕ, List, Option, Some, option_map}
use Rattle.vocabulary.specs.declared.error_kind.ErrorKind.TheVariants.{ExtraInitializer, IncompleteType}
use Rattle.meaning_layout.specs.Sizes.{Told}
use Rattle.meaning_typing.specs.Units.{UnitNodes, node_at}
use Rattle.meaning_typing.specs.Surroundings.{Surrounding}
use Rattle.meaning_typing.specs.Facts.{Fact}
use Rattle.meaning_typing.specs.Rows.{Row, nothing, breaks, breaks_at}
use Rattle.meaning_initializers.specs.Reading.{aggregates_behind, initializer_at}
use Rattle.meaning_initializers.specs.plain.Filling.{initialized}
use Rattle.meaning_initialized.specs.Initialized.{Initialized, NoObject, NoPlace, Incomplete, AnObject, initialized_at, initializing_part}
use Rattle.meaning_initialized.specs.Rows.{row_of_outcome}

abbrev pub row_found_of : (depth : ℕ) → Told → UnitNodes → List Surrounding → List Fact → (handle : ℕ) → Initialized → Option Row
row_found_of depth told nodes surroundings facts handle NoObject = Some nothing
row_found_of depth told nodes surroundings facts handle NoPlace = Some (breaks (breaks_at ExtraInitializer (node_at nodes (initializing_part nodes handle)).token))
row_found_of depth told nodes surroundings facts handle Incomplete = Some (breaks (breaks_at IncompleteType (node_at nodes handle).token))
row_found_of depth told nodes surroundings facts handle (AnObject type_ is_static) =
    option_map (row_of_outcome told nodes surroundings facts handle is_static)
    (initialized (aggregates_behind nodes surroundings facts) is_static depth type_ (initializer_at nodes facts (initializing_part nodes handle)))

abbrev pub row_found : (depth : ℕ) → Told → UnitNodes → List Surrounding → List Fact → (handle : ℕ) → Option Row
row_found depth told nodes surroundings facts handle =
    row_found_of depth told nodes surroundings facts handle (initialized_at told nodes surroundings facts handle)
