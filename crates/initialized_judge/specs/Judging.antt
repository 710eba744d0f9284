-- What is answered of a node that initializes something.
use Rattle.std.specs.Prelude.{◌≡◌, ℕ, Bool, List, [], Some}
use Rattle.sparse_model.specs.declared.failure.Failure.{Failure}
use Rattle.meaning_types.specs.Types.{TypeTree}
use Rattle.meaning_typing.specs.Facts.{Fact}
use Rattle.meaning_typing.specs.Rows.{Row}
use Rattle.meaning_typing.specs.Surroundings.{Surrounding}
use Rattle.meaning_typing.specs.Units.{UnitNodes}
use Rattle.meaning_rules.specs.Rules.{least_broken}
use Rattle.meaning_initializers.specs.Filling.{Outcome}
use Rattle.meaning_initializers.specs.Reading.{InitializesAt, initializer_failures}
use Rattle.meaning_initialized.specs.Initialized.{AnObject}
use Rattle.meaning_initialized.specs.Rows.{IsInitializingRow, IsRowOf, refused_so}
use Rattle.c_types.specs.Layouts.{told_in}
use Rattle.c_types.specs.Table.{IsTypeId, TypeTable, type_at}
use Rattle.declaration_judge.specs.declared.declarations.Declarations.{Declarations}
use Rattle.declaration_judge.specs.Kept.{facts_seen}
use Rattle.expression_rows.specs.Arguments.{Appends}
use Rattle.expression_rows.specs.Rows.{broken_seen}
use Rattle.expr_judge.specs.declared.row.NodeRow.{NodeRow}
use Rattle.expr_judge.specs.Rows.{Tells}
use Rattle.initialized_judge.specs.declared.making.Made.{Made}
use Rattle.initialized_judge.specs.declared.making.Made.TheVariants as made

-- Nothing is refused: the object gets this type, and the rules that fail at the leaves are appended. Or the least of what is refused is
-- told, and nothing is appended.
abbrev pub IsMade : UnitNodes → List Surrounding → List Fact → (object : TypeTree) → (is_static : Bool) → (init : ℕ)
    → TypeTable → (before after : List Failure) → Made → Type 0
IsMade nodes surroundings facts object is_static init table before after (made.Complete complete) =
    (outcome : Outcome) × InitializesAt nodes surroundings facts object is_static init outcome
    × (outcome.refusals ≡ []) × (type_at table complete ≡ outcome.complete) × IsTypeId table complete
    × Appends table before after (initializer_failures nodes facts outcome.leaves)
IsMade nodes surroundings facts object is_static init table before after (made.Refused broken) =
    (outcome : Outcome) × InitializesAt nodes surroundings facts object is_static init outcome
    × (least_broken (refused_so outcome.refusals) ≡ Some (broken_seen broken)) × (after ≡ before)

-- this is what the row of a node says that initializes an object of this type
abbrev pub TellsObject : UnitNodes → List Surrounding → (old new : Declarations) → (handle : ℕ) → (object : TypeTree) → (is_static : Bool)
    → (before after : List Failure) → NodeRow → Type 0
TellsObject nodes surroundings old new handle object is_static before after said =
    (row : Row) × IsRowOf (told_in old.types) nodes surroundings (facts_seen old) handle (AnObject object is_static) row
    × Tells old.types new.types before after said row

-- this is what the row of a node says that initializes something
abbrev pub TellsInitialized : UnitNodes → List Surrounding → (old new : Declarations) → (handle : ℕ) → (before after : List Failure) → NodeRow → Type 0
TellsInitialized nodes surroundings old new handle before after said =
    (row : Row) × IsInitializingRow (told_in old.types) nodes surroundings (facts_seen old) handle row
    × Tells old.types new.types before after said row
