-- What a node of a unit says: what its own row and that of its statement do, and of a node that initializes something what its
-- initializer makes of the object (C11 6.7.9, 6.5.2.5).
use Rattle.std.specs.Prelude.{◌≡◌, ℕ, List}
use Rattle.vocabulary.specs.declared.node_kind.NodeKind.{NodeKind}
use Rattle.vocabulary.specs.declared.node_kind.NodeKind.TheVariants as kinds
use Rattle.meaning_typing.specs.Facts.{Fact}
use Rattle.meaning_typing.specs.MemberRows.{aggregates_before}
use Rattle.meaning_typing.specs.Rows.{Row}
use Rattle.meaning_typing.specs.Surroundings.{Surrounding}
use Rattle.meaning_typing.specs.Units.{UnitNodes, kind_at}
use Rattle.meaning_initialized.specs.Rows.{IsInitializingRow}
use Rattle.meaning_judgements.specs.UnitRows.{unit_row_at}

-- By the kind of the node: a compound literal is a place of the completed type, and at an initializer what stands before is declared
-- with the completed type.
abbrev pub row_by_initializer : NodeKind → Row → (initializing : Row) → Row
row_by_initializer kinds.CompoundLiteral row initializing = initializing
row_by_initializer kinds.Initializer row initializing = initializing
row_by_initializer kind row initializing = row

-- this is the row of a node of a unit, over what is known of the nodes before it
abbrev pub IsUnitRow : UnitNodes → List Surrounding → (earlier : List Fact) → (handle : ℕ) → Row → Type 0
IsUnitRow nodes surroundings earlier handle row =
    (initializing : Row) × IsInitializingRow (aggregates_before nodes surroundings earlier).told nodes surroundings earlier handle initializing
    × (row ≡ row_by_initializer (kind_at nodes handle) (unit_row_at nodes surroundings earlier handle) initializing)
