-- How what a name names is seen, over a table of types.
use Rattle.std.specs.Prelude.{ℕ, IfSome, option_map}
use Rattle.vocabulary.specs.declared.error_kind.ErrorKind.{ErrorKind}
use Rattle.sparse_model.specs.declared.ids.NameId.{NameId}
use Rattle.meaning_typing.specs.Members as meaning
use Rattle.c_types.specs.Members.{found_seen}
use Rattle.c_types.specs.Table.{TypeTable, IsTypeId, types_in}
use Rattle.expression_rows.specs.declared.row.Broken.{Broken}
use Rattle.member_rows.specs.declared.selection.Selection.{Selection}
use Rattle.member_rows.specs.declared.selection.Selection.TheVariants as selections
use Rattle.member_rows.specs.Marks.{flags_seen, qualifiers_seen}

abbrev pub selection_seen : TypeTable → Selection → meaning.Selection
selection_seen table selections.NotAggregate = meaning.NotAggregate
selection_seen table selections.NotComplete = meaning.NotComplete
selection_seen table (selections.Selected marks found) =
    meaning.Selected (qualifiers_seen marks) (flags_seen marks) (option_map (found_seen (types_in table)) found)

-- the type of its member is of the table
abbrev pub IsKnownSelection : TypeTable → Selection → Type 0
IsKnownSelection table selections.NotAggregate = Unit {0}
IsKnownSelection table selections.NotComplete = Unit {0}
IsKnownSelection table (selections.Selected marks found) = IfSome found (λ found. IsTypeId table found.of)

-- a constraint whose text tells a name
abbrev pub broken_named : ErrorKind → (token : ℕ) → NameId → Broken
broken_named constraint token name = record { constraint = constraint; token = token; name = name }
