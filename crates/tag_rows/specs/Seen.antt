-- How kinds of tags, what is broken, and rows are seen by the definitions.
use Rattle.std.specs.Prelude.{ℕ, List, [], ◌∷◌, Option, Some, None, option_map, if◌then◌else◌}
use Rattle.vocabulary.specs.declared.node_kind.NodeKind.{NodeKind}
use Rattle.vocabulary.specs.declared.node_kind.NodeKind.TheVariants as nodes_kinds
use Rattle.meaning_operands.specs.Failures as failures
use Rattle.meaning_typing.specs.Tags as meaning
use Rattle.meaning_typing.specs.Units.{UnitNodes, kind_at}
use Rattle.c_types.specs.Table.{TypeTable}
use Rattle.node_facts.specs.declared.fact.NodeFact.{NodeFact}
use Rattle.node_facts.specs.declared.fact.NodeFact.TheVariants as facts
use Rattle.node_facts.specs.Facts.{node_seen}
use Rattle.expression_rows.specs.declared.row.Broken.{Broken}
use Rattle.expression_rows.specs.Rows.{Told, broken_seen}
use Rattle.tag_rows.specs.declared.kinds.TagKind.{TagKind}
use Rattle.tag_rows.specs.declared.kinds.TagKind.TheVariants as kinds
use Rattle.tag_rows.specs.declared.row.TagRow.{TagRow}

abbrev pub kind_seen : TagKind → meaning.TagKind
kind_seen kinds.Structure = meaning.StructureTag
kind_seen kinds.Union = meaning.UnionTag
kind_seen kinds.Enumeration = meaning.EnumerationTag

-- what the number of a list of attributes tells: the token behind it
abbrev pub end_of_list : NodeKind → (number : ℕ) → Option ℕ
end_of_list nodes_kinds.AttributeList number = Some number
end_of_list kind number = None

-- the first node that names a type
abbrev pub any_naming_handle : UnitNodes → (handles : List ℕ) → Option ℕ
any_naming_handle nodes [] = None
any_naming_handle nodes (handle ∷ handles) =
    if meaning.names_any_type (kind_at nodes handle) then Some handle else any_naming_handle nodes handles

-- one constraint at most
abbrev pub broken_listed : Option Broken → List failures.Broken
broken_listed None = []
broken_listed (Some broken) = broken_seen broken ∷ []

-- Rows

-- no rule fails, and no limit is passed
abbrev pub row_seen : TypeTable → TagRow → Told
row_seen table row = record { fact = node_seen table row.fact; broken = option_map broken_seen row.broken; failures = []; passed = [] }

abbrev pub known_row : NodeFact → TagRow
known_row fact = record { fact = fact; broken = None }

abbrev pub broken_row : Broken → TagRow
broken_row broken = record { fact = facts.Unknown; broken = Some broken }
