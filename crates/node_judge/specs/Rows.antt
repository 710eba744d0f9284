-- The rows of nodes over what is known.
use Rattle.std.specs.Prelude.{ℕ, Bool, true, false, List}
use Rattle.vocabulary.specs.declared.node_kind.NodeKind.{NodeKind}
use Rattle.vocabulary.specs.declared.node_kind.NodeKind.TheVariants as kinds
use Rattle.meaning_typing.specs.Rows.{Row}
use Rattle.meaning_typing.specs.Surroundings.{Surrounding}
use Rattle.meaning_typing.specs.Units.{UnitNodes}
use Rattle.meaning_typing.specs.WholeTyping.{whole_row_by}
use Rattle.c_types.specs.Table.{TypeTable}
use Rattle.member_rows.specs.Aggregates.{aggregates_in}
use Rattle.node_facts.specs.declared.fact.NodeFact.{NodeFact}
use Rattle.node_facts.specs.Facts.{nodes_seen}

-- the row of a node of this kind by what a table was told of aggregates, and what is kept of the nodes before
abbrev pub row_over : UnitNodes → List Surrounding → TypeTable → List NodeFact → (handle : ℕ) → NodeKind → Row
row_over nodes surroundings table facts handle kind = whole_row_by (aggregates_in table) nodes surroundings (nodes_seen table facts) handle kind

-- kinds of nodes that ask of what is kept no more than types and what is known of nodes: parts of declarators, parameters, widths,
-- assertions and `return`
abbrev pub is_of_facts : NodeKind → Bool
is_of_facts kinds.ArrayDeclarator = true
is_of_facts kinds.FunctionDeclarator = true
is_of_facts kinds.Parameter = true
is_of_facts kinds.BitFieldWidth = true
is_of_facts kinds.StaticAssertion = true
is_of_facts kinds.ReturnStatement = true
is_of_facts kind = false
