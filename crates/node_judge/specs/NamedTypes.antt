-- The names of types. A restricted type is known by the first token of the declaration, the parameter or the function definition that
-- makes it, and its name is the one that is declared there first. A structure or a union is known by its number, and its name is its tag.
use Rattle.std.specs.Prelude.{ℕ, zero, suc, List, [], ◌∷◌, Option, Some, None}
use Rattle.vocabulary.specs.declared.node_kind.NodeKind.{NodeKind}
use Rattle.vocabulary.specs.declared.node_kind.NodeKind.TheVariants as kinds
use Rattle.sparse_model.specs.declared.ids.NameId.{NameId}
use Rattle.meaning_typing.specs.Surroundings.{Surrounding, surrounding_at}
use Rattle.meaning_typing.specs.Units.{UnitNodes, kind_at, node_at}
use Rattle.c_types.specs.declared.bodies.Named.{Named}
use Rattle.c_types.specs.declared.bodies.Named.TheVariants as named
use Rattle.c_types.specs.Table.{TypeTable, with_name}

-- what the name of a node of this kind names: its declaration begins at the token of the node above
abbrev pub named_by : UnitNodes → List Surrounding → (handle : ℕ) → NodeKind → Option Named
named_by nodes surroundings handle kinds.Declarator =
    Some (named.Identity (record { 0 = (node_at nodes (surrounding_at surroundings handle).parent).token }))
named_by nodes surroundings handle kinds.StructSpecifier = Some (named.Tag (node_at nodes handle).number)
named_by nodes surroundings handle kinds.UnionSpecifier = Some (named.Tag (node_at nodes handle).number)
named_by nodes surroundings handle kind = None

-- this has this name, if it is one and what it names has none yet
abbrev pub with_name_of : List (Named × NameId) → Option Named → (name : List ℕ) → List (Named × NameId)
with_name_of names (Some what) (number ∷ others) = with_name names what (record { 0 = number })
with_name_of names what name = names

-- these names, and what a node tells
abbrev pub with_node : UnitNodes → List Surrounding → (handle : ℕ) → List (Named × NameId) → List (Named × NameId)
with_node nodes surroundings handle names =
    with_name_of names (named_by nodes surroundings handle (kind_at nodes handle)) (node_at nodes handle).name

-- the names that the first so many nodes tell, in their order
abbrev pub names_told : UnitNodes → List Surrounding → (count : ℕ) → List (Named × NameId)
names_told nodes surroundings zero = []
names_told nodes surroundings (suc count) = with_node nodes surroundings count (names_told nodes surroundings count)

-- the table, with these names
abbrev pub renamed : TypeTable → List (Named × NameId) → TypeTable
renamed table names = record { rows = table.rows; bodies = table.bodies; names = names }
