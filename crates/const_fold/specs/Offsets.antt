-- How far what a `__builtin_offsetof` leads to lies, by the members of a table of types and the constants of indices (C11 7.19 p3).
use Rattle.std.specs.Prelude.{ℕ, ℤ, List, [], ◌∷◌, Option, Some, None, map}
use Rattle.vocabulary.specs.declared.node_kind.NodeKind.{NodeKind}
use Rattle.vocabulary.specs.declared.node_kind.NodeKind.TheVariants as nodes
use Rattle.sparse_model.specs.declared.ids.NameId.{NameId}
use Rattle.meaning_tree.specs.Nodes.{TreeNode, NodeList}
use Rattle.c_types.specs.declared.nodes.NodeType.{NodeType}
use Rattle.c_types.specs.Layouts.{told_in}
use Rattle.c_types.specs.Members.{is_name, names_in}
use Rattle.c_types.specs.Table.{TypeTable, type_at}
use Rattle.meaning_constants.specs.Constants.{Part}
use Rattle.meaning_types.specs.Types.{TypeTree, Typed, ArrayTree}
use Rattle.meaning_constants.specs.Sizes.{Designator, ElementAt, Members, NamedMember, ObjectPart, members_by, offset_along}
use Rattle.const_fold.specs.declared.children.Children.{Children}
use Rattle.const_fold.specs.declared.children.Children.TheVariants as counts
use Rattle.const_fold.specs.declared.offset.Spot.{Spot}
use Rattle.const_fold.specs.declared.offset.Step.{Step}
use Rattle.const_fold.specs.declared.offset.Step.TheVariants as steps
use Rattle.const_fold.specs.Known.{kept_at, node_at, part_at}

-- the members of a table's aggregates
abbrev pub members_of : TypeTable → Members NameId
members_of table = members_by (told_in table) is_name (names_in table)

-- the number of a part's constant
abbrev pub number_of : Option Part → Option ℤ
number_of None = None
number_of (Some part) = part.number

-- an index is the only part of its designator
abbrev pub index_in : TypeTable → List (Option NodeType) → List (ℕ × ℕ) → Option ℤ
index_in table kept (child ∷ []) = number_of (part_at table kept child.0)
index_in table kept children = None

-- the same of few children
abbrev pub index_few : TypeTable → List (Option NodeType) → Children → Option ℤ
index_few table kept (counts.One child) = number_of (part_at table kept child)
index_few table kept children = None

-- what a node designates; one that is no designator leads nowhere
abbrev pub designator_by : TypeTable → List (Option NodeType) → NodeKind → TreeNode NameId → Designator NameId
designator_by table kept nodes.MemberDesignator node = NamedMember node.name
designator_by table kept nodes.IndexDesignator node = ElementAt (index_in table kept node.children)
designator_by table kept kind node = ElementAt None

abbrev pub designator_of : TypeTable → List (Option NodeType) → Option (TreeNode NameId) → Designator NameId
designator_of table kept None = ElementAt None
designator_of table kept (Some node) = designator_by table kept node.kind node

abbrev pub designator_at : NodeList NameId → TypeTable → List (Option NodeType) → ℕ → Designator NameId
designator_at unit table kept handle = designator_of table kept (node_at unit handle)

abbrev pub designators_at : NodeList NameId → TypeTable → List (Option NodeType) → List (ℕ × ℕ) → List (Designator NameId)
designators_at unit table kept children = map (λ child. designator_at unit table kept child.0) children

-- from the begin of an object of a node's type, if that has one: first to the member with this name
abbrev pub offset_from : NodeList NameId → TypeTable → List (Option NodeType) → NameId → Option NodeType → List (ℕ × ℕ) → Option ℕ
offset_from unit table kept name None children = None
offset_from unit table kept name (Some node) children =
    offset_along (told_in table) (members_of table) (type_at table node.of) (NamedMember name ∷ designators_at unit table kept children)

-- the first part is a type name, and the others are the designators behind the member
abbrev pub offset_of_parts : NodeList NameId → TypeTable → List (Option NodeType) → NameId → List (ℕ × ℕ) → Option ℕ
offset_of_parts unit table kept name [] = None
offset_of_parts unit table kept name (first ∷ others) = offset_from unit table kept name (kept_at kept first.0) others

-- how far a node leads, which holds the name of the member
abbrev pub offset_of_node : NodeList NameId → TypeTable → List (Option NodeType) → TreeNode NameId → Option ℕ
offset_of_node unit table kept node = offset_of_parts unit table kept node.name node.children

-- How steps are seen

abbrev pub spot_seen : TypeTable → Spot → ObjectPart
spot_seen table spot = record { bytes = spot.bytes; of = type_at table spot.of }

abbrev pub step_seen : Step → Designator NameId
step_seen (steps.Member name) = NamedMember name
step_seen (steps.Element index) = ElementAt index

-- the element of an array
abbrev pub element_in : TypeTree → Option TypeTree
element_in (Typed (ArrayTree element length) _ _) = Some element
element_in (Typed base _ _) = None
