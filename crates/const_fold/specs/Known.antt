-- What is known of a node of a unit, by the types and the constants of its parts.
use Rattle.std.specs.Prelude.{ℕ, ◌-◌, Bool, true, false, ℤ, List, Option, Some, None, map, option_map, slice_get, unwrap_or, if◌then◌else◌}
use Rattle.vocabulary.specs.declared.int_kind.IntKind.{IntKind}
use Rattle.vocabulary.specs.declared.node_kind.NodeKind.{NodeKind}
use Rattle.vocabulary.specs.declared.node_kind.NodeKind.TheVariants as nodes
use Rattle.sparse_model.specs.declared.ids.NameId.{NameId}
use Rattle.meaning_tree.specs.Nodes.{TreeNode, NodeList}
use Rattle.meaning_types.specs.Types.{TypeTree}
use Rattle.c_types.specs.declared.nodes.NodeType.{NodeType}
use Rattle.c_types.specs.declared.nodes.NodeValue.{NodeValue}
use Rattle.c_types.specs.Table.{TypeTable, IsTypeId, type_at}
use Rattle.meaning_constants.specs.Bits.{bits_of_number, number_of_bits}
use Rattle.meaning_constants.specs.Constants.{Constant, Part, kind_of}
use Rattle.meaning_constants.specs.Nodes.{NodeFacts, loaded_type, node_constant}
use Rattle.const_fold.specs.declared.folded.Folded.{Folded}
use Rattle.const_fold.specs.declared.folded.Folded.TheVariants as answers
use Rattle.const_fold.specs.Measured.{measured}

-- Parts

-- the type of a node, if it has one, is of the table
abbrev pub IsKnownNode : TypeTable → Option NodeType → Type 0
IsKnownNode table None = Unit {0}
IsKnownNode table (Some node) = IsTypeId table node.of

-- what is kept of the node with this handle, if anything
abbrev pub kept_at : List (Option NodeType) → ℕ → Option NodeType
kept_at kept handle = unwrap_or (slice_get kept handle) None

-- the number of a constant that has these bits, where its type has a kind
abbrev pub number_with : Option IntKind → (bits : Option ℕ) → Option ℤ
number_with (Some kind) (Some bits) = Some (number_of_bits kind bits)
number_with kind bits = None

-- a part of this type, as a value or as it is named
abbrev pub part_of_type : TypeTree → NodeValue → Part
part_of_type of value = record { of = of; fouled = value.fouled; number = number_with (kind_of of) value.constant }

-- what a node is as a part of another: of a bit-field it is what is loaded of it
abbrev pub part_of : TypeTable → NodeType → Part
part_of table node = part_of_type (loaded_type node.value.width (type_at table node.of)) node.value

abbrev pub part_at : TypeTable → List (Option NodeType) → ℕ → Option Part
part_at table kept handle = option_map (part_of table) (kept_at kept handle)

-- Names

-- the node with this handle, if there is one
abbrev pub node_at : NodeList NameId → ℕ → Option (TreeNode NameId)
node_at unit handle = slice_get unit.nodes (handle - unit.first)

abbrev pub is_enumerator : NodeKind → Bool
is_enumerator nodes.Enumerator = true
is_enumerator kind = false

abbrev pub if_enumerator : Option (TreeNode NameId) → Option Part → Option Part
if_enumerator None part = None
if_enumerator (Some node) part = if is_enumerator node.kind then part else None

-- the enumerator with this handle, if it is that of one
abbrev pub enumerator_at : NodeList NameId → TypeTable → List (Option NodeType) → ℕ → Option Part
enumerator_at unit table kept handle = if_enumerator (node_at unit handle) (part_at table kept handle)

-- only a name names one
abbrev pub if_name : NodeKind → Option Part → Option Part
if_name nodes.Name part = part
if_name kind part = None

-- Nodes

-- what is known of a node that asks for so many bytes
abbrev pub node_facts : NodeList NameId → TypeTable → List (Option NodeType) → (bytes : Option ℕ) → TreeNode NameId → NodeFacts
node_facts unit table kept bytes node =
    record {
      kind = node.kind;
      number = node.number;
      parts = map (λ child. part_at table kept child.0) node.children;
      enumerator = if_name node.kind (enumerator_at unit table kept node.number);
      offset = bytes;
    }

-- its constant
abbrev pub constant_of_node : NodeList NameId → TypeTable → List (Option NodeType) → (bytes : Option ℕ) → Option (TreeNode NameId) → Option Constant
constant_of_node unit table kept bytes None = None
constant_of_node unit table kept bytes (Some node) = node_constant (measured bytes) (node_facts unit table kept bytes node)

abbrev pub node_constant_at : NodeList NameId → TypeTable → List (Option NodeType) → (bytes : Option ℕ) → ℕ → Option Constant
node_constant_at unit table kept bytes handle = constant_of_node unit table kept bytes (node_at unit handle)

-- the answer: the kind of the constant, and its number modulo 2^64
abbrev pub folded_answer : Option Constant → Folded
folded_answer None = answers.NotConstant
folded_answer (Some constant) = answers.Value (record { kind = constant.kind; bits = bits_of_number constant.number })
