-- The constant of a node by the layouts and the members of a table of types.
use Rattle.std.specs.Prelude.{ℕ, Bool, true, false, List, Option, Some, None}
use Rattle.sparse_model.specs.declared.ids.NameId.{NameId}
use Rattle.meaning_tree.specs.Nodes.{TreeNode, NodeList}
use Rattle.c_types.specs.declared.nodes.NodeType.{NodeType}
use Rattle.c_types.specs.declared.outline.Outline.{Outline}
use Rattle.c_types.specs.declared.outline.Outline.TheVariants as outlines
use Rattle.c_types.specs.Layouts.{told_in}
use Rattle.c_types.specs.Table.{TypeTable}
use Rattle.c_layout.specs.Sizes.{bytes_of}
use Rattle.meaning_constants.specs.Constants.{Constant}
use Rattle.meaning_constants.specs.Nodes.{loaded_kind, node_constant}
use Rattle.meaning_constants.specs.Sizes.{Sizes, sizes_by}
use Rattle.const_fold.specs.Known.{node_at, node_facts}
use Rattle.const_fold.specs.Offsets.{offset_of_node}

-- the sizes and alignments that types have by the layouts of a table
abbrev pub sizes_in : TypeTable → Sizes
sizes_in table = sizes_by (told_in table)

-- a node's constant, where a `__builtin_offsetof` leads as far as its designators
abbrev pub sized_constant : NodeList NameId → TypeTable → List (Option NodeType) → Option (TreeNode NameId) → Option Constant
sized_constant unit table kept None = None
sized_constant unit table kept (Some node) =
    node_constant (sizes_in table) (node_facts unit table kept (offset_of_node unit table kept node) node)

abbrev pub sized_constant_at : NodeList NameId → TypeTable → List (Option NodeType) → ℕ → Option Constant
sized_constant_at unit table kept handle = sized_constant unit table kept (node_at unit handle)

-- void and a function, which have one byte
abbrev pub has_one_byte : Outline → Bool
has_one_byte outlines.Void = true
has_one_byte outlines.Function = true
has_one_byte outline = false

-- what is asked of the type of a place, as it is asked of what is loaded from there
abbrev pub field_bytes : (width : ℕ) → Outline → (whole : Option ℕ) → Option ℕ
field_bytes width (outlines.Integer kind) whole = Some (bytes_of (loaded_kind width kind))
field_bytes width outline whole = whole

abbrev pub loaded_bytes : (width : Option ℕ) → Outline → (whole : Option ℕ) → Option ℕ
loaded_bytes None outline whole = whole
loaded_bytes (Some width) outline whole = field_bytes width outline whole
