-- What a tool that folds nodes keeps of them.
use Rattle.std.specs.Prelude.{◌≡◌, ℕ, ◌≤◌, ◌<◌, All, List, Option}
use Rattle.sparse_model.specs.declared.ids.NameId.{NameId}
use Rattle.meaning_tree.specs.Nodes.{NodeList, end_of}
use Rattle.c_types.specs.declared.nodes.NodeType.{NodeType}
use Rattle.c_types.specs.Table.{TypeTable}
use Rattle.const_fold.specs.Known.{IsKnownNode}

-- the unit begins with handle 0, and each node that is kept has a type of the table
pub record IsFolding (table : TypeTable) (unit : NodeList NameId) (kept : List (Option NodeType)) : Type 0 where
  pub whole : unit.first ≡ 0
  pub known : All (IsKnownNode table) kept

-- the handle is that of a node
abbrev pub IsHandleIn : NodeList NameId → ℕ → Type 0
IsHandleIn unit handle = (unit.first ≤ handle) × (handle < end_of unit)

abbrev pub AreHandlesIn : NodeList NameId → List (ℕ × ℕ) → Type 0
AreHandlesIn unit children = All (λ child. IsHandleIn unit child.0) children
