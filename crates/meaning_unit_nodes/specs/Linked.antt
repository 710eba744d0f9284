-- Names that are linked with what declares them.
use Rattle.std.specs.Prelude.{◌≡◌, ℕ, ◌<◌, Bool, true, false, List, Some, slice_get}
use Rattle.vocabulary.specs.declared.node_kind.NodeKind.{NodeKind}
use Rattle.vocabulary.specs.declared.node_kind.NodeKind.TheVariants.{Declarator, Enumerator, Name}
use Rattle.meaning_tree.specs.Nodes.{TreeNode}

-- a node of this kind declares its name as an ordinary identifier (C11 6.2.3)
abbrev pub is_declaring : NodeKind → Bool
is_declaring Declarator = true
is_declaring Enumerator = true
is_declaring kind = false

-- the number of a name is the handle of a node that stands before it and declares this name
pub record HasLink {Spelling : Type 0} (nodes : List (TreeNode Spelling)) (handle : ℕ) (name : TreeNode Spelling) : Type 0 where
  pub before : name.number < handle
  pub declaration : TreeNode Spelling
  pub stands : slice_get nodes name.number ≡ Some declaration
  pub declares : is_declaring declaration.kind ≡ true
  pub same : declaration.name ≡ name.name

-- each name among the nodes, of which the first one has handle 0
abbrev pub AreLinked : {Spelling : Type 0} → List (TreeNode Spelling) → Type 0
AreLinked {Spelling} nodes = (handle : ℕ) (node : TreeNode Spelling) → slice_get nodes handle ≡ Some node → node.kind ≡ Name → HasLink nodes handle node
