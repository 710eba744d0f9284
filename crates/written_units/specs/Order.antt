-- What holds of the nodes of a unit that stand in the order in which they are written.
use Rattle.std.specs.Prelude.{◌≡◌, ℕ, ◌<◌, List, All}
use Rattle.sparse_model.specs.declared.ids.NameId.{NameId}
use Rattle.meaning_tree.specs.Trees.{SyntaxTree}
use Rattle.meaning_tree.specs.Nodes.{NodeList, IsTreeOf}
use Rattle.meaning_tree.specs.Listed.{renamed_list}
use Rattle.meaning_unit_nodes.specs.Written.{nodes_in}

-- however ids are spelled, the nodes are those of the tree that they stand for
abbrev pub AreWritten : NodeList NameId → Type 0
AreWritten list =
    (spelled : NameId → List ℕ) (tree : SyntaxTree) → IsTreeOf (renamed_list spelled list) tree → (renamed_list spelled list).nodes ≡ nodes_in tree

-- the ids of all names are below this bound
abbrev pub AreNamedBelow : (names : ℕ) → NodeList NameId → Type 0
AreNamedBelow names list = All (λ node. node.name.0 < names) list.nodes
