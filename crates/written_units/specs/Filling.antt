-- Where the run of each node begins, and how the runs of its parts fill it.
use Rattle.std.specs.Prelude.{◌≡◌, ℕ, ◌+◌, Bool, true, false, ◌&&◌, nat_eq, nat_lt, List, [], ◌∷◌, Option, Some, None, slice_get, get_or, All, if◌then◌else◌}
use Rattle.sparse_model.specs.declared.ids.NameId.{NameId}
use Rattle.tag_list.specs.Tagged.{IsTagged}
use Rattle.meaning_tree.specs.Nodes.{TreeNode}
use Rattle.meaning_unit_nodes.specs.Written.{is_suffix_kind}

-- the node is an array's size or a parameter list
abbrev pub is_suffix_node : Option (TreeNode NameId) → Bool
is_suffix_node None = false
is_suffix_node (Some node) = is_suffix_kind node.kind

abbrev pub suffix_at : List (TreeNode NameId) → (handle : ℕ) → Bool
suffix_at nodes handle = is_suffix_node (slice_get nodes handle)

-- the first node of a node's run, as it is kept
abbrev pub start_at : (starts : List ℕ) → (handle : ℕ) → ℕ
start_at starts handle = get_or starts handle 0

-- The runs of children fill the nodes from `low` up to `high`: each has the last of those that are left where it is written behind
-- what follows it, and else the first of them.
abbrev pub fills : List (TreeNode NameId) → (starts : List ℕ) → (low high : ℕ) → (children : List (ℕ × ℕ)) → Bool
fills nodes starts low high [] = nat_eq low high
fills nodes starts low high (child ∷ children) =
    nat_lt child.0 high
    && (if suffix_at nodes child.0 then nat_eq (child.0 + 1) high && fills nodes starts low (start_at starts child.0) children
    else nat_eq (start_at starts child.0) low && fills nodes starts (child.0 + 1) high children)

-- the runs of a node's children fill its own but for itself
abbrev pub IsFilled : List (TreeNode NameId) → (starts : List ℕ) → (start handle : ℕ) → Type 0
IsFilled nodes starts start handle =
    (node : TreeNode NameId) → slice_get nodes handle ≡ Some node → (fills nodes starts start handle node.children ≡ true) × All IsTagged node.children
