-- Look-ups in a list of nodes that always answer.
use Rattle.std.specs.Prelude.{ℕ, ◌-◌, Option, None, slice_get, nat_lt, if◌then◌else◌}
use Rattle.std.specs.Option.{option_and_then}
use Rattle.meaning_tree.specs.Nodes.{TreeNode, NodeList}

-- the node with this handle, if the list has it
abbrev pub node_at : {Spelling : Type 0} → NodeList Spelling → ℕ → Option (TreeNode Spelling)
node_at list handle = if nat_lt handle list.first then None else slice_get list.nodes (handle - list.first)

-- the child at this place of a node, counted from 0, with its tag, if there is one
abbrev pub child_at : {Spelling : Type 0} → NodeList Spelling → (parent place : ℕ) → Option (ℕ × ℕ)
child_at list parent place = option_and_then (λ node. slice_get node.children place) (node_at list parent)
