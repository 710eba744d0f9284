-- A look-up answers the node that a handle has.
use Rattle.std.proofs.Common.{◌≡◌, ◌↔◌, ℕ, ◌-◌, ◌<◌, ◌≤◌, Bool, true, false, Option, Some, None, slice_get, nat_lt, if◌then◌else◌, refl, arith}
use Rattle.std.proofs.lemmas.Bool.{ltb-true, ltb-false}
use Rattle.meaning_tree.specs.Nodes.{TreeNode, NodeList, HasNode}
use Rattle.meaning_tree.specs.LookUps.{node_at}

-- by whether the handle stands before the first one
found-cases :
    {Spelling : Type 0} (before : Bool) (first handle : ℕ) (found : Option (TreeNode Spelling)) (node : TreeNode Spelling)
    → (before ≡ true → handle < first) → (before ≡ false → first ≤ handle)
    → ((if before then None else found) ≡ Some node) ↔ ((first ≤ handle) × (found ≡ Some node))
found-cases true first handle found node below from =
    let is_below = below refl in ((λ is. absurd (cc is)), (λ has. absurd (omega (arith, has.0, is_below))))
found-cases false first handle found node below from = ((λ is. (from refl, is)), (λ has. has.1))

pub node_at-exact :
    {Spelling : Type 0} (list : NodeList Spelling) (handle : ℕ) (node : TreeNode Spelling) → (node_at list handle ≡ Some node) ↔ HasNode list handle node
node_at-exact list handle node =
    found-cases (nat_lt handle list.first) list.first handle (slice_get list.nodes (handle - list.first)) node (ltb-true handle list.first)
    (ltb-false handle list.first)
