-- Units go on being units, and their nodes stand for trees.
use Rattle.std.proofs.Common.{◌≡◌, ℕ, ◌-◌, ◌<◌, ◌≤◌, List, [], ◌∷◌, ◌++◌, map, Result, Ok, Err, OnOk, OnErr, All, ◌≢◌, sym, ap, subst, ◌∙◌, arith}
use Rattle.std.proofs.lemmas.List.{map-append}
use Rattle.meaning_tree.specs.Nodes.{TreeNode, NodeList, end_of, joined, with_node}
use Rattle.meaning_tree.proofs.Finding.{end_of-added, end_of-joined, stand_before-added, stand_before-joined}
use Rattle.meaning_tree.proofs.Standing.{StandsFor-unique, tree_exists}
use Rattle.sparse_model.specs.declared.ids.NameId.{NameId}
use Rattle.c_tree.specs.declared.node.Node.{Node}
use Rattle.c_tree.specs.Seen.{node_of, list_of, most_nodes, IsUnitList, EachStandsForOneTree, IsFinished}

-- a unit that takes in a part is one
IsUnitList-joined : (list part : NodeList NameId) → part.first ≡ end_of list → IsUnitList list → IsUnitList part → IsUnitList (joined list part)
IsUnitList-joined list part begins unit behind = record {
  small = omega (arith, behind.small, end_of-joined list part begins);
  order = stand_before-joined list part begins unit.order behind.order;
}

-- so is one with a further node, where it has room
IsUnitList-added : (list : NodeList NameId) (node : TreeNode NameId) → IsUnitList list → end_of list ≢ most_nodes → All (λ child. (list.first ≤ child.0) × (child.0 < end_of list)) node.children → IsUnitList (with_node list node)
IsUnitList-added list node unit room children = record {
  small = omega (arith, room, unit.small, end_of-added list node);
  order = stand_before-added list node unit.order children;
}

-- the nodes of a unit and of the part behind it are those of a unit
pub IsUnitList-absorbs : (first begins : ℕ) (nodes more all : List Node) → begins ≡ end_of (list_of first nodes) → IsUnitList (list_of first nodes) → IsUnitList (list_of begins more) → all ≡ nodes ++ more → IsUnitList (list_of first all)
IsUnitList-absorbs first begins nodes more all is_behind unit behind is_all =
    subst (λ seen. IsUnitList (record { first = first; nodes = seen })) (sym (ap (map node_of) is_all ∙ map-append node_of nodes more))
    (IsUnitList-joined (list_of first nodes) (list_of begins more) is_behind unit behind)

-- so are those of a unit that a node was added to, or refused by
pub IsUnitList-adds : {A E : Type 0} (result : Result A E) (first : ℕ) (nodes all : List Node) (node : Node) → IsUnitList (list_of first nodes) → end_of (list_of first nodes) ≢ most_nodes → All (λ child. (first ≤ child.0) × (child.0 < end_of (list_of first nodes))) node.children → OnOk result (all ≡ nodes ++ node ∷ []) → OnErr result (all ≡ nodes) → IsUnitList (list_of first all)
IsUnitList-adds (Ok handle) first nodes all node unit room children added kept =
    subst (λ seen. IsUnitList (record { first = first; nodes = seen })) (sym (ap (map node_of) added ∙ map-append node_of nodes (node ∷ [])))
    (IsUnitList-added (list_of first nodes) (node_of node) unit room children)
IsUnitList-adds (Err refused) first nodes all node unit room children added kept = subst (λ seen. IsUnitList (list_of first seen)) (sym kept) unit

-- each node of a unit stands for one tree
pub each_stands_for_one : (list : NodeList NameId) → IsUnitList list → EachStandsForOneTree list
each_stands_for_one list unit handle from below =
    let (tree, stands) = tree_exists list unit.order handle from below in
    (tree, stands, λ other also. StandsFor-unique list handle tree other stands also)

-- the last one too
pub is_finished : (list : NodeList NameId) → IsUnitList list → IsFinished list
is_finished list unit some =
    let (tree, stands) = tree_exists list unit.order (end_of list - 1) (omega (arith, some)) (omega (arith, some)) in
    (tree, (some, stands))
