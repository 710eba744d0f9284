-- What holds of nodes and of the trees that they stand for, whatever names are.
use Rattle.std.specs.Prelude.{◌≡◌, ℕ, ◌+◌, ◌<◌, ◌≤◌, ◌↔◌, List, [], ◌∷◌, ◌++◌, Some, All}
use Rattle.vocabulary.specs.Roles.{role_of}
use Rattle.meaning_tree.specs.Trees.{Tree, Node, Parts, NoParts, Part, with_parts}
use Rattle.meaning_tree.specs.Nodes.{TreeNode, NodeList, end_of, HasNode, StandsFor, StandFor, ChildrenStandBefore, Grows, joined, with_node}
use Rattle.meaning_tree.specs.LookUps.{node_at}

-- a node stands for at most one tree
abbrev pub TreesAreUnique : Type 0 → Type 0
TreesAreUnique Spelling =
    (list : NodeList Spelling) (handle : ℕ) (tree other : Tree Spelling)
    → StandsFor list handle tree → StandsFor list handle other → tree ≡ other

-- so do children for parts
abbrev pub PartsAreUnique : Type 0 → Type 0
PartsAreUnique Spelling =
    (list : NodeList Spelling) (children : List (ℕ × ℕ)) (parts others : Parts Spelling)
    → StandFor list children parts → StandFor list children others → parts ≡ others

-- where children stand before their parents, each node stands for a tree
abbrev pub TreesExist : Type 0 → Type 0
TreesExist Spelling =
    (list : NodeList Spelling) → ChildrenStandBefore list
    → (handle : ℕ) → list.first ≤ handle → handle < end_of list → (tree : Tree Spelling) × StandsFor list handle tree

-- a list grows by nothing
abbrev pub GrowthIsReflexive : Type 0 → Type 0
GrowthIsReflexive Spelling = (list : NodeList Spelling) → Grows list list

-- by some nodes and then by more
abbrev pub GrowthIsTransitive : Type 0 → Type 0
GrowthIsTransitive Spelling =
    (before between after : NodeList Spelling) → Grows before between → Grows between after → Grows before after

-- by a node, which takes the next handle
abbrev pub AddedNodeGrows : Type 0 → Type 0
AddedNodeGrows Spelling =
    (list : NodeList Spelling) (node : TreeNode Spelling)
    → Grows list (with_node list node) × (end_of (with_node list node) ≡ end_of list + 1)

-- and by a part, and then ends where the part does
abbrev pub JoinedPartGrows : Type 0 → Type 0
JoinedPartGrows Spelling =
    (list part : NodeList Spelling) → part.first ≡ end_of list
    → Grows list (joined list part) × (end_of (joined list part) ≡ end_of part)

-- a node that stands for a tree goes on standing for it where nodes are added
abbrev pub TreesStay : Type 0 → Type 0
TreesStay Spelling =
    (before after : NodeList Spelling) → Grows before after
    → (handle : ℕ) (tree : Tree Spelling) → StandsFor before handle tree → StandsFor after handle tree

-- so do children for parts
abbrev pub PartsStay : Type 0 → Type 0
PartsStay Spelling =
    (before after : NodeList Spelling) → Grows before after
    → (children : List (ℕ × ℕ)) (parts : Parts Spelling) → StandFor before children parts → StandFor after children parts

-- and a node that was there before stands for nothing else than before
abbrev pub NoTreesCome : Type 0 → Type 0
NoTreesCome Spelling =
    (before after : NodeList Spelling) → ChildrenStandBefore before → Grows before after
    → (handle : ℕ) (tree : Tree Spelling) → before.first ≤ handle → handle < end_of before
    → StandsFor after handle tree → StandsFor before handle tree

-- what stands for a tree in a list stands for it where the list takes in a part
abbrev pub TreesStayInFront : Type 0 → Type 0
TreesStayInFront Spelling =
    (list part : NodeList Spelling) (handle : ℕ) (tree : Tree Spelling)
    → StandsFor list handle tree → StandsFor (joined list part) handle tree

-- and so does what stands for a tree in the part, which begins where the list ends
abbrev pub TreesStayBehind : Type 0 → Type 0
TreesStayBehind Spelling =
    (list part : NodeList Spelling) → part.first ≡ end_of list
    → (handle : ℕ) (tree : Tree Spelling) → StandsFor part handle tree → StandsFor (joined list part) handle tree

-- a node behind a list in which its children stand for parts makes the tree of its fields and these parts
abbrev pub AddedNodeStands : Type 0 → Type 0
AddedNodeStands Spelling =
    (list : NodeList Spelling) (node : TreeNode Spelling) (parts : Parts Spelling)
    → StandFor list node.children parts
    → StandsFor (with_node list node) (end_of list) (Node node.kind node.token node.name node.number parts)

-- a further child makes a further part
abbrev pub FurtherChildStands : Type 0 → Type 0
FurtherChildStands Spelling =
    (list : NodeList Spelling) (children : List (ℕ × ℕ)) (child : ℕ × ℕ) (parts : Parts Spelling) (tree : Tree Spelling)
    → StandFor list children parts → StandsFor list child.0 tree
    → StandFor list (children ++ child ∷ []) (with_parts parts (Part (role_of child.1) tree NoParts))

-- children stand before their parents where there are no nodes
abbrev pub NothingStandsBefore : Type 0 → Type 0
NothingStandsBefore Spelling = (first : ℕ) → ChildrenStandBefore {Spelling = Spelling} (record { first = first; nodes = [] })

-- children still stand before their parents behind a node whose children are in the list
abbrev pub AddedNodeStandsBehind : Type 0 → Type 0
AddedNodeStandsBehind Spelling =
    (list : NodeList Spelling) (node : TreeNode Spelling) → ChildrenStandBefore list
    → All (λ child. (list.first ≤ child.0) × (child.0 < end_of list)) node.children
    → ChildrenStandBefore (with_node list node)

-- and in a list that takes in a part where they do, too
abbrev pub JoinedStandBefore : Type 0 → Type 0
JoinedStandBefore Spelling =
    (list part : NodeList Spelling) → part.first ≡ end_of list
    → ChildrenStandBefore list → ChildrenStandBefore part → ChildrenStandBefore (joined list part)

-- Look-ups

-- a look-up answers the node that a handle has, and no other
abbrev pub LookUpsAreExact : Type 0 → Type 0
LookUpsAreExact Spelling =
    (list : NodeList Spelling) (handle : ℕ) (node : TreeNode Spelling) → (node_at list handle ≡ Some node) ↔ HasNode list handle node
