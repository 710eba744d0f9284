-- Which trees nodes stand for.
use Rattle.std.proofs.Common.{◌≡◌, ℕ, zero, suc, ◌<◌, ◌≤◌, List, [], ◌∷◌, ◌++◌, refl, sym, subst, ◌∙◌, All, arith}
use Rattle.std.proofs.lemmas.List.Elements.{All-head, All-tail, All-weaker}
use Rattle.vocabulary.specs.Roles.{role_of}
use Rattle.meaning_tree.specs.Trees.{Tree, Node, Parts, NoParts, Part, with_parts}
use Rattle.meaning_tree.specs.Nodes.{TreeNode, NodeList, end_of, HasNode, StandsFor, StandFor, ChildrenStandBefore, Grows, joined, with_node}
use Rattle.meaning_tree.proofs.Finding.{node_unique, HasNode-exists, HasNode-grows, HasNode-joined_front, HasNode-joined_part, HasNode-added, Grows-added}

-- One tree

-- trees are equal where their fields are
same_node :
    {Spelling : Type 0} (node other : TreeNode Spelling) (parts others : Parts Spelling) → node ≡ other → parts ≡ others
    → Node node.kind node.token node.name node.number parts ≡ Node other.kind other.token other.name other.number others
same_node node other parts others is parts_are = cc

mutual
  -- a node stands for at most one tree
  pub StandsFor-unique :
      {Spelling : Type 0} (list : NodeList Spelling) (handle : ℕ) (tree other : Tree Spelling) → StandsFor list handle tree → StandsFor list handle other → tree ≡ other
  StandsFor-unique list handle (Node kind token name number parts) (Node kind' token' name' number' parts') stands also =
      let same = node_unique list handle _ _ stands.1 also.1 in
      same_node _ _ parts parts' same (StandFor-unique list also.0 parts parts' (subst (λ node. StandFor list node.children parts) same stands.2) also.2)

  -- children make at most one list of parts
  pub StandFor-unique :
      {Spelling : Type 0} (list : NodeList Spelling) (children : List (ℕ × ℕ)) (parts others : Parts Spelling) → StandFor list children parts
      → StandFor list children others → parts ≡ others
  StandFor-unique list [] NoParts NoParts stand also = refl
  StandFor-unique list [] NoParts (Part role tree parts) stand also = absurd also
  StandFor-unique list [] (Part role tree parts) others stand also = absurd stand
  StandFor-unique list (child ∷ children) NoParts others stand also = absurd stand
  StandFor-unique list (child ∷ children) (Part role tree parts) NoParts stand also = absurd also
  StandFor-unique list (child ∷ children) (Part role tree parts) (Part role' tree' parts') stand also =
      let roles = stand.0 ∙ sym also.0 in
      let trees = StandsFor-unique list child.0 tree tree' stand.1 also.1 in
      let rest = StandFor-unique list children parts parts' stand.2 also.2 in
      cc

-- A tree for each node

-- children make parts where each of them stands for a tree
parts_exist :
    {Spelling : Type 0} (list : NodeList Spelling) (children : List (ℕ × ℕ)) → All (λ child. (tree : Tree Spelling) × StandsFor list child.0 tree) children
    → (parts : Parts Spelling) × StandFor list children parts
parts_exist list [] stand = (NoParts, tt)
parts_exist list (child ∷ children) stand =
    let first = All-head (λ child. (tree : Tree _) × StandsFor list child.0 tree) child children stand in
    let others = parts_exist list children (All-tail (λ child. (tree : Tree _) × StandsFor list child.0 tree) child children stand) in
    (Part (role_of child.1) first.0 others.0, (refl, first.1, others.1))

-- each node whose handle is below a bound stands for a tree
tree_below :
    {Spelling : Type 0} (list : NodeList Spelling) → ChildrenStandBefore list → (bound handle : ℕ) → handle < bound → list.first ≤ handle → handle < end_of list
    → (tree : Tree Spelling) × StandsFor list handle tree
tree_below list order zero handle below from inside = absurd (omega (arith, below))
tree_below {Spelling} list order (suc bound) handle below from inside =
    let (node, has) = HasNode-exists list handle from inside in
    let (parts, stand) = parts_exist list node.children (All-weaker
    (λ child. (list.first ≤ child.0) × (child.0 < handle)) (λ child. (tree : Tree Spelling) × StandsFor list child.0 tree)
    (λ child stands. tree_below list order bound child.0 (omega (arith, below, stands.1)) stands.0 (omega (arith, inside, stands.1)))
    node.children (order handle node has)) in
    (Node node.kind node.token node.name node.number parts, (node.children, has, stand))

-- where children stand before their parents each node stands for a tree
pub tree_exists :
    {Spelling : Type 0} (list : NodeList Spelling) → ChildrenStandBefore list → (handle : ℕ) → list.first ≤ handle → handle < end_of list
    → (tree : Tree Spelling) × StandsFor list handle tree
tree_exists list order handle from inside = tree_below list order (suc handle) handle (omega arith) from inside

-- Trees stay

-- each node of a list keeps its handle in another
abbrev pub NodesStay : {Spelling : Type 0} → NodeList Spelling → NodeList Spelling → Type 0
NodesStay {Spelling} before after = (handle : ℕ) (node : TreeNode Spelling) → HasNode before handle node → HasNode after handle node

mutual
  -- a node that stands for a tree does so where each node keeps its handle
  pub StandsFor-stays :
      {Spelling : Type 0} (before after : NodeList Spelling) → NodesStay before after → (handle : ℕ) (tree : Tree Spelling) → StandsFor before handle tree
      → StandsFor after handle tree
  StandsFor-stays before after stay handle (Node kind token name number parts) stands =
      (stands.0, stay handle _ stands.1, StandFor-stays before after stay stands.0 parts stands.2)

  -- so do children for parts
  pub StandFor-stays :
      {Spelling : Type 0} (before after : NodeList Spelling) → NodesStay before after → (children : List (ℕ × ℕ)) (parts : Parts Spelling)
      → StandFor before children parts → StandFor after children parts
  StandFor-stays before after stay [] NoParts stand = tt
  StandFor-stays before after stay [] (Part role tree parts) stand = absurd stand
  StandFor-stays before after stay (child ∷ children) NoParts stand = absurd stand
  StandFor-stays before after stay (child ∷ children) (Part role tree parts) stand =
      (stand.0, StandsFor-stays before after stay child.0 tree stand.1, StandFor-stays before after stay children parts stand.2)

-- a tree stays where nodes are added
pub StandsFor-grows :
    {Spelling : Type 0} (before after : NodeList Spelling) → Grows before after → (handle : ℕ) (tree : Tree Spelling) → StandsFor before handle tree
    → StandsFor after handle tree
StandsFor-grows before after grows = StandsFor-stays before after (HasNode-grows before after grows)

-- so do parts
pub StandFor-grows :
    {Spelling : Type 0} (before after : NodeList Spelling) → Grows before after → (children : List (ℕ × ℕ)) (parts : Parts Spelling)
    → StandFor before children parts → StandFor after children parts
StandFor-grows before after grows = StandFor-stays before after (HasNode-grows before after grows)

-- and no other tree comes
pub StandsFor-grown :
    {Spelling : Type 0} (before after : NodeList Spelling) → ChildrenStandBefore before → Grows before after → (handle : ℕ) (tree : Tree Spelling)
    → before.first ≤ handle → handle < end_of before → StandsFor after handle tree → StandsFor before handle tree
StandsFor-grown before after order grows handle tree from inside stands =
    let (old, stood) = tree_exists before order handle from inside in
    subst (StandsFor before handle) (StandsFor-unique after handle old tree (StandsFor-grows before after grows handle old stood) stands) stood

-- a tree of the front stays in a joined list
pub StandsFor-joined_front :
    {Spelling : Type 0} (list part : NodeList Spelling) (handle : ℕ) (tree : Tree Spelling) → StandsFor list handle tree → StandsFor (joined list part) handle tree
StandsFor-joined_front list part = StandsFor-stays list (joined list part) (HasNode-joined_front list part)

-- so does a tree of the part behind
pub StandsFor-joined_part :
    {Spelling : Type 0} (list part : NodeList Spelling) → part.first ≡ end_of list → (handle : ℕ) (tree : Tree Spelling) → StandsFor part handle tree
    → StandsFor (joined list part) handle tree
StandsFor-joined_part list part begins = StandsFor-stays part (joined list part) (HasNode-joined_part list part begins)

-- One more node

-- a node behind its children stands for the tree of its fields and of their parts
pub StandsFor-added :
    {Spelling : Type 0} (list : NodeList Spelling) (node : TreeNode Spelling) (parts : Parts Spelling) → StandFor list node.children parts
    → StandsFor (with_node list node) (end_of list) (Node node.kind node.token node.name node.number parts)
StandsFor-added list node parts stand =
    (node.children, HasNode-added list node, StandFor-grows list (with_node list node) (Grows-added list node) node.children parts stand)

-- children behind others make parts behind the others' parts
pub StandFor-append :
    {Spelling : Type 0} (list : NodeList Spelling) (children more : List (ℕ × ℕ)) (parts others : Parts Spelling) → StandFor list children parts
    → StandFor list more others → StandFor list (children ++ more) (with_parts parts others)
StandFor-append list [] more NoParts others stand further = further
StandFor-append list [] more (Part role tree parts) others stand further = absurd stand
StandFor-append list (child ∷ children) more NoParts others stand further = absurd stand
StandFor-append list (child ∷ children) more (Part role tree parts) others stand further =
    (stand.0, stand.1, StandFor-append list children more parts others stand.2 further)

-- one more child makes one more part
pub StandFor-push :
    {Spelling : Type 0} (list : NodeList Spelling) (children : List (ℕ × ℕ)) (child : ℕ × ℕ) (parts : Parts Spelling) (tree : Tree Spelling)
    → StandFor list children parts → StandsFor list child.0 tree → StandFor list (children ++ child ∷ []) (with_parts parts (Part (role_of child.1) tree NoParts))
StandFor-push list children child parts tree stand stands =
    StandFor-append list children (child ∷ []) parts (Part (role_of child.1) tree NoParts) stand (refl, stands, tt)
