-- Which node has a handle, in a list and in the lists that are made of it.
use Rattle.std.proofs.Common.{◌≡◌, ℕ, zero, suc, ◌+◌, ◌-◌, ◌<◌, ◌≤◌, List, [], ◌∷◌, ◌++◌, length, Some, slice_get, ◌⊎◌, inl, inr, ⊎_elim, refl, sym, ap, ap₂, subst, ◌∙◌, All, arith, append-nil, append_assoc, length-append}
use Rattle.std.proofs.lemmas.Option.{same_Some, slice_get_within, slice_get_cases}
use Rattle.std.proofs.lemmas.List.Elements.{All-weaker}
use Rattle.meaning_tree.specs.Nodes.{TreeNode, NodeList, end_of, HasNode, ChildrenStandBefore, Grows, joined, with_node}

-- Lists

-- an element stays where more are put behind it
slice_get-append_left : {X : Type 0} (xs ys : List X) (k : ℕ) (x : X) → slice_get xs k ≡ Some x → slice_get (xs ++ ys) k ≡ Some x
slice_get-append_left [] ys k x is = absurd (omega (arith, slice_get_within [] k x is))
slice_get-append_left (y ∷ xs) ys zero x is = is
slice_get-append_left (y ∷ xs) ys (suc k) x is = slice_get-append_left xs ys k x is

-- an element moves by as many as are put before it
slice_get-append_right : {X : Type 0} (xs ys : List X) (k i : ℕ) → i ≡ length xs + k → slice_get (xs ++ ys) i ≡ slice_get ys k
slice_get-append_right [] ys k i is = ap (slice_get ys) (omega (arith, is))
slice_get-append_right (x ∷ xs) ys k zero is = absurd (omega (arith, is))
slice_get-append_right (x ∷ xs) ys k (suc i) is = slice_get-append_right xs ys k i (omega (arith, is))

-- Handles

-- a handle has one node
pub node_unique :
    {Spelling : Type 0} (list : NodeList Spelling) (handle : ℕ) (node other : TreeNode Spelling) → HasNode list handle node → HasNode list handle other → node ≡ other
node_unique list handle node other has also = same_Some node other (sym has.1 ∙ also.1)

-- each handle of the list has a node
pub HasNode-exists :
    {Spelling : Type 0} (list : NodeList Spelling) (handle : ℕ) → list.first ≤ handle → handle < end_of list → (node : TreeNode Spelling) × HasNode list handle node
HasNode-exists list handle from below =
    ⊎_elim
    (λ within. (within.0, (from, within.2)))
    (λ past. absurd (omega (arith, from, below, past.0)))
    (slice_get_cases list.nodes (handle - list.first)).1

-- Growth

-- a list grows by nothing
pub Grows-refl : {Spelling : Type 0} (list : NodeList Spelling) → Grows list list
Grows-refl list = (refl, ([], sym (append-nil list.nodes)))

-- by some nodes and then by more
pub Grows-trans : {Spelling : Type 0} (before between after : NodeList Spelling) → Grows before between → Grows between after → Grows before after
Grows-trans before between after first then = (
  then.0 ∙ first.0,
  (first.1.0 ++ then.1.0, then.1.1 ∙ ap (λ nodes. nodes ++ then.1.0) first.1.1 ∙ append_assoc before.nodes first.1.0 then.1.0),
)

-- by a node
pub Grows-added : {Spelling : Type 0} (list : NodeList Spelling) (node : TreeNode Spelling) → Grows list (with_node list node)
Grows-added list node = (refl, (node ∷ [], refl))

-- and by a part
pub Grows-joined : {Spelling : Type 0} (list part : NodeList Spelling) → Grows list (joined list part)
Grows-joined list part = (refl, (part.nodes, refl))

-- a node takes one handle
pub end_of-added : {Spelling : Type 0} (list : NodeList Spelling) (node : TreeNode Spelling) → end_of (with_node list node) ≡ end_of list + 1
end_of-added list node = omega (arith, length-append list.nodes (node ∷ []))

-- a joined list ends where the part does
pub end_of-joined : {Spelling : Type 0} (list part : NodeList Spelling) → part.first ≡ end_of list → end_of (joined list part) ≡ end_of part
end_of-joined list part begins = omega (arith, begins, length-append list.nodes part.nodes)

-- a node keeps its handle where nodes are added
pub HasNode-grows :
    {Spelling : Type 0} (before after : NodeList Spelling) → Grows before after → (handle : ℕ) (node : TreeNode Spelling) → HasNode before handle node
    → HasNode after handle node
HasNode-grows before after grows handle node has = (
  omega (arith, grows.0, has.0),
  ap₂ slice_get grows.1.1 (ap (λ first. handle - first) grows.0) ∙ slice_get-append_left before.nodes grows.1.0 (handle - before.first) node has.1,
)

-- a node of the front keeps its handle in a joined list
pub HasNode-joined_front :
    {Spelling : Type 0} (list part : NodeList Spelling) (handle : ℕ) (node : TreeNode Spelling) → HasNode list handle node → HasNode (joined list part) handle node
HasNode-joined_front list part = HasNode-grows list (joined list part) (Grows-joined list part)

-- so does a node of the part behind
pub HasNode-joined_part :
    {Spelling : Type 0} (list part : NodeList Spelling) → part.first ≡ end_of list → (handle : ℕ) (node : TreeNode Spelling) → HasNode part handle node
    → HasNode (joined list part) handle node
HasNode-joined_part list part begins handle node has = (
  omega (arith, begins, has.0),
  slice_get-append_right list.nodes part.nodes (handle - part.first) (handle - list.first) (omega (arith, begins, has.0)) ∙ has.1,
)

-- and the joined list has no other nodes
pub HasNode-joined_cases :
    {Spelling : Type 0} (list part : NodeList Spelling) → part.first ≡ end_of list → (handle : ℕ) (node : TreeNode Spelling)
    → HasNode (joined list part) handle node → HasNode list handle node ⊎ HasNode part handle node
HasNode-joined_cases list part begins handle node has =
    ⊎_elim
    (λ within. inl (has.0, within.2 ∙ sym (slice_get-append_left list.nodes part.nodes (handle - list.first) within.0 within.2) ∙ has.1))
    (λ past. inr (
      omega (arith, begins, has.0, past.0),
      sym (slice_get-append_right list.nodes part.nodes (handle - part.first) (handle - list.first) (omega (arith, begins, has.0, past.0))) ∙ has.1,
    ))
    (slice_get_cases list.nodes (handle - list.first)).1

-- Order

-- children stand before their parents where there are no nodes
pub stand_before-nil : {Spelling : Type 0} (first : ℕ) → ChildrenStandBefore {Spelling = Spelling} (record { first = first; nodes = [] })
stand_before-nil first handle node has = absurd (omega (arith, slice_get_within [] (handle - first) node has.1))

-- and where a part is joined in which they do, too
pub stand_before-joined :
    {Spelling : Type 0} (list part : NodeList Spelling) → part.first ≡ end_of list → ChildrenStandBefore list → ChildrenStandBefore part
    → ChildrenStandBefore (joined list part)
stand_before-joined list part begins front behind handle node has =
    ⊎_elim
    (λ of_list. front handle node of_list)
    (λ of_part. All-weaker (λ child. (part.first ≤ child.0) × (child.0 < handle)) (λ child. (list.first ≤ child.0) × (child.0 < handle))
    (λ child stands. (omega (arith, begins, stands.0), stands.1)) node.children (behind handle node of_part))
    (HasNode-joined_cases list part begins handle node has)

-- a node that is added has the next handle
pub HasNode-added : {Spelling : Type 0} (list : NodeList Spelling) (node : TreeNode Spelling) → HasNode (with_node list node) (end_of list) node
HasNode-added list node = (omega arith, slice_get-append_right list.nodes (node ∷ []) 0 (end_of list - list.first) (omega arith))

-- where there is one node, it has the first handle
HasNode-alone :
    {Spelling : Type 0} (first : ℕ) (node : TreeNode Spelling) (handle : ℕ) (other : TreeNode Spelling)
    → HasNode (record { first = first; nodes = node ∷ [] }) handle other → (first ≡ handle) × (node ≡ other)
HasNode-alone {Spelling} first node handle other has =
    let is_first : first ≡ handle = omega (arith, has.0, slice_get_within (node ∷ []) (handle - first) other has.1) in
    (is_first, same_Some node other (subst (λ k. slice_get {X = TreeNode Spelling} (node ∷ []) k ≡ Some other) (alone is_first) has.1))
  where
    alone : first ≡ handle → handle - first ≡ 0
    alone is_first = omega (arith, is_first)

-- children stand before their parents where one node is added, whose children are in the list
pub stand_before-added :
    {Spelling : Type 0} (list : NodeList Spelling) (node : TreeNode Spelling) → ChildrenStandBefore list
    → All (λ child. (list.first ≤ child.0) × (child.0 < end_of list)) node.children → ChildrenStandBefore (with_node list node)
stand_before-added list node order children handle other has =
    ⊎_elim
    (λ of_list. order handle other of_list)
    (λ of_part.
    let (is_last, is_node) = HasNode-alone (end_of list) node handle other of_part in
    subst (λ end. All (λ child. (list.first ≤ child.0) × (child.0 < end)) other.children) is_last
    (subst (λ added. All (λ child. (list.first ≤ child.0) × (child.0 < end_of list)) added.children) is_node children))
    (HasNode-joined_cases list (record { first = end_of list; nodes = node ∷ [] }) refl handle other has)
