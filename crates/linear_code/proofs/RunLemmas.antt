-- The nodes of a tree are one run of the list: it begins with the least child of the least child, and so on.
use Rattle.std.proofs.Common.{◌≡◌, ℕ, zero, suc, ◌<◌, ◌≤◌, ◌⊎◌, inl, inr, Bool, true, false, nat_lt, List, [], ◌∷◌, Option, Some, None, slice_get, if◌then◌else◌, refl, sym, ap, subst, ◌∙◌, arith}
use Rattle.std.specs.Option.{option_and_then}
use Rattle.std.proofs.lemmas.Bool.{le-ltb, lt-ltb, cases_lt}
use Rattle.std.proofs.lemmas.List.Elements.{All-get_or}
use Rattle.std.proofs.lemmas.Option.{none-some, same_Some, option_and_then_some, slice_get_within, get_or_from_slice_get}
use Rattle.sparse_model.specs.declared.ids.NameId.{NameId}
use Rattle.meaning_tree.specs.Nodes.{TreeNode, NodeList, HasNode, ChildrenStandBefore, end_of}
use Rattle.meaning_tree.specs.LookUps.{child_at, node_at as found_at}
use Rattle.meaning_tree.specs.Laid.{IsChildAt, IsLaid, IsWithin, itself, in_child}
use Rattle.c_tree.specs.Seen.{EachStandsForOneTree}
use Rattle.linear_code.specs.Run.{IsRunFrom, least_from, lesser}

-- The least of children

pub record IsLeastOf (least bound : ℕ) (children : List (ℕ × ℕ)) : Type 0 where
  pub small : least ≤ bound
  pub each : (k : ℕ) (child : ℕ × ℕ) → slice_get children k ≡ Some child → least ≤ child.0
  pub one : (least ≡ bound) ⊎ ((k : ℕ) × (child : ℕ × ℕ) × (slice_get children k ≡ Some child) × (child.0 ≡ least))

lesser-is : (bound handle : ℕ) → (lesser (Some bound) handle ≤ bound) × (lesser (Some bound) handle ≤ handle)
    × ((lesser (Some bound) handle ≡ bound) ⊎ (lesser (Some bound) handle ≡ handle))
lesser-is bound handle =
    elim (cases_lt bound handle) [
      | inl below ↦
          subst (λ (k : ℕ). (k ≤ bound) × (k ≤ handle) × ((k ≡ bound) ⊎ (k ≡ handle))) (sym (ap (λ test. if test then bound else handle) (lt-ltb bound handle below)))
          (omega arith, omega (arith, below), inl refl)
      | inr past ↦
          subst (λ (k : ℕ). (k ≤ bound) × (k ≤ handle) × ((k ≡ bound) ⊎ (k ≡ handle))) (sym (ap (λ test. if test then bound else handle) (le-ltb bound handle past)))
          (omega (arith, past), omega arith, inr refl)
    ]

least-some : (bound : ℕ) (children : List (ℕ × ℕ)) → (least : ℕ) × (least_from (Some bound) children ≡ Some least) × IsLeastOf least bound children
least-some bound [] = (bound, refl, record { small = omega arith; each = λ k child has. absurd (none-some child has); one = inl refl })
least-some bound (first ∷ children) =
    let rest = least-some (lesser (Some bound) first.0) children in
    let is = lesser-is bound first.0 in (
      rest.0,
      rest.1,
      record {
        small = omega (arith, rest.2.small, is.0);
        each = each rest.0 (omega (arith, rest.2.small, is.1)) rest.2.each;
        one = one rest.0 is.2 rest.2.one;
      },
    )
  where
    each : (least : ℕ) → least ≤ first.0 → ((k : ℕ) (child : ℕ × ℕ) → slice_get children k ≡ Some child → least ≤ child.0)
        → (k : ℕ) (child : ℕ × ℕ) → slice_get (first ∷ children) k ≡ Some child → least ≤ child.0
    each least small others zero child has = subst (λ (c : ℕ × ℕ). least ≤ c.0) (same_Some first child has) small
    each least small others (suc k) child has = others k child has

    one : (least : ℕ) → (lesser (Some bound) first.0 ≡ bound) ⊎ (lesser (Some bound) first.0 ≡ first.0)
        → (least ≡ lesser (Some bound) first.0) ⊎ ((k : ℕ) × (child : ℕ × ℕ) × (slice_get children k ≡ Some child) × (child.0 ≡ least))
        → (least ≡ bound) ⊎ ((k : ℕ) × (child : ℕ × ℕ) × (slice_get (first ∷ children) k ≡ Some child) × (child.0 ≡ least))
    one least which (inr found) = inr (suc found.0, found.1, found.2, found.3)
    one least (inl bounded) (inl same) = inl (same ∙ bounded)
    one least (inr new) (inl same) = inr (zero, first, refl, sym (same ∙ new))

-- of the children of a node, where one is found
pub least-found : (children : List (ℕ × ℕ)) (least : ℕ) → least_from None children ≡ Some least
    → ((k : ℕ) × (child : ℕ × ℕ) × (slice_get children k ≡ Some child) × (child.0 ≡ least))
    × ((k : ℕ) (child : ℕ × ℕ) → slice_get children k ≡ Some child → least ≤ child.0)
least-found [] least is = absurd (none-some least is)
least-found (first ∷ children) least is =
    let found = least-some first.0 children in
    let same : found.0 ≡ least = same_Some found.0 least (sym found.1 ∙ is) in
    let all : IsLeastOf least first.0 children = subst (λ (k : ℕ). IsLeastOf k first.0 children) same found.2 in
    (one all.one, each all.small all.each)
  where
    one : (least ≡ first.0) ⊎ ((k : ℕ) × (child : ℕ × ℕ) × (slice_get children k ≡ Some child) × (child.0 ≡ least))
        → (k : ℕ) × (child : ℕ × ℕ) × (slice_get (first ∷ children) k ≡ Some child) × (child.0 ≡ least)
    one (inl same) = (zero, first, refl, sym same)
    one (inr found) = (suc found.0, found.1, found.2, found.3)

    each : least ≤ first.0 → ((k : ℕ) (child : ℕ × ℕ) → slice_get children k ≡ Some child → least ≤ child.0)
        → (k : ℕ) (child : ℕ × ℕ) → slice_get (first ∷ children) k ≡ Some child → least ≤ child.0
    each small others zero child has = subst (λ (c : ℕ × ℕ). least ≤ c.0) (same_Some first child has) small
    each small others (suc k) child has = others k child has

-- and where none is, there are none
pub least-none : (children : List (ℕ × ℕ)) → least_from None children ≡ None → children ≡ []
least-none [] is = refl
least-none (first ∷ children) is =
    let found = least-some first.0 children in
    absurd (none-some found.0 (sym is ∙ found.1))

-- Trees

module _ (list : NodeList NameId) (whole : list.first ≡ 0) (order : ChildrenStandBefore list) where
  found-by : (before : Bool) (one other : Option (TreeNode NameId)) → before ≡ false → one ≡ other → (if before then None else one) ≡ other
  found-by true one other is same = absurd (cc is)
  found-by false one other is same = same

  found-is : (handle : ℕ) → found_at list handle ≡ slice_get list.nodes handle
  found-is handle = found-by (nat_lt handle list.first) _ _ (le-ltb handle list.first (omega (arith, whole))) (ap (slice_get list.nodes) (omega (arith, whole)))

  -- the children of a node are those in its list
  pub child-is : (parent place : ℕ) (node : TreeNode NameId) → HasNode list parent node → child_at list parent place ≡ slice_get node.children place
  child-is parent place node has =
      ap (option_and_then (λ (n : TreeNode NameId). slice_get n.children place)) (found-is parent ∙ ap (slice_get list.nodes) (omega (arith, whole)) ∙ has.1)

  pub child-below : (parent place child : ℕ) → IsChildAt list parent place child → child < parent
  child-below parent place child has =
      option_and_then_some (λ (node : TreeNode NameId). slice_get node.children place) (found_at list parent) (child, has.0) has.1
      (λ node found at.
      let one : HasNode list parent node = (omega (arith, whole), ap (slice_get list.nodes) (omega (arith, whole)) ∙ sym (found-is parent) ∙ found) in
      (subst (λ (c : ℕ × ℕ). (list.first ≤ c.0) × (c.0 < parent)) (get_or_from_slice_get node.children place (child, has.0) (child, has.0) at)
      (All-get_or (λ (c : ℕ × ℕ). (list.first ≤ c.0) × (c.0 < parent)) node.children place (child, has.0)
      (slice_get_within node.children place (child, has.0) at) (order parent node one))).1)

  pub within-le : (root part : ℕ) → IsWithin list root part → part ≤ root
  within-le root _ itself = omega arith
  within-le root part (in_child place child has within) = omega (arith, child-below root place child has, within-le child part within)

  pub within-trans : (root middle part : ℕ) → IsWithin list root middle → IsWithin list middle part → IsWithin list root part
  within-trans root _ part itself next = next
  within-trans root middle part (in_child place child has within) next = in_child place child has (within-trans child middle part within next)

  -- a node of a tree is its root, or the child of one
  last-step : (root part : ℕ) → IsWithin list root part → (part ≡ root) ⊎ ((parent : ℕ) × (place : ℕ) × IsWithin list root parent × IsChildAt list parent place part)
  last-step root _ itself = inl refl
  last-step root part (in_child place child has within) = through (last-step child part within)
    where
      through : (part ≡ child) ⊎ ((parent : ℕ) × (at : ℕ) × IsWithin list child parent × IsChildAt list parent at part)
          → (part ≡ root) ⊎ ((parent : ℕ) × (at : ℕ) × IsWithin list root parent × IsChildAt list parent at part)
      through (inl same) = inr (root, place, itself, subst (IsChildAt list root place) (sym same) has)
      through (inr found) = inr (found.0, found.1, in_child place child has found.2, found.3)

  first-step : (root part : ℕ) → IsWithin list root part → (part ≡ root) ⊎ ((place : ℕ) × (child : ℕ) × IsChildAt list root place child × IsWithin list child part)
  first-step root _ itself = inl refl
  first-step root part (in_child place child has within) = inr (place, child, has, within)

  module _ (laid : IsLaid list) (trees : EachStandsForOneTree list) where
    -- what stands between a node of a tree and its root is of the tree
    pub between : (root part k : ℕ) → root < end_of list → IsWithin list root part → part ≤ k → k ≤ root → IsWithin list root k
    between root part k inside within from to =
        let tree = trees root (omega (arith, whole)) inside in
        let run = ((laid.runs root part tree.0 tree.1).0 within).0 in
        (laid.runs root k tree.0 tree.1).1 (omega (arith, run, from), to)

    -- the nodes of a tree before one of its nodes are of the tree of that one
    abbrev pub IsBegunBy : (root first : ℕ) → Type 0
    IsBegunBy root first = (part : ℕ) → IsWithin list root part → part < first → IsWithin list first part

    -- a child of a node that stands in the tree of a later child is none
    apart : (first least place other elsewhere : ℕ) → first < end_of list → IsChildAt list first place least → IsChildAt list first elsewhere other
        → least < other → IsWithin list other least → ⊥
    apart first least place other elsewhere inside has also below within = by (last-step other least within)
      where
        by : (least ≡ other) ⊎ ((parent : ℕ) × (at : ℕ) × IsWithin list other parent × IsChildAt list parent at least) → ⊥
        by (inl same) = omega (arith, same, below)
        by (inr found) =
            let one = laid.parents least (omega (arith, whole)) (omega (arith, child-below first place least has, inside)) in
            let this = (one.3 first place has).0 in
            let that = (one.3 found.0 found.1 found.3).0 in
            omega (arith, this, that, within-le other found.0 found.2, child-below first elsewhere other also)

    -- the least child begins it as well
    pub next-begins : (root first least : ℕ) (node : TreeNode NameId) → root < end_of list → HasNode list first node → least_from None node.children ≡ Some least
        → IsWithin list root first → IsBegunBy root first → IsBegunBy root least
    next-begins root first least node inside has is within begun = λ part of_root below. by part below (first-step first part (begun part of_root (omega (arith, below, least-below))))
      where
        found : ((k : ℕ) × (child : ℕ × ℕ) × (slice_get node.children k ≡ Some child) × (child.0 ≡ least))
            × ((k : ℕ) (child : ℕ × ℕ) → slice_get node.children k ≡ Some child → least ≤ child.0)
        found = least-found node.children least is

        least-child : IsChildAt list first found.0.0 least
        least-child = subst (IsChildAt list first found.0.0) found.0.3 (found.0.1.1, child-is first found.0.0 node has ∙ found.0.2)

        least-below : least < first
        least-below = child-below first found.0.0 least least-child

        first-inside : first < end_of list
        first-inside = omega (arith, within-le root first within, inside)

        by : (part : ℕ) → part < least → (part ≡ first) ⊎ ((place : ℕ) × (child : ℕ) × IsChildAt list first place child × IsWithin list child part) → IsWithin list least part
        by part below (inl same) = absurd (omega (arith, same, below, least-below))
        by part below (inr (place, child, at, of_child)) =
            let order : least ≤ child = found.1 place (child, at.0) (sym (child-is first place node has) ∙ at.1) in
            elim (cases_lt least child) [
              | inl less ↦
                  absurd (apart first least found.0.0 child place first-inside least-child at less
                  (between child part least (omega (arith, child-below first place child at, first-inside)) of_child (omega (arith, below)) (omega (arith, less))))
              | inr past ↦ subst (λ (c : ℕ). IsWithin list c part) (omega (arith, order, past)) of_child
            ]

    pub next-within : (root first least : ℕ) (node : TreeNode NameId) → HasNode list first node → least_from None node.children ≡ Some least
        → IsWithin list root first → IsWithin list root least
    next-within root first least node has is within =
        let found = least-found node.children least is in
        within-trans root first least within
        (in_child found.0.0 least (subst (IsChildAt list first found.0.0) found.0.3 (found.0.1.1, child-is first found.0.0 node has ∙ found.0.2)) itself)

    pub next-falls : (first least : ℕ) (node : TreeNode NameId) → HasNode list first node → least_from None node.children ≡ Some least → least < first
    next-falls first least node has is =
        let found = least-found node.children least is in
        child-below first found.0.0 least (subst (IsChildAt list first found.0.0) found.0.3 (found.0.1.1, child-is first found.0.0 node has ∙ found.0.2))

    -- a node without children is where the run begins
    pub run-begins : (root first : ℕ) (node : TreeNode NameId) → root < end_of list → HasNode list first node → least_from None node.children ≡ None
        → IsWithin list root first → IsBegunBy root first → IsRunFrom list first root
    run-begins root first node inside has is within begun =
        λ part. (λ of_root. (from part of_root, within-le root part of_root), λ bounds. between root first part inside within bounds.0 bounds.1)
      where
        alone : (part : ℕ) → IsWithin list first part → part ≡ first
        alone part of_first = by (first-step first part of_first)
          where
            by : (part ≡ first) ⊎ ((place : ℕ) × (child : ℕ) × IsChildAt list first place child × IsWithin list child part) → part ≡ first
            by (inl same) = same
            by (inr (place, child, at, of_child)) =
                absurd (none-some (child, at.0)
                (sym (ap (λ (children : List (ℕ × ℕ)). slice_get children place) (least-none node.children is)) ∙ sym (child-is first place node has) ∙ at.1))

        from : (part : ℕ) → IsWithin list root part → first ≤ part
        from part of_root =
            elim (cases_lt part first) [
              | inl below ↦ absurd (omega (arith, below, alone part (begun part of_root below)))
              | inr past ↦ past
            ]
