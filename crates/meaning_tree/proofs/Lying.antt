-- A list that is the run of its last node is laid.
use Rattle.std.proofs.Common.{◌≡◌, ◌↔◌, ℕ, zero, suc, ◌+◌, ◌-◌, ◌<◌, ◌≤◌, List, [], ◌∷◌, ◌++◌, length, slice_get, Option, Some, None, ◌⊎◌, inl, inr, ⊎_elim, refl, sym, ap, subst, ◌∙◌, arith}
use Rattle.std.specs.Option.{option_and_then}
use Rattle.std.proofs.lemmas.Bool.{cases_lt}
use Rattle.std.proofs.lemmas.Option.{same_Some, slice_get_within}
use Rattle.meaning_tree.specs.Trees.{Tree, Node, Parts, NoParts, Part}
use Rattle.meaning_tree.specs.Nodes.{TreeNode, NodeList, end_of, HasNode, StandsFor, StandFor}
use Rattle.meaning_tree.specs.LookUps.{node_at}
use Rattle.meaning_tree.specs.Laid.{size_of, sizes_of, IsChildAt, IsWithin, itself, in_child, HasOneParent, IsLaid}
use Rattle.meaning_tree.specs.Runs.{IsRun, AreRuns, run, no_runs, last_run}
use Rattle.meaning_tree.proofs.Finding.{node_unique}
use Rattle.meaning_tree.proofs.LookingUp.{node_at-exact}
use Rattle.meaning_tree.proofs.Runs.{run-rises, runs-rise}

-- Places

-- where an element is taken out of the middle, the place of another one is this
abbrev IsMoved : (gap place other : ℕ) → Type 0
IsMoved gap place other = ((other < gap) × (place ≡ other)) ⊎ ((gap ≤ other) × (place ≡ other + 1))

-- an element is the one in the middle, or stands elsewhere
placed : {X : Type 0} (front : List X) (middle : X) (back : List X) (place : ℕ) (x : X) → slice_get (front ++ middle ∷ back) place ≡ Some x
    → ((place ≡ length front) × (x ≡ middle)) ⊎ ((other : ℕ) × (slice_get (front ++ back) other ≡ Some x) × IsMoved (length front) place other)
placed [] middle back zero x is = inl (refl, sym (same_Some middle x is))
placed [] middle back (suc place) x is = inr (place, is, inr (omega arith, omega arith))
placed (first ∷ front) middle back zero x is = inr (zero, is, inl (omega arith, refl))
placed (first ∷ front) middle back (suc place) x is =
    ⊎_elim
    (λ (here : (place ≡ length front) × (x ≡ middle)). inl (let at = here.0 in omega (arith, at), here.1))
    (λ (there : (other : ℕ) × (slice_get (front ++ back) other ≡ Some x) × IsMoved (length front) place other).
    inr (
      suc there.0,
      there.1,
      ⊎_elim
          (λ (before : (there.0 < length front) × (place ≡ there.0)). inl (let less = before.0 in let same = before.1 in (omega (arith, less), omega (arith, same))))
          (λ (behind : (length front ≤ there.0) × (place ≡ there.0 + 1)). inr (let past = behind.0 in let next = behind.1 in (omega (arith, past), omega (arith, next))))
          there.2,
    ))
    (placed front middle back place x is)

-- the one in the middle
slice_get-middle : {X : Type 0} (front : List X) (middle : X) (back : List X) → slice_get (front ++ middle ∷ back) (length front) ≡ Some middle
slice_get-middle [] middle back = refl
slice_get-middle (first ∷ front) middle back = slice_get-middle front middle back

-- each other one stands among them
among : {X : Type 0} (front : List X) (middle : X) (back : List X) (other : ℕ) (x : X) → slice_get (front ++ back) other ≡ Some x
    → (place : ℕ) × (slice_get (front ++ middle ∷ back) place ≡ Some x)
among [] middle back other x is = (suc other, is)
among (first ∷ front) middle back zero x is = (zero, is)
among (first ∷ front) middle back (suc other) x is = let rest = among front middle back other x is in (suc rest.0, rest.1)

-- Children

-- children have this one at the place
abbrev IsListed : List (ℕ × ℕ) → (place child : ℕ) → Type 0
IsListed children place child = (tag : ℕ) × (slice_get children place ≡ Some (child, tag))

child_is : {Spelling : Type 0} (found : Option (TreeNode Spelling)) (place : ℕ) (child : ℕ × ℕ)
    → option_and_then (λ (one : TreeNode Spelling). slice_get one.children place) found ≡ Some child
    → (node : TreeNode Spelling) × (found ≡ Some node) × (slice_get node.children place ≡ Some child)
child_is None place child is = absurd (cc is)
child_is (Some node) place child is = (node, refl, is)

module _ {Spelling : Type 0} (list : NodeList Spelling) where
  named_by : (parent place child : ℕ) (node : TreeNode Spelling) → HasNode list parent node → IsListed node.children place child → IsChildAt list parent place child
  named_by parent place child node has listed = (
    listed.0,
    ap (option_and_then (λ (one : TreeNode Spelling). slice_get one.children place)) ((node_at-exact list parent node).1 has) ∙ listed.1,
  )

  -- who has a child is a node of the list
  parent_has : (parent place child : ℕ) → IsChildAt list parent place child → (node : TreeNode Spelling) × HasNode list parent node × IsListed node.children place child
  parent_has parent place child named =
      let found = child_is (node_at list parent) place (child, named.0) named.1 in
      (found.0, (node_at-exact list parent found.0).0 found.1, (named.0, found.2))

  -- and what it has are its own children
  listed_by : (parent place child : ℕ) (node : TreeNode Spelling) → HasNode list parent node → IsChildAt list parent place child → IsListed node.children place child
  listed_by parent place child node has named =
      let found = parent_has parent place child named in
      subst (λ (one : TreeNode Spelling). IsListed one.children place child) (node_unique list parent found.0 node found.1 has) found.2

  -- Sizes

  -- where one child is taken out of the middle
  parted : (front : List (ℕ × ℕ)) (child : ℕ × ℕ) (back : List (ℕ × ℕ)) (parts : Parts Spelling) → StandFor list (front ++ child ∷ back) parts
      → (tree : Tree Spelling) × (others : Parts Spelling) × StandsFor list child.0 tree × StandFor list (front ++ back) others × (sizes_of parts ≡ size_of tree + sizes_of others)
  parted [] child back NoParts stand = absurd stand
  parted [] child back (Part role tree parts) stand = (tree, parts, stand.1, stand.2, refl)
  parted (first ∷ front) child back NoParts stand = absurd stand
  parted (first ∷ front) child back (Part role tree parts) stand =
      let rest = parted front child back parts stand.2 in
      let sizes = rest.4 in
      (rest.0, Part role tree rest.1, rest.2, (stand.0, stand.1, rest.3), omega (arith, sizes))

  mutual
    -- a run is as long as its tree has nodes
    run-size : {first root : ℕ} → IsRun list first root → (tree : Tree Spelling) → StandsFor list root tree → root + 1 ≡ first + size_of tree
    run-size {root = root} (run node has runs) (Node kind token name number parts) stands =
        let same = node_unique list root _ node stands.1 has in
        let sizes = runs-size runs parts (subst (λ (one : TreeNode Spelling). StandFor list one.children parts) same stands.2) in
        omega (arith, sizes)

    runs-size : {children : List (ℕ × ℕ)} {first end : ℕ} → AreRuns list children first end → (parts : Parts Spelling) → StandFor list children parts → end ≡ first + sizes_of parts
    runs-size no_runs NoParts stand = omega arith
    runs-size no_runs (Part role tree parts) stand = absurd stand
    runs-size (last_run front back child middle runs one) parts stand =
        let taken = parted front child back parts stand in
        let sizes = taken.4 in
        let others = runs-size runs taken.1 taken.3 in
        let alone = run-size one taken.0 taken.2 in
        omega (arith, sizes, others, alone)

  -- What is within a run

  -- a child has a run within those of all
  child_run : {children : List (ℕ × ℕ)} {first end : ℕ} → AreRuns list children first end → (place child : ℕ) → IsListed children place child
      → (begins : ℕ) × IsRun list begins child × (first ≤ begins) × (child < end)
  child_run no_runs place child listed = absurd (omega (arith, slice_get_within [] place (child, listed.0) listed.1))
  child_run (last_run front back last middle runs one) place child listed =
      let low = runs-rise list runs in
      let high = run-rises list one in
      ⊎_elim
      (λ (here : (place ≡ length front) × ((child, listed.0) ≡ last)).
      let same : child ≡ last.0 = ap (λ (found : ℕ × ℕ). found.0) here.1 in
      (middle, subst (λ (root : ℕ). IsRun list middle root) (sym same) one, low, omega (arith, same)))
      (λ (there : (other : ℕ) × (slice_get (front ++ back) other ≡ Some (child, listed.0)) × IsMoved (length front) place other).
      let before = child_run runs there.0 child (listed.0, there.1) in
      let below = before.3 in
      (before.0, before.1, before.2, omega (arith, below, high)))
      (placed front last back place (child, listed.0) listed.1)

  within_run : {root part : ℕ} → IsWithin list root part → {first : ℕ} → IsRun list first root → (first ≤ part) × (part ≤ root)
  within_run itself one = (run-rises list one, omega arith)
  within_run {root = root} (in_child place child named within) (run node has runs) =
      let own = child_run runs place child (listed_by root place child node has named) in
      let inside = within_run within own.1 in
      let from = own.2 in
      let to = own.3 in
      let low = inside.0 in
      let high = inside.1 in
      (omega (arith, from, low), omega (arith, to, high))

  mutual
    run_within : {first root : ℕ} → IsRun list first root → (part : ℕ) → first ≤ part → part ≤ root → IsWithin list root part
    run_within {root = root} (run node has runs) part from to =
        ⊎_elim
        (λ (below : part < root).
        let found = runs_within runs part from below in
        in_child found.0 found.1 (named_by root found.0 found.1 node has found.2) found.3)
        (λ (last : root ≤ part). let same : root ≡ part = omega (arith, last, to) in subst (λ (one : ℕ). IsWithin list root one) same itself)
        (cases_lt part root)

    runs_within : {children : List (ℕ × ℕ)} {first end : ℕ} → AreRuns list children first end → (part : ℕ) → first ≤ part → part < end
        → (place : ℕ) × (child : ℕ) × IsListed children place child × IsWithin list child part
    runs_within no_runs part from below = absurd (omega (arith, from, below))
    runs_within (last_run front back last middle runs one) part from below =
        ⊎_elim
        (λ (early : part < middle).
        let found = runs_within runs part from early in
        let moved = among front last back found.0 (found.1, found.2.0) found.2.1 in
        (moved.0, found.1, (found.2.0, moved.1), found.3))
        (λ (late : middle ≤ part). (length front, last.0, (last.1, slice_get-middle front last back), run_within one part late (omega (arith, below))))
        (cases_lt part middle)

  -- Parents

  abbrev HasParent : ℕ → Type 0
  HasParent child = (parent : ℕ) × (place : ℕ) × IsChildAt list parent place child

  mutual
    run_parents : {first root : ℕ} → IsRun list first root → (part : ℕ) → first ≤ part → part < root → HasParent part
    run_parents {root = root} (run node has runs) part from below =
        ⊎_elim
        (λ (own : (place : ℕ) × IsListed node.children place part). (root, own.0, named_by root own.0 part node has own.1))
        (λ (inner : HasParent part). inner)
        (runs_parents runs part from below)

    runs_parents : {children : List (ℕ × ℕ)} {first end : ℕ} → AreRuns list children first end → (part : ℕ) → first ≤ part → part < end
        → ((place : ℕ) × IsListed children place part) ⊎ HasParent part
    runs_parents no_runs part from below = absurd (omega (arith, from, below))
    runs_parents (last_run front back last middle runs one) part from below =
        ⊎_elim
        (λ (early : part < middle).
        ⊎_elim
        (λ (own : (place : ℕ) × IsListed (front ++ back) place part).
        let moved = among front last back own.0 (part, own.1.0) own.1.1 in inl (moved.0, (own.1.0, moved.1)))
        (λ (inner : HasParent part). inr inner)
        (runs_parents runs part from early))
        (λ (late : middle ≤ part).
        ⊎_elim
        (λ (inner : part < last.0). inr (run_parents one part late inner))
        (λ (root : last.0 ≤ part).
        let same : last.0 ≡ part = omega (arith, root, below) in
        inl (length front, (last.1, slice_get-middle front last back ∙ ap (λ (one : ℕ). Some (one, last.1)) same)))
        (cases_lt part last.0))
        (cases_lt part middle)

  mutual
    -- each node of a run has a run of its own
    run_of_part : {first root : ℕ} → IsRun list first root → (part : ℕ) → first ≤ part → part ≤ root → (begins : ℕ) × IsRun list begins part × (first ≤ begins)
    run_of_part {first} {root} (run node has runs) part from to =
        ⊎_elim
        (λ (below : part < root). run_among runs part from below)
        (λ (last : root ≤ part).
        let same : root ≡ part = omega (arith, last, to) in
        (first, subst (λ (one : ℕ). IsRun list first one) same (run node has runs), omega arith))
        (cases_lt part root)

    run_among : {children : List (ℕ × ℕ)} {first end : ℕ} → AreRuns list children first end → (part : ℕ) → first ≤ part → part < end
        → (begins : ℕ) × IsRun list begins part × (first ≤ begins)
    run_among no_runs part from below = absurd (omega (arith, from, below))
    run_among (last_run front back last middle runs one) part from below =
        ⊎_elim
        (λ (early : part < middle). run_among runs part from early)
        (λ (late : middle ≤ part).
        let found = run_of_part one part late (omega (arith, below)) in
        let low = runs-rise list runs in
        let begins = found.2 in
        (found.0, found.1, omega (arith, low, begins)))
        (cases_lt part middle)

  -- what a node of a run names stands before it in the run
  named_lies : {first root : ℕ} → IsRun list first root → (parent place child : ℕ) → first ≤ parent → parent ≤ root → IsChildAt list parent place child
      → (first ≤ child) × (child < parent)
  named_lies one parent place child from to named =
      let own = run_of_part one parent from to in
      let begins = own.2 in
      let lies = lies_in own.1 in
      let low = lies.0 in
      (omega (arith, begins, low), lies.1)
    where
      lies_in : {begins : ℕ} → IsRun list begins parent → (begins ≤ child) × (child < parent)
      lies_in (run node has runs) =
          let child_runs = child_run runs place child (listed_by parent place child node has named) in
          let rises = run-rises list child_runs.1 in
          let begins = child_runs.2 in
          (omega (arith, rises, begins), child_runs.3)

  named_among : {children : List (ℕ × ℕ)} {first end : ℕ} → AreRuns list children first end → (parent place child : ℕ) → first ≤ parent → parent < end → IsChildAt list parent place child
      → (first ≤ child) × (child < parent)
  named_among runs parent place child from below named =
      let own = run_among runs parent from below in
      let lies = named_lies own.1 parent place child (run-rises list own.1) (omega arith) named in
      let begins = own.2 in
      let low = lies.0 in
      (omega (arith, begins, low), lies.1)

  -- two places at which a child is named are one
  abbrev IsSame : (parent place other elsewhere : ℕ) → Type 0
  IsSame parent place other elsewhere = (other ≡ parent) × (elsewhere ≡ place)

  -- children that have runs are apart
  listed_once : {children : List (ℕ × ℕ)} {first end : ℕ} → AreRuns list children first end → (place elsewhere child : ℕ) → IsListed children place child
      → IsListed children elsewhere child → elsewhere ≡ place
  listed_once no_runs place elsewhere child listed also = absurd (omega (arith, slice_get_within [] place (child, listed.0) listed.1))
  listed_once (last_run front back last middle runs one) place elsewhere child listed also =
      let late = run-rises list one in
      ⊎_elim
      (λ (here : (place ≡ length front) × ((child, listed.0) ≡ last)).
      let at = here.0 in
      let same : child ≡ last.0 = ap (λ (found : ℕ × ℕ). found.0) here.1 in
      ⊎_elim
      (λ (too : (elsewhere ≡ length front) × ((child, also.0) ≡ last)). let too_at = too.0 in omega (arith, at, too_at))
      (λ (there : (other : ℕ) × (slice_get (front ++ back) other ≡ Some (child, also.0)) × IsMoved (length front) elsewhere other).
      let early = (child_run runs there.0 child (also.0, there.1)).3 in
      absurd (omega (arith, early, same, late)))
      (placed front last back elsewhere (child, also.0) also.1))
      (λ (there : (other : ℕ) × (slice_get (front ++ back) other ≡ Some (child, listed.0)) × IsMoved (length front) place other).
      let early = (child_run runs there.0 child (listed.0, there.1)).3 in
      ⊎_elim
      (λ (too : (elsewhere ≡ length front) × ((child, also.0) ≡ last)).
      let same : child ≡ last.0 = ap (λ (found : ℕ × ℕ). found.0) too.1 in
      absurd (omega (arith, early, same, late)))
      (λ (both : (other : ℕ) × (slice_get (front ++ back) other ≡ Some (child, also.0)) × IsMoved (length front) elsewhere other).
      let same = listed_once runs there.0 both.0 child (listed.0, there.1) (also.0, both.1) in
      moved_alike (length front) place elsewhere there.0 both.0 there.2 both.2 same)
      (placed front last back elsewhere (child, also.0) also.1))
      (placed front last back place (child, listed.0) listed.1)
    where
      moved_alike : (gap place elsewhere other another : ℕ) → IsMoved gap place other → IsMoved gap elsewhere another → another ≡ other → elsewhere ≡ place
      moved_alike gap place elsewhere other another (inl first) (inl second) same = let a = first.1 in let b = second.1 in omega (arith, a, b, same)
      moved_alike gap place elsewhere other another (inl first) (inr second) same = let a = first.0 in let b = second.0 in absurd (omega (arith, a, b, same))
      moved_alike gap place elsewhere other another (inr first) (inl second) same = let a = first.0 in let b = second.0 in absurd (omega (arith, a, b, same))
      moved_alike gap place elsewhere other another (inr first) (inr second) same = let a = first.1 in let b = second.1 in omega (arith, a, b, same)

  -- what a node of a run names is none of the children that have the runs
  not_named : {children : List (ℕ × ℕ)} {first end : ℕ} → AreRuns list children first end → (parent place elsewhere child : ℕ) → first ≤ parent → parent < end
      → IsChildAt list parent place child → IsListed children elsewhere child → ⊥
  not_named no_runs parent place elsewhere child from below named listed = omega (arith, from, below)
  not_named (last_run front back last middle runs one) parent place elsewhere child from below named listed =
      let late = run-rises list one in
      ⊎_elim
      (λ (early : parent < middle).
      let lies = (named_among runs parent place child from early named).1 in
      ⊎_elim
      (λ (here : (elsewhere ≡ length front) × ((child, listed.0) ≡ last)).
      let same : child ≡ last.0 = ap (λ (found : ℕ × ℕ). found.0) here.1 in
      omega (arith, early, lies, late, same))
      (λ (there : (other : ℕ) × (slice_get (front ++ back) other ≡ Some (child, listed.0)) × IsMoved (length front) elsewhere other).
      not_named runs parent place there.0 child from early named (listed.0, there.1))
      (placed front last back elsewhere (child, listed.0) listed.1))
      (λ (past : middle ≤ parent).
      let lies = named_lies one parent place child past (omega (arith, below)) named in
      let low = lies.0 in
      let high = lies.1 in
      ⊎_elim
      (λ (here : (elsewhere ≡ length front) × ((child, listed.0) ≡ last)).
      let same : child ≡ last.0 = ap (λ (found : ℕ × ℕ). found.0) here.1 in
      omega (arith, below, high, same))
      (λ (there : (other : ℕ) × (slice_get (front ++ back) other ≡ Some (child, listed.0)) × IsMoved (length front) elsewhere other).
      let early = (child_run runs there.0 child (listed.0, there.1)).3 in
      omega (arith, early, low))
      (placed front last back elsewhere (child, listed.0) listed.1))
      (cases_lt parent middle)

  mutual
    -- a child is named once in a run
    named_once : {first root : ℕ} → IsRun list first root → (parent place other elsewhere child : ℕ) → first ≤ parent → parent ≤ root → first ≤ other → other ≤ root
        → IsChildAt list parent place child → IsChildAt list other elsewhere child → IsSame parent place other elsewhere
    named_once {root = root} (run node has runs) parent place other elsewhere child from to from' to' named also =
        ⊎_elim
        (λ (below : parent < root).
        ⊎_elim
        (λ (too : other < root). named_once_among runs parent place other elsewhere child from below from' too named also)
        (λ (last : root ≤ other).
        let same : other ≡ root = omega (arith, last, to') in
        absurd (not_named runs parent place elsewhere child from below named (listed_by root elsewhere child node has (subst (λ (one : ℕ). IsChildAt list one elsewhere child) same also))))
        (cases_lt other root))
        (λ (last : root ≤ parent).
        let same : parent ≡ root = omega (arith, last, to) in
        let listed = listed_by root place child node has (subst (λ (one : ℕ). IsChildAt list one place child) same named) in
        ⊎_elim
        (λ (below : other < root). absurd (not_named runs other elsewhere place child from' below also listed))
        (λ (too : root ≤ other).
        let same' : other ≡ root = omega (arith, too, to') in
        (same' ∙ sym same, listed_once runs place elsewhere child listed (listed_by root elsewhere child node has (subst (λ (one : ℕ). IsChildAt list one elsewhere child) same' also))))
        (cases_lt other root))
        (cases_lt parent root)

    named_once_among : {children : List (ℕ × ℕ)} {first end : ℕ} → AreRuns list children first end → (parent place other elsewhere child : ℕ) → first ≤ parent → parent < end
        → first ≤ other → other < end → IsChildAt list parent place child → IsChildAt list other elsewhere child → IsSame parent place other elsewhere
    named_once_among no_runs parent place other elsewhere child from below from' below' named also = absurd (omega (arith, from, below))
    named_once_among (last_run front back last middle runs one) parent place other elsewhere child from below from' below' named also =
        ⊎_elim
        (λ (early : parent < middle).
        ⊎_elim
        (λ (too : other < middle). named_once_among runs parent place other elsewhere child from early from' too named also)
        (λ (late : middle ≤ other).
        let high = (named_among runs parent place child from early named).1 in
        let low = (named_lies one other elsewhere child late (omega (arith, below')) also).0 in
        absurd (omega (arith, early, high, low)))
        (cases_lt other middle))
        (λ (late : middle ≤ parent).
        ⊎_elim
        (λ (early : other < middle).
        let high = (named_among runs other elsewhere child from' early also).1 in
        let low = (named_lies one parent place child late (omega (arith, below)) named).0 in
        absurd (omega (arith, early, high, low)))
        (λ (too : middle ≤ other). named_once one parent place other elsewhere child late (omega (arith, below)) too (omega (arith, below')) named also)
        (cases_lt other middle))
        (cases_lt parent middle)

  -- The list

  has_within : (handle : ℕ) (node : TreeNode Spelling) → HasNode list handle node → (list.first ≤ handle) × (handle < end_of list)
  has_within handle node has = let from = has.0 in let inside = slice_get_within list.nodes (handle - list.first) node has.1 in (from, omega (arith, from, inside))

  -- who has a child is in the list
  pub parent_inside : (parent place child : ℕ) → IsChildAt list parent place child → (list.first ≤ parent) × (parent < end_of list)
  parent_inside parent place child named = let has = parent_has parent place child named in has_within parent has.0 has.1

  root_has : (root : ℕ) (tree : Tree Spelling) → StandsFor list root tree → (node : TreeNode Spelling) × HasNode list root node
  root_has root (Node kind token name number parts) stands = (_, stands.1)

  module _ (last : ℕ) (ends : end_of list ≡ last + 1) (whole : IsRun list list.first last) where
    laid_runs : (root part : ℕ) (tree : Tree Spelling) → StandsFor list root tree → IsWithin list root part ↔ ((root < part + size_of tree) × (part ≤ root))
    laid_runs root part tree stands =
        let found = root_has root tree stands in
        let inside = has_within root found.0 found.1 in
        let from = inside.0 in
        let below = inside.1 in
        let own = run_of_part whole root from (omega (arith, below, ends)) in
        let size = run-size own.1 tree stands in (
          (λ within. let lies = within_run within own.1 in let low = lies.0 in (omega (arith, size, low), lies.1)),
          (λ lies. let low = lies.0 in run_within own.1 part (omega (arith, size, low)) lies.1),
        )

    laid_parents : (part : ℕ) → list.first ≤ part → part + 1 < end_of list → HasOneParent list part
    laid_parents part from below =
        let found = run_parents whole part from (omega (arith, below, ends)) in (
          found.0,
          found.1,
          found.2,
          λ other elsewhere also. let one = bounds found.0 found.1 found.2 in let two = bounds other elsewhere also in
              named_once whole found.0 found.1 other elsewhere part one.0 one.1 two.0 two.1 found.2 also,
        )
      where
        bounds : (parent place : ℕ) → IsChildAt list parent place part → (list.first ≤ parent) × (parent ≤ last)
        bounds parent place named = let inside = parent_inside parent place part named in let high = inside.1 in (inside.0, omega (arith, high, ends))

    -- a list that is the run of its last node is laid
    pub run_is_laid : IsLaid list
    run_is_laid = record { runs = laid_runs; parents = laid_parents }
