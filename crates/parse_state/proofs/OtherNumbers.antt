-- Where one node has another number, the trees that don't have it stay, and of the parts of a tree that has it all but one.
use Rattle.std.proofs.Common.{◌≡◌, ℕ, zero, suc, ◌+◌, ◌-◌, ◌<◌, ◌≤◌, Bool, true, false, ◌&&◌, List, [], ◌∷◌, ◌++◌, slice_get, Option, Some, None, All, ⊎_elim, nat_le, refl, sym, ap, ap₂, subst, ◌∙◌, arith, if◌then◌else◌}
use Rattle.std.proofs.lemmas.Bool.{cases_lt}
use Rattle.std.proofs.lemmas.Option.{same_Some}
use Rattle.vocabulary.specs.Roles.{role_of}
use Rattle.meaning_tree.specs.Trees.{SyntaxTree, Node, Parts, Part}
use Rattle.meaning_tree.specs.Nodes.{TreeNode, NodeList, HasNode, ChildrenStandBefore}
use Rattle.meaning_tree.specs.Runs.{IsRun, AreRuns, run, no_runs, last_run}
use Rattle.meaning_tree.specs.Listed.{tree_at, parts_at}
use Rattle.meaning_tree.proofs.Finding.{node_unique}
use Rattle.meaning_tree.proofs.Runs.{run-rises, runs-rise}
use Rattle.meaning_derivation.specs.Scoping.{are_without_form, first_changed, is_without_form, list_numbered, numbered, own_list_numbered}
use Rattle.sparse_model.specs.declared.ids.NameId.{NameId}
use Rattle.c_tokens.specs.Seen.{text_of}
use Rattle.c_tree.specs.Numbers.{numbered_at, with_number}
use Rattle.c_tree.proofs.Numbers.{node-numbered}
use Rattle.parse_state.specs.OwnNames.{first_child}
use Rattle.parse_state.specs.Seen.{spelled_trees}
use Rattle.parse_state.proofs.Parts.{node_seen}

-- Nodes

module _ {Spelling : Type 0} where
  -- each other node stays
  other_node : (nodes : List (TreeNode Spelling)) (place number other : ℕ) (node : TreeNode Spelling) → (other ≡ place → ⊥) → slice_get nodes other ≡ Some node
      → slice_get (numbered_at nodes place number) other ≡ Some node
  other_node [] place number other node differ is = is
  other_node (first ∷ nodes) zero number zero node differ is = absurd (differ refl)
  other_node (first ∷ nodes) zero number (suc other) node differ is = is
  other_node (first ∷ nodes) (suc place) number zero node differ is = is
  other_node (first ∷ nodes) (suc place) number (suc other) node differ is = other_node nodes place number other node (λ same. differ (ap suc same)) is

  this_node : (nodes : List (TreeNode Spelling)) (place number : ℕ) (node : TreeNode Spelling) → slice_get nodes place ≡ Some node
      → slice_get (numbered_at nodes place number) place ≡ Some (record node { number = number })
  this_node [] place number node is = absurd (cc is)
  this_node (first ∷ nodes) zero number node is = ap (λ (one : TreeNode Spelling). Some (record one { number = number })) (same_Some first node is)
  this_node (first ∷ nodes) (suc place) number node is = this_node nodes place number node is

-- The child directly at the name

module _ (is_without : ℕ → Bool) where
  abbrev pub all_without : List (ℕ × ℕ) → Bool
  all_without [] = true
  all_without (child ∷ children) = is_without child.0 && all_without children

  -- the last child that has a form
  abbrev pub own_child : List (ℕ × ℕ) → Option ℕ
  own_child [] = None
  own_child (child ∷ children) = if all_without children then Some child.0 else own_child children

-- a node's handle is in a run
abbrev pub is_in_run : (first root handle : ℕ) → Bool
is_in_run first root handle = nat_le first handle && nat_le handle root

module _ (names : List (List ℕ)) (list : NodeList NameId) (starts : list.first ≡ 0) (order : ChildrenStandBefore list) (handle number : ℕ) where
  abbrev pub numbered_list : NodeList NameId
  numbered_list = with_number list handle number

  abbrev pub old_tree : ℕ → SyntaxTree
  old_tree root = tree_at (spelled_trees names list) root

  abbrev pub new_tree : ℕ → SyntaxTree
  new_tree root = tree_at (spelled_trees names numbered_list) root

  pub order_after : ChildrenStandBefore numbered_list
  order_after other node has =
      let (before, was, children) = node-numbered list.nodes (handle - list.first) number (other - list.first) node has.1 in
      subst (All (λ child. (list.first ≤ child.0) × (child.0 < other))) children (order other before (has.0, was))

  -- Trees that stay

  abbrev pub AreSame : List (ℕ × ℕ) → Type 0
  AreSame [] = Unit {0}
  AreSame (child ∷ children) = (new_tree child.0 ≡ old_tree child.0) × AreSame children

  same-inserted : (front back : List (ℕ × ℕ)) (child : ℕ × ℕ) → AreSame (front ++ back) → new_tree child.0 ≡ old_tree child.0 → AreSame (front ++ child ∷ back)
  same-inserted [] back child same one = (one, same)
  same-inserted (next ∷ front) back child same one = (same.0, same-inserted front back child same.1 one)

  pub same_parts : (children : List (ℕ × ℕ)) → AreSame children → parts_at (spelled_trees names numbered_list) children ≡ parts_at (spelled_trees names list) children
  same_parts [] same = refl
  same_parts (child ∷ children) same = ap₂ (λ tree parts. Part (role_of child.1) tree parts) same.0 (same_parts children same.1)

  same_node : (root : ℕ) (node : TreeNode NameId) → HasNode list root node → (root ≡ handle → ⊥) → AreSame node.children → new_tree root ≡ old_tree root
  same_node root node has differ same =
      let from = has.0 in
      let stays : slice_get numbered_list.nodes (root - list.first) ≡ Some node =
      other_node list.nodes (handle - list.first) number (root - list.first) node (λ places. differ (omega (arith, places, starts))) has.1 in
      node_seen names numbered_list starts order_after root node (has.0, stays)
      ∙ ap (λ parts. Node node.kind node.token (text_of names node.name) node.number parts) (same_parts node.children same)
      ∙ sym (node_seen names list starts order root node has)

  mutual
    -- a tree whose nodes come behind the node
    pub run_behind : {first root : ℕ} → IsRun list first root → handle < first → new_tree root ≡ old_tree root
    run_behind {first = first} {root = root} (run node has runs) past =
        let rises = runs-rise list runs in
        same_node root node has (λ same. absurd (omega (arith, same, past, rises))) (runs_behind runs past)

    pub runs_behind : {children : List (ℕ × ℕ)} {first end : ℕ} → AreRuns list children first end → handle < first → AreSame children
    runs_behind no_runs past = tt
    runs_behind (last_run front back child middle runs one) past =
        let rises = runs-rise list runs in
        same-inserted front back child (runs_behind runs past) (run_behind one (omega (arith, past, rises)))

  mutual
    -- and one whose nodes come before it
    pub run_before : {first root : ℕ} → IsRun list first root → root < handle → new_tree root ≡ old_tree root
    run_before {first = first} {root = root} (run node has runs) past =
        same_node root node has (λ same. absurd (omega (arith, same, past))) (runs_before_it runs (omega (arith, past)))

    pub runs_before_it : {children : List (ℕ × ℕ)} {first end : ℕ} → AreRuns list children first end → end ≤ handle → AreSame children
    runs_before_it no_runs past = tt
    runs_before_it (last_run front back child middle runs one) past =
        let rises = run-rises list one in
        same-inserted front back child (runs_before_it runs (omega (arith, past, rises))) (run_before one (omega (arith, past)))

  -- All parts but one

  -- the child's nodes aren't the node
  abbrev pub IsApart : ℕ × ℕ → Type 0
  IsApart child = (begins : ℕ) × IsRun list begins child.0 × (begins ≤ handle → handle ≤ child.0 → ⊥)

  abbrev pub AreApart : List (ℕ × ℕ) → Type 0
  AreApart [] = Unit {0}
  AreApart (child ∷ children) = IsApart child × AreApart children

  -- but the one at this place, if there is one
  abbrev pub AreApartBut : List (ℕ × ℕ) → ℕ → Type 0
  AreApartBut [] place = Unit {0}
  AreApartBut (child ∷ children) zero = AreApart children
  AreApartBut (child ∷ children) (suc place) = IsApart child × AreApartBut children place

  apart-inserted : (front back : List (ℕ × ℕ)) (child : ℕ × ℕ) → AreApart (front ++ back) → IsApart child → AreApart (front ++ child ∷ back)
  apart-inserted [] back child apart one = (one, apart)
  apart-inserted (next ∷ front) back child apart one = (apart.0, apart-inserted front back child apart.1 one)

  apart_but-inserted : (front back : List (ℕ × ℕ)) (child : ℕ × ℕ) (place : ℕ) → AreApartBut (front ++ back) place → IsApart child
      → (now : ℕ) × AreApartBut (front ++ child ∷ back) now
  apart_but-inserted [] back child place apart one = (suc place, (one, apart))
  apart_but-inserted (next ∷ front) back child zero apart one = (zero, apart-inserted front back child apart one)
  apart_but-inserted (next ∷ front) back child (suc place) apart one =
      let (now, rest) = apart_but-inserted front back child place apart.1 one in (suc now, (apart.0, rest))

  but_inserted : (front back : List (ℕ × ℕ)) (child : ℕ × ℕ) → AreApart (front ++ back) → (now : ℕ) × AreApartBut (front ++ child ∷ back) now
  but_inserted [] back child apart = (zero, apart)
  but_inserted (next ∷ front) back child apart = let (now, rest) = but_inserted front back child apart.1 in (suc now, (apart.0, rest))

  -- runs that end before the node
  apart_before : {children : List (ℕ × ℕ)} {first end : ℕ} → AreRuns list children first end → end ≤ handle → AreApart children
  apart_before no_runs past = tt
  apart_before (last_run front back child middle runs one) past =
      let rises = run-rises list one in
      apart-inserted front back child (apart_before runs (omega (arith, past, rises))) (middle, one, λ from to. absurd (omega (arith, to, past)))

  -- of runs one at most has the node
  pub apart_but_one : {children : List (ℕ × ℕ)} {first end : ℕ} → AreRuns list children first end → (place : ℕ) × AreApartBut children place
  apart_but_one no_runs = (zero, tt)
  apart_but_one (last_run front back child middle runs one) =
      ⊎_elim
      (λ (behind : handle < middle).
      let (place, apart) = apart_but_one runs in
      apart_but-inserted front back child place apart (middle, one, λ from to. absurd (omega (arith, from, behind))))
      (λ (within : middle ≤ handle). but_inserted front back child (apart_before runs within))
      (cases_lt handle middle)

  -- what is apart stays
  pub apart_same : (child : ℕ × ℕ) → IsApart child → new_tree child.0 ≡ old_tree child.0
  apart_same child (begins, is_run, outside) =
      ⊎_elim
      (λ (past : child.0 < handle). run_before is_run past)
      (λ (to : handle ≤ child.0).
      ⊎_elim
      (λ (behind : handle < begins). run_behind is_run behind)
      (λ (from : begins ≤ handle). absurd (outside from to))
      (cases_lt handle begins))
      (cases_lt child.0 handle)

  pub all_apart_same : (children : List (ℕ × ℕ)) → AreApart children → AreSame children
  all_apart_same [] apart = tt
  all_apart_same (child ∷ children) apart = (apart_same child apart.0, all_apart_same children apart.1)

  -- The one part

  -- the node is one of a tree's, wherever these begin
  abbrev pub Has : ℕ → Type 0
  Has root = (begins : ℕ) → IsRun list begins root → (begins ≤ handle) × (handle ≤ root)

  has_not_apart : (child : ℕ × ℕ) (root : ℕ) → child.0 ≡ root → Has root → IsApart child → ⊥
  has_not_apart child root same has (begins, is_run, outside) =
      let (from, to) = has begins (subst (λ (at : ℕ). IsRun list begins at) same is_run) in outside from (omega (arith, to, same))

  -- each child has a run within these
  abbrev pub AreWithin : (first end : ℕ) → List (ℕ × ℕ) → Type 0
  AreWithin first end [] = Unit {0}
  AreWithin first end (child ∷ children) = ((begins : ℕ) × IsRun list begins child.0 × (first ≤ begins) × (child.0 < end)) × AreWithin first end children

  within-inserted : (first end : ℕ) (front back : List (ℕ × ℕ)) (child : ℕ × ℕ) → AreWithin first end (front ++ back)
      → (begins : ℕ) × IsRun list begins child.0 × (first ≤ begins) × (child.0 < end) → AreWithin first end (front ++ child ∷ back)
  within-inserted first end [] back child within one = (one, within)
  within-inserted first end (next ∷ front) back child within one = (within.0, within-inserted first end front back child within.1 one)

  within-later : (first middle end : ℕ) → middle ≤ end → (children : List (ℕ × ℕ)) → AreWithin first middle children → AreWithin first end children
  within-later first middle end grows [] within = tt
  within-later first middle end grows (child ∷ children) ((begins, is_run, from, to), rest) =
      ((begins, is_run, from, omega (arith, to, grows)), within-later first middle end grows children rest)

  pub runs_within : {children : List (ℕ × ℕ)} {first end : ℕ} → AreRuns list children first end → AreWithin first end children
  runs_within no_runs = tt
  runs_within {first = first} (last_run front back child middle runs one) =
      let rises = run-rises list one in
      let begins = runs-rise list runs in
      within-inserted first (child.0 + 1) front back child (within-later first middle (child.0 + 1) (omega (arith, rises)) (front ++ back) (runs_within runs))
      (middle, one, begins, omega arith)

  module _ (is_here : ℕ → Bool) (found : ℕ) where
    within_head : (test : Bool) (first end : ℕ) (child : ℕ × ℕ) (children : List (ℕ × ℕ)) → AreWithin first end (child ∷ children)
        → (if test then Some child.0 else first_child is_here children) ≡ Some found
        → (first_child is_here children ≡ Some found → (begins : ℕ) × IsRun list begins found × (first ≤ begins) × (found < end))
        → (begins : ℕ) × IsRun list begins found × (first ≤ begins) × (found < end)
    within_head true first end child children within is rest =
        subst (λ (at : ℕ). (begins : ℕ) × IsRun list begins at × (first ≤ begins) × (at < end)) (same_Some child.0 found is) within.0
    within_head false first end child children within is rest = rest is

    pub first_within : (first end : ℕ) (children : List (ℕ × ℕ)) → AreWithin first end children → first_child is_here children ≡ Some found
        → (begins : ℕ) × IsRun list begins found × (first ≤ begins) × (found < end)
    first_within first end [] within is = absurd (cc is)
    first_within first end (child ∷ children) within is =
        within_head (is_here child.0) first end child children within is (first_within first end children within.1)

    -- a tree has what its child has
    pub parent_has : (root : ℕ) (node : TreeNode NameId) → HasNode list root node → first_child is_here node.children ≡ Some found → Has found → Has root
    parent_has root node has is found_has begins (run other also runs) =
        let same = node_unique list root node other has also in
        let (from, is_run, after, before) = first_within begins root other.children (runs_within runs) (ap (λ (it : TreeNode NameId). first_child is_here it.children) (sym same) ∙ is) in
        let (low, high) = found_has from is_run in
        (omega (arith, low, after), omega (arith, high, before))

    apart_head : (test : Bool) (child : ℕ × ℕ) (children : List (ℕ × ℕ)) → AreApart (child ∷ children) → (if test then Some child.0 else first_child is_here children) ≡ Some found
        → Has found → (first_child is_here children ≡ Some found → ⊥) → ⊥
    apart_head true child children apart is has rest = has_not_apart child found (same_Some child.0 found is) has apart.0
    apart_head false child children apart is has rest = rest is

    none_apart : (children : List (ℕ × ℕ)) → AreApart children → first_child is_here children ≡ Some found → Has found → ⊥
    none_apart [] apart is has = absurd (cc is)
    none_apart (child ∷ children) apart is has = apart_head (is_here child.0) child children apart is has (λ same. none_apart children apart.1 same has)

    -- the tests of trees are those of handles
    abbrev pub AreTested : (is_so : SyntaxTree → Bool) → List (ℕ × ℕ) → Type 0
    AreTested is_so [] = Unit {0}
    AreTested is_so (child ∷ children) = (is_so (old_tree child.0) ≡ is_here child.0) × AreTested is_so children

    module _ (is_so : SyntaxTree → Bool) (changed : SyntaxTree → SyntaxTree) (has : Has found) (changes : new_tree found ≡ changed (old_tree found)) where
      changed_head : (test : Bool) (child : ℕ × ℕ) (children : List (ℕ × ℕ)) (place : ℕ) → AreApartBut (child ∷ children) place
          → (if test then Some child.0 else first_child is_here children) ≡ Some found
          → ((there : ℕ) → AreApartBut children there → first_child is_here children ≡ Some found
          → parts_at (spelled_trees names numbered_list) children ≡ first_changed is_so changed (parts_at (spelled_trees names list) children))
          → Part (role_of child.1) (new_tree child.0) (parts_at (spelled_trees names numbered_list) children)
          ≡ (if test then Part (role_of child.1) (changed (old_tree child.0)) (parts_at (spelled_trees names list) children)
          else Part (role_of child.1) (old_tree child.0) (first_changed is_so changed (parts_at (spelled_trees names list) children)))
      changed_head true child children zero apart is rest =
          let same : child.0 ≡ found = same_Some child.0 found is in
          ap₂ (λ tree parts. Part (role_of child.1) tree parts) (ap (λ (at : ℕ). new_tree at) same ∙ changes ∙ ap (λ (at : ℕ). changed (old_tree at)) (sym same))
          (same_parts children (all_apart_same children apart))
      changed_head true child children (suc place) apart is rest = absurd (has_not_apart child found (same_Some child.0 found is) has apart.0)
      changed_head false child children zero apart is rest = absurd (none_apart children apart is has)
      changed_head false child children (suc place) apart is rest =
          ap₂ (λ tree parts. Part (role_of child.1) tree parts) (apart_same child apart.0) (rest place apart.1 is)

      -- the first part that is so is changed, and no other one
      pub first_changed_is : (children : List (ℕ × ℕ)) (place : ℕ) → AreTested is_so children → AreApartBut children place → first_child is_here children ≡ Some found
          → parts_at (spelled_trees names numbered_list) children ≡ first_changed is_so changed (parts_at (spelled_trees names list) children)
      first_changed_is [] place tested apart is = absurd (cc is)
      first_changed_is (child ∷ children) place tested apart is =
          changed_head (is_so (old_tree child.0)) child children place apart
          (ap (λ (test : Bool). if test then Some child.0 else first_child is_here children) tested.0 ∙ is)
          (λ there but same. first_changed_is children there tested.1 but same)

  -- Trees over the part that is changed

  -- the node itself
  pub self_numbered : (begins : ℕ) → IsRun list begins handle → new_tree handle ≡ numbered number (old_tree handle)
  self_numbered begins (run node has runs) =
      node_seen names numbered_list starts order_after handle (record node { number = number }) (has.0, this_node list.nodes (handle - list.first) number node has.1)
      ∙ ap (λ parts. Node node.kind node.token (text_of names node.name) number parts) (same_parts node.children (runs_before_it runs (omega arith)))
      ∙ sym (ap (numbered number) (node_seen names list starts order handle node has))

  pub self_has : Has handle
  self_has begins is_run = let rises = run-rises list is_run in (omega (arith, rises), omega arith)

  -- a node above it
  pub over_changed : (root : ℕ) (node : TreeNode NameId) (changed : Parts (List ℕ)) → HasNode list root node → (root ≡ handle → ⊥)
      → parts_at (spelled_trees names numbered_list) node.children ≡ changed → new_tree root ≡ Node node.kind node.token (text_of names node.name) node.number changed
  over_changed root node changed has differ parts =
      let from = has.0 in
      let stays : slice_get numbered_list.nodes (root - list.first) ≡ Some node =
      other_node list.nodes (handle - list.first) number (root - list.first) node (λ places. differ (omega (arith, places, starts))) has.1 in
      node_seen names numbered_list starts order_after root node (has.0, stays) ∙ ap (λ (all : Parts (List ℕ)). Node node.kind node.token (text_of names node.name) node.number all) parts

  -- The list directly at the name

  module _ (is_without : ℕ → Bool) (found : ℕ) where
    abbrev pub AreWithoutTested : List (ℕ × ℕ) → Type 0
    AreWithoutTested [] = Unit {0}
    AreWithoutTested (child ∷ children) = (is_without_form (old_tree child.0) ≡ is_without child.0) × AreWithoutTested children

    pub without-tested : (children : List (ℕ × ℕ)) → AreWithoutTested children → are_without_form (parts_at (spelled_trees names list) children) ≡ all_without is_without children
    without-tested [] tested = refl
    without-tested (child ∷ children) tested = ap₂ (λ (one rest : Bool). one && rest) tested.0 (without-tested children tested.1)

    own_within_head : (test : Bool) (first end : ℕ) (child : ℕ × ℕ) (children : List (ℕ × ℕ)) → AreWithin first end (child ∷ children)
        → (if test then Some child.0 else own_child is_without children) ≡ Some found
        → (own_child is_without children ≡ Some found → (begins : ℕ) × IsRun list begins found × (first ≤ begins) × (found < end))
        → (begins : ℕ) × IsRun list begins found × (first ≤ begins) × (found < end)
    own_within_head true first end child children within is rest =
        subst (λ (at : ℕ). (begins : ℕ) × IsRun list begins at × (first ≤ begins) × (at < end)) (same_Some child.0 found is) within.0
    own_within_head false first end child children within is rest = rest is

    pub own_within : (first end : ℕ) (children : List (ℕ × ℕ)) → AreWithin first end children → own_child is_without children ≡ Some found
        → (begins : ℕ) × IsRun list begins found × (first ≤ begins) × (found < end)
    own_within first end [] within is = absurd (cc is)
    own_within first end (child ∷ children) within is =
        own_within_head (all_without is_without children) first end child children within is (own_within first end children within.1)

    own_none_head : (test : Bool) (child : ℕ × ℕ) (children : List (ℕ × ℕ)) → AreApart (child ∷ children) → (if test then Some child.0 else own_child is_without children) ≡ Some found
        → Has found → (own_child is_without children ≡ Some found → ⊥) → ⊥
    own_none_head true child children apart is has rest = has_not_apart child found (same_Some child.0 found is) has apart.0
    own_none_head false child children apart is has rest = rest is

    own_none : (children : List (ℕ × ℕ)) → AreApart children → own_child is_without children ≡ Some found → Has found → ⊥
    own_none [] apart is has = absurd (cc is)
    own_none (child ∷ children) apart is has = own_none_head (all_without is_without children) child children apart is has (λ same. own_none children apart.1 same has)

    module _ (name : List ℕ) (has : Has found) (changes : new_tree found ≡ list_numbered name number (old_tree found)) where
      own_head : (test : Bool) (child : ℕ × ℕ) (children : List (ℕ × ℕ)) (place : ℕ) → AreApartBut (child ∷ children) place
          → (if test then Some child.0 else own_child is_without children) ≡ Some found
          → ((there : ℕ) → AreApartBut children there → own_child is_without children ≡ Some found
          → parts_at (spelled_trees names numbered_list) children ≡ own_list_numbered name number (parts_at (spelled_trees names list) children))
          → Part (role_of child.1) (new_tree child.0) (parts_at (spelled_trees names numbered_list) children)
          ≡ (if test then Part (role_of child.1) (list_numbered name number (old_tree child.0)) (parts_at (spelled_trees names list) children)
          else Part (role_of child.1) (old_tree child.0) (own_list_numbered name number (parts_at (spelled_trees names list) children)))
      own_head true child children zero apart is rest =
          let same : child.0 ≡ found = same_Some child.0 found is in
          ap₂ (λ tree parts. Part (role_of child.1) tree parts)
          (ap (λ (at : ℕ). new_tree at) same ∙ changes ∙ ap (λ (at : ℕ). list_numbered name number (old_tree at)) (sym same)) (same_parts children (all_apart_same children apart))
      own_head true child children (suc place) apart is rest = absurd (has_not_apart child found (same_Some child.0 found is) has apart.0)
      own_head false child children zero apart is rest = absurd (own_none children apart is has)
      own_head false child children (suc place) apart is rest = ap₂ (λ tree parts. Part (role_of child.1) tree parts) (apart_same child apart.0) (rest place apart.1 is)

      pub own_list_is : (children : List (ℕ × ℕ)) (place : ℕ) → AreWithoutTested children → AreApartBut children place → own_child is_without children ≡ Some found
          → parts_at (spelled_trees names numbered_list) children ≡ own_list_numbered name number (parts_at (spelled_trees names list) children)
      own_list_is [] place tested apart is = absurd (cc is)
      own_list_is (child ∷ children) place tested apart is =
          own_head (are_without_form (parts_at (spelled_trees names list) children)) child children place apart
          (ap (λ (test : Bool). if test then Some child.0 else own_child is_without children) (without-tested children tested.1) ∙ is)
          (λ there but same. own_list_is children there tested.1 but same)
