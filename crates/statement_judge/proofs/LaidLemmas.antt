-- In a laid unit a node stands in another one exactly where it stands in its run.
use Rattle.std.proofs.Common.{◌≡◌, ℕ, zero, suc, ◌+◌, ◌-◌, ◌<◌, ◌≤◌, ◌⊎◌, inl, inr, Bool, true, false, ◌&&◌, ◌||◌, nat_eq, nat_le, nat_lt, List, [], ◌∷◌, Option, None, map, length, slice_get, get_or, refl, sym, ap, subst, ◌∙◌, arith, if◌then◌else◌}
use Rattle.std.specs.Option.{option_and_then}
use Rattle.std.proofs.lemmas.Bool.{cases_lt, le-ltb}
use Rattle.std.proofs.lemmas.Bool.Decides.{nat_tests}
use Rattle.std.proofs.lemmas.List.{length-map}
use Rattle.std.proofs.lemmas.Option.{get_or_from_slice_get}
use Rattle.sparse_model.specs.declared.ids.NameId.{NameId}
use Rattle.vocabulary.specs.Roles.{role_of}
use Rattle.meaning_tree.specs.Nodes.{TreeNode, NodeList, ChildrenStandBefore}
use Rattle.meaning_tree.specs.Laid.{HasOneParent, IsChildAt, IsLaid, IsWithin, itself as within_itself, in_child, size_of}
use Rattle.meaning_tree.specs.LookUps.{child_at, node_at as found_at}
use Rattle.meaning_typing.specs.Units.{kind_at, no_node, node_at}
use Rattle.meaning_typing.specs.Surroundings.{AreSurroundings, Surrounding, asked, surrounding_at}
use Rattle.meaning_statements.specs.Above.{Above, climbed, expressions_among, expressions_around, is_among, is_statement_expression, node_above, nodes_above}
use Rattle.c_tree.specs.Seen.{EachStandsForOneTree}
use Rattle.decl_judge.specs.Units.{named_node, nodes_of}
use Rattle.node_facts.specs.Facts.{name_seen}
use Rattle.node_surroundings.proofs.UnitLemmas.{each_is_part_once}
use Rattle.statement_judge.specs.Runs.{AreFirsts, StandsIn, itself, in_part, first_at, is_in_run}
use Rattle.statement_judge.proofs.AboveLemmas.{above-next}
use Rattle.statement_judge.proofs.RunLemmas.{stands-above, stands-before}

-- names are nothing to children
children_named : (nodes : List (TreeNode NameId)) (parent place : ℕ)
    → option_and_then (λ (node : TreeNode NameId). slice_get node.children place) (slice_get nodes parent)
    ≡ slice_get (get_or (map named_node nodes) parent no_node).children place
children_named [] parent place = refl
children_named (node ∷ nodes) zero place = refl
children_named (node ∷ nodes) (suc parent) place = children_named nodes parent place

found_by : (before : Bool) (one other : Option (TreeNode NameId)) → before ≡ false → one ≡ other → (if before then None else one) ≡ other
found_by true one other is same = absurd (cc is)
found_by false one other is same = same

facts_of_run : (root many first part : ℕ) → (nat_lt root many && nat_le first part && nat_lt part root) ≡ true
    → (root < many) × (first ≤ part) × (part < root)
facts_of_run root many first part is = (grind (arith, nat_tests, is), grind (arith, nat_tests, is), grind (arith, nat_tests, is))

run_of_facts : (root many first part : ℕ) → root < many → first ≤ part → part < root → (nat_lt root many && nat_le first part && nat_lt part root) ≡ true
run_of_facts root many first part inside from before = grind (arith, nat_tests, inside, from, before)

less-by : (m n : ℕ) → nat_lt m n ≡ true → m < n
less-by m n is = grind (arith, nat_tests)

tested : (m n : ℕ) → m < n → nat_lt m n ≡ true
tested m n less = grind (arith, nat_tests)

equal-by : (m n : ℕ) → nat_eq m n ≡ true → m ≡ n
equal-by m n is = grind (arith, nat_tests)

same-handle : (root parent : ℕ) → parent ≡ root → nat_eq root parent ≡ true
same-handle root parent same = grind (arith, nat_tests)

chosen-then : {X : Type 0} (b : Bool) (x y : X) → b ≡ true → (if b then x else y) ≡ x
chosen-then b x y is = rw is refl

either-way : (a b : Bool) → b ≡ true → (a || b) ≡ true
either-way true b is = refl
either-way false b is = is

-- a test that passes exactly where two others do
same-tests : (a b c : Bool) → (a ≡ true → (b ≡ true) × (c ≡ true)) → (b ≡ true → c ≡ true → a ≡ true) → a ≡ (b && c)
same-tests true true true one other = refl
same-tests true true false one other = sym (one refl).1
same-tests true false c one other = sym (one refl).0
same-tests false true true one other = other refl refl
same-tests false true false one other = refl
same-tests false false c one other = refl

node_past : (nodes : List (TreeNode (List ℕ))) (handle : ℕ) → length nodes ≤ handle → node_at nodes handle ≡ no_node
node_past [] handle past = refl
node_past (node ∷ nodes) zero past = absurd (omega (arith, past))
node_past (node ∷ nodes) (suc handle) past = node_past nodes handle (omega (arith, past))

module _ (unit : NodeList NameId) (whole : unit.first ≡ 0) (laid : IsLaid unit) (order : ChildrenStandBefore unit) (surroundings : List Surrounding)
    (are : AreSurroundings (nodes_of unit) surroundings) where
  found_is : (handle : ℕ) → found_at unit handle ≡ slice_get unit.nodes handle
  found_is handle = found_by (nat_lt handle unit.first) _ _ (le-ltb handle unit.first (omega (arith, whole))) (ap (slice_get unit.nodes) (omega (arith, whole)))

  child_is : (parent place : ℕ) → child_at unit parent place ≡ slice_get (node_at (nodes_of unit) parent).children place
  child_is parent place =
      ap (option_and_then (λ (node : TreeNode NameId). slice_get node.children place)) (found_is parent) ∙ children_named unit.nodes parent place

  abbrev parent_of : ℕ → ℕ
  parent_of handle = (surrounding_at surroundings handle).parent

  -- a child stands in its parent
  stands_there : (parent place child : ℕ) → IsChildAt unit parent place child → parent_of child ≡ parent
  stands_there parent place child (tag, is) =
      ap (λ (s : Surrounding). s.parent)
      (get_or_from_slice_get surroundings child
      (asked (kind_at (nodes_of unit) parent) parent place (role_of tag) (surrounding_at surroundings parent)) _
      (are.parts parent place (child, tag) (sym (child_is parent place) ∙ is)))

  before_parent : (parent place child : ℕ) → IsChildAt unit parent place child → child < parent
  before_parent parent place child (tag, is) =
      (each_is_part_once name_seen unit whole laid order).before parent place (child, tag) (sym (child_is parent place) ∙ is)

  -- what is within a node stands in it
  within_stands : (root part : ℕ) → IsWithin unit root part → StandsIn surroundings root part
  within_stands root part within_itself = itself
  within_stands root part (in_child place child is rest) =
      let there = stands_there root place child is in
      subst (λ (r : ℕ). StandsIn surroundings r part) there
      (stands-above surroundings child part (omega (arith, there, before_parent root place child is)) (within_stands child part rest))

  -- and a child of what is within is within
  within_below : (root parent place child : ℕ) → IsWithin unit root parent → IsChildAt unit parent place child → IsWithin unit root child
  within_below root parent place child within_itself is = in_child place child is within_itself
  within_below root parent place child (in_child at between has rest) is = in_child at between has (within_below between parent place child rest is)

  count : length (nodes_of unit) ≡ length unit.nodes
  count = length-map unit.nodes named_node

  stands_within : (root part : ℕ) → root < length unit.nodes → StandsIn surroundings root part → IsWithin unit root part
  stands_within root part inside itself = within_itself
  stands_within root part inside (in_part less rest) =
      let up = stands-before surroundings root (parent_of part) rest in
      let one : HasOneParent unit part = laid.parents part (omega (arith, whole)) (omega (arith, whole, less, up, inside)) in
      let there = stands_there one.0 one.1 part one.2 in
      within_below root one.0 one.1 part (subst (λ (p : ℕ). IsWithin unit root p) there (stands_within root (parent_of part) inside rest)) one.2

  -- so the run has what stands in its root
  module _ (trees : EachStandsForOneTree unit) (firsts : List ℕ) (first : AreFirsts surroundings firsts) where
    nodes_there : length firsts ≡ length unit.nodes
    nodes_there = first.all ∙ are.all ∙ count

    run_stands : (root part : ℕ) → is_in_run firsts root part ≡ true → StandsIn surroundings root part
    run_stands root part is =
        let in_run = facts_of_run root (length firsts) (first_at firsts root) part is in
        let begins = first_at firsts root in
        let tree = trees root (omega (arith, whole)) (omega (arith, whole, in_run.0, nodes_there)) in
        let within = stands_within root begins (omega (arith, in_run.0, nodes_there)) (first.each root in_run.0).stands in
        let behind : root < begins + size_of tree.0 = ((laid.runs root begins tree.0 tree.1).0 within).0 in
        within_stands root part ((laid.runs root part tree.0 tree.1).1 (omega (arith, behind, in_run.1), omega (arith, in_run.2)))

    stands_run : (root part : ℕ) → root < length unit.nodes → part < root → StandsIn surroundings root part → is_in_run firsts root part ≡ true
    stands_run root part inside before stands =
        run_of_facts root (length firsts) (first_at firsts root) part (omega (arith, inside, nodes_there))
        ((first.each root (omega (arith, inside, nodes_there))).least part stands) before

  -- Statement expressions around a node

  -- this one is one of them
  abbrev IsAround : (root part : ℕ) → Type 0
  IsAround root part = StandsIn surroundings root part × (part < root) × (is_statement_expression (kind_at (nodes_of unit) root) ≡ true)

  around_above : (root part : ℕ) → part < parent_of part → IsAround root (parent_of part) → IsAround root part
  around_above root part up there = (in_part up there.0, omega (arith, up, there.1), there.2)

  among_here : (root part : ℕ) (rest : List ℕ) → part < parent_of part → is_statement_expression (kind_at (nodes_of unit) (parent_of part)) ≡ true
      → (is_among root rest ≡ true → IsAround root (parent_of part)) → (same : Bool) → nat_eq root (parent_of part) ≡ same
      → (same || is_among root rest) ≡ true → IsAround root part
  among_here root part rest up kind there true same is =
      let here : root ≡ parent_of part = equal-by root (parent_of part) same in (
        in_part up (subst (λ (r : ℕ). StandsIn surroundings root r) here itself),
        omega (arith, up, here),
        ap (λ (r : ℕ). is_statement_expression (kind_at (nodes_of unit) r)) here ∙ kind,
      )
  among_here root part rest up kind there false same is = around_above root part up (there is)

  among_if : (root part : ℕ) (rest : List ℕ) → part < parent_of part → (is_among root rest ≡ true → IsAround root (parent_of part))
      → (expression : Bool) → is_statement_expression (kind_at (nodes_of unit) (parent_of part)) ≡ expression
      → is_among root (if expression then parent_of part ∷ rest else rest) ≡ true → IsAround root part
  among_if root part rest up there false kind is = around_above root part up (there is)
  among_if root part rest up there true kind is = among_here root part rest up kind there (nat_eq root (parent_of part)) refl is

  among_up : (root part : ℕ) (others : List Above) → (is_among root (expressions_among others) ≡ true → IsAround root (parent_of part))
      → (test : Bool) → nat_lt part (parent_of part) ≡ test
      → is_among root (expressions_among (if test then node_above (nodes_of unit) (surrounding_at surroundings part) ∷ others else [])) ≡ true
      → IsAround root part
  among_up root part others there false up is = absurd (cc is)
  among_up root part others there true up is =
      among_if root part (expressions_among others) (less-by part (parent_of part) up) there
      (is_statement_expression (kind_at (nodes_of unit) (parent_of part))) refl is

  among_stands : (steps root part : ℕ) → is_among root (expressions_among (climbed (nodes_of unit) surroundings steps part)) ≡ true → IsAround root part
  among_stands zero root part is = absurd (cc is)
  among_stands (suc steps) root part is =
      among_up root part (climbed (nodes_of unit) surroundings steps (parent_of part)) (among_stands steps root (parent_of part))
      (nat_lt part (parent_of part)) refl is

  -- and each that it stands in is one of them
  here_or_above : (root part : ℕ) → part ≤ root → (part ≡ root) ⊎ (part < root)
  here_or_above root part up = grind arith

  among_first : (root parent : ℕ) (rest : List ℕ) (expression : Bool) → expression ≡ true → parent ≡ root
      → is_among root (if expression then parent ∷ rest else rest) ≡ true
  among_first root parent rest true is same = rw (same-handle root parent same) refl
  among_first root parent rest false is same = absurd (cc is)

  among_rest : (root parent : ℕ) (rest : List ℕ) (expression : Bool) → is_among root rest ≡ true
      → is_among root (if expression then parent ∷ rest else rest) ≡ true
  among_rest root parent rest true is = either-way (nat_eq root parent) (is_among root rest) is
  among_rest root parent rest false is = is

  among_next : (root part : ℕ) → part < length (nodes_of unit) → part < parent_of part
      → is_among root (if is_statement_expression (kind_at (nodes_of unit) (parent_of part))
      then parent_of part ∷ expressions_among (nodes_above (nodes_of unit) surroundings (parent_of part))
      else expressions_among (nodes_above (nodes_of unit) surroundings (parent_of part))) ≡ true
      → is_among root (expressions_around (nodes_of unit) surroundings part) ≡ true
  among_next root part within up is =
      ap (λ all. is_among root (expressions_among all))
      (above-next (nodes_of unit) surroundings part are.all within
      ∙ chosen-then (nat_lt part (parent_of part)) _ _ (tested part (parent_of part) up))
      ∙ is

  stands_among : (root part : ℕ) → root < length (nodes_of unit) → is_statement_expression (kind_at (nodes_of unit) root) ≡ true → part < root
      → StandsIn surroundings root part → is_among root (expressions_around (nodes_of unit) surroundings part) ≡ true
  stands_among root part inside kind before itself = absurd (omega (arith, before))
  stands_among root part inside kind before (in_part up rest) =
      among_next root part (omega (arith, before, inside)) up
      (elim (here_or_above root (parent_of part) (stands-before surroundings root (parent_of part) rest)) [
        | inl same ↦
            among_first root (parent_of part) (expressions_among (nodes_above (nodes_of unit) surroundings (parent_of part)))
            (is_statement_expression (kind_at (nodes_of unit) (parent_of part)))
            (ap (λ (r : ℕ). is_statement_expression (kind_at (nodes_of unit) r)) same ∙ kind) same
        | inr above ↦
            among_rest root (parent_of part) (expressions_among (nodes_above (nodes_of unit) surroundings (parent_of part)))
            (is_statement_expression (kind_at (nodes_of unit) (parent_of part))) (stands_among root (parent_of part) inside kind above rest)
      ])

  module _ (trees : EachStandsForOneTree unit) (firsts : List ℕ) (first : AreFirsts surroundings firsts) where
    expression_within : (root : ℕ) → is_statement_expression (kind_at (nodes_of unit) root) ≡ true → root < length unit.nodes
    expression_within root kind =
        elim (cases_lt root (length unit.nodes)) [
          | inl within ↦ within
          | inr past ↦ absurd (cc (sym (ap (λ (node : TreeNode (List ℕ)). is_statement_expression node.kind) (node_past (nodes_of unit) root (omega (arith, past, count)))) ∙ kind))
        ]

    -- where a node is a statement expression, it is around what stands in its run
    pub around_is : (root part : ℕ)
        → is_among root (expressions_around (nodes_of unit) surroundings part)
        ≡ (is_statement_expression (kind_at (nodes_of unit) root) && is_in_run firsts root part)
    around_is root part =
        same-tests (is_among root (expressions_around (nodes_of unit) surroundings part)) (is_statement_expression (kind_at (nodes_of unit) root))
        (is_in_run firsts root part)
        (λ is.
        let around = among_stands (length (nodes_of unit) - part) root part is in
        (around.2, stands_run trees firsts first root part (expression_within root around.2) around.1 around.0))
        (λ kind in_run.
        let before = (facts_of_run root (length firsts) (first_at firsts root) part in_run).2 in
        stands_among root part (omega (arith, expression_within root kind, count)) kind before (run_stands trees firsts first root part in_run))
