-- A parameter that has its function's own name is found by its handle as by its tree, and gets another number there.
use Rattle.std.proofs.Common.{◌≡◌, ℕ, ◌-◌, ◌<◌, ◌≤◌, Bool, true, false, ◌||◌, List, [], ◌∷◌, length, Option, Some, None, is_some, if◌then◌else◌, refl, sym, ap, ap₂, subst, ◌∙◌, arith}
use Rattle.std.specs.List.{list_all}
use Rattle.std.proofs.lemmas.Bool.{and_parts, lt-ltb, ltb-true}
use Rattle.std.proofs.lemmas.Option.{same_Some, slice_get_within}
use Rattle.vocabulary.specs.declared.node_kind.NodeKind.{NodeKind}
use Rattle.vocabulary.specs.declared.node_kind.NodeKind.TheVariants.{Declarator, FunctionDeclarator}
use Rattle.vocabulary.specs.Roles.{role_of}
use Rattle.meaning_tree.specs.Trees.{SyntaxTree, Node, Parts, Part}
use Rattle.meaning_tree.specs.Nodes.{TreeNode, NodeList, HasNode, ChildrenStandBefore}
use Rattle.meaning_tree.specs.Listed.{tree_at, parts_at}
use Rattle.meaning_tree.specs.LookUps.{node_at}
use Rattle.meaning_tree.specs.Runs.{IsRun, AreRuns, run}
use Rattle.meaning_tree.proofs.Finding.{node_unique}
use Rattle.meaning_tree.proofs.LookingUp.{node_at-exact}
use Rattle.meaning_derivation.specs.Scoping.{first_changed, is_any_part, list_numbered, numbered, own_list_numbered, parameter_numbered}
use Rattle.meaning_derivation.specs.Scoping as scoping
use Rattle.sparse_model.specs.declared.ids.NameId.{NameId}
use Rattle.c_tokens.specs.Seen.{text_of}
use Rattle.c_tokens.specs.Spellings.{AreApart}
use Rattle.parse_state.specs.Giving.{is_below}
use Rattle.parse_state.specs.OwnNames.{children_at, children_in, declarator_in, first_child, first_found, handle_behind, is_declarator_of, is_named, is_named_node, nearer_handle, own_parameter, parameter_among, parameter_in}
use Rattle.parse_state.specs.Parameters.{is_without_form, list_begins}
use Rattle.parse_state.specs.Seen.{spelled_trees}
use Rattle.parse_state.specs.Soundness.{is_known}
use Rattle.parse_state.proofs.DeclaredNames.{node_name_known}
use Rattle.parse_state.proofs.Naming.{same_text}
use Rattle.parse_state.proofs.OtherNumbers.{all_without, apart_but_one, AreTested, AreWithoutTested, first_changed_is, first_within, Has, new_tree, over_changed, own_child, own_list_is, own_within, parent_has, runs_within, self_has, self_numbered, without-tested}
use Rattle.parse_state.proofs.Parts.{form-seen, nearest, node_seen, node_there}
use Rattle.parse_state.proofs.SpecifiedKinds.{children_known}

-- The first child that is so

module _ (is_so : ℕ → Bool) (found : ℕ) where
  so_head : (test : Bool) (child : ℕ) (others : Option ℕ) → is_so child ≡ test → (if test then Some child else others) ≡ Some found → (others ≡ Some found → is_so found ≡ true)
      → is_so found ≡ true
  so_head true child others is found_so rest = ap is_so (sym (same_Some child found found_so)) ∙ is
  so_head false child others is found_so rest = rest found_so

  -- it is so
  pub found_is_so : (children : List (ℕ × ℕ)) → first_child is_so children ≡ Some found → is_so found ≡ true
  found_is_so [] is = absurd (cc is)
  found_is_so (child ∷ children) is = so_head (is_so child.0) child.0 (first_child is_so children) refl is (found_is_so children)

  below_head : (test : Bool) (end child : ℕ) (others : Option ℕ) → child < end → (if test then Some child else others) ≡ Some found → (others ≡ Some found → found < end) → found < end
  below_head true end child others below is rest = subst (λ (at : ℕ). at < end) (same_Some child found is) below
  below_head false end child others below is rest = rest is

  pub found_below : (end : ℕ) (children : List (ℕ × ℕ)) → list_all (is_below end) children ≡ true → first_child is_so children ≡ Some found → found < end
  found_below end [] below is = absurd (cc is)
  found_below end (child ∷ children) below is =
      let halves = and_parts (is_below end child) (list_all (is_below end) children) below in
      below_head (is_so child.0) end child.0 (first_child is_so children) (ltb-true child.0 end halves.0) is (found_below end children halves.1)

-- The first declarator in the first parameter that has one

module _ (list : NodeList NameId) (name : NameId) where
  abbrev pub has_declarator : ℕ → Bool
  has_declarator parameter = is_some (declarator_in list name parameter)

  path_head : (found : Option ℕ) (child : ℕ × ℕ) (children : List (ℕ × ℕ)) (declarator : ℕ) → declarator_in list name child.0 ≡ found
      → first_found found (parameter_among list name children) ≡ Some declarator
      → (parameter_among list name children ≡ Some declarator → (parameter : ℕ) × (first_child has_declarator children ≡ Some parameter) × (declarator_in list name parameter ≡ Some declarator))
      → (parameter : ℕ) × (first_child has_declarator (child ∷ children) ≡ Some parameter) × (declarator_in list name parameter ≡ Some declarator)
  path_head None child children declarator here is rest =
      let (parameter, there, found) = rest is in
      (parameter, ap (λ (one : Option ℕ). if is_some one then Some child.0 else first_child has_declarator children) here ∙ there, found)
  path_head (Some one) child children declarator here is rest =
      (child.0, ap (λ (one : Option ℕ). if is_some one then Some child.0 else first_child has_declarator children) here, here ∙ is)

  pub parameter_path : (children : List (ℕ × ℕ)) (declarator : ℕ) → parameter_among list name children ≡ Some declarator
      → (parameter : ℕ) × (first_child has_declarator children ≡ Some parameter) × (declarator_in list name parameter ≡ Some declarator)
  parameter_path [] declarator is = absurd (cc is)
  parameter_path (child ∷ children) declarator is = path_head (declarator_in list name child.0) child children declarator refl is (parameter_path children declarator)

  none_head : (found : Option ℕ) (child : ℕ × ℕ) (children : List (ℕ × ℕ)) → declarator_in list name child.0 ≡ found → first_found found (parameter_among list name children) ≡ None
      → (parameter_among list name children ≡ None → first_child has_declarator children ≡ None) → first_child has_declarator (child ∷ children) ≡ None
  none_head None child children here is rest = ap (λ (one : Option ℕ). if is_some one then Some child.0 else first_child has_declarator children) here ∙ rest is
  none_head (Some one) child children here is rest = absurd (cc is)

  pub no_parameter : (children : List (ℕ × ℕ)) → parameter_among list name children ≡ None → first_child has_declarator children ≡ None
  no_parameter [] is = refl
  no_parameter (child ∷ children) is = none_head (declarator_in list name child.0) child children refl is (no_parameter children)

  pub list_path : (lists : Option ℕ) (declarator : ℕ) → parameter_in list name lists ≡ Some declarator
      → (parameters : ℕ) × (lists ≡ Some parameters) × (parameter_among list name (children_at list parameters) ≡ Some declarator)
  list_path None declarator is = absurd (cc is)
  list_path (Some parameters) declarator is = (parameters, refl, is)

-- The parameter list directly at the name

abbrev pub without_node : Option (TreeNode NameId) → Bool
without_node None = true
without_node (Some node) = is_without_form node.kind

abbrev pub list_here : Option (TreeNode NameId) → ℕ → Option ℕ
list_here None handle = None
list_here (Some node) handle = list_begins node.kind handle

nearer-is : (found : Option ℕ) (handle : ℕ) (node : Option (TreeNode NameId)) → nearer_handle found handle node ≡ (if without_node node then found else list_here node handle)
nearer-is found handle None = refl
nearer-is found handle (Some node) = refl

without_begins : (kind : NodeKind) (handle : ℕ) → is_without_form kind ≡ true → list_begins kind handle ≡ None
without_begins FunctionDeclarator handle is = absurd (cc is)
without_begins kind handle is = refl

no_list_here : (node : Option (TreeNode NameId)) (handle : ℕ) → without_node node ≡ true → list_here node handle ≡ None
no_list_here None handle is = refl
no_list_here (Some node) handle is = without_begins node.kind handle is

begins_same : (kind : NodeKind) (handle found : ℕ) → list_begins kind handle ≡ Some found → handle ≡ found
begins_same FunctionDeclarator handle found is = same_Some handle found is
begins_same kind handle found is = absurd (cc is)

here_same : (node : Option (TreeNode NameId)) (handle found : ℕ) → list_here node handle ≡ Some found → handle ≡ found
here_same None handle found is = absurd (cc is)
here_same (Some node) handle found is = begins_same node.kind handle found is

module _ (list : NodeList NameId) where
  abbrev pub is_without : ℕ → Bool
  is_without handle = without_node (node_at list handle)

  abbrev pub begun_at : ℕ → Option ℕ
  begun_at handle = list_here (node_at list handle) handle

  abbrev own_begun : List (ℕ × ℕ) → Option ℕ
  own_begun [] = None
  own_begun (child ∷ children) = if all_without is_without children then begun_at child.0 else own_begun children

  behind-is : (found : Option ℕ) (children : List (ℕ × ℕ)) → handle_behind list found children ≡ (if all_without is_without children then found else own_begun children)
  behind-is found [] = refl
  behind-is found (child ∷ children) =
      behind-is (nearer_handle found child.0 (node_at list child.0)) children
      ∙ ap (λ (nearer : Option ℕ). if all_without is_without children then nearer else own_begun children) (nearer-is found child.0 (node_at list child.0))
      ∙ nearest (is_without child.0) (all_without is_without children) found (begun_at child.0) (own_begun children)

  none_begun : (children : List (ℕ × ℕ)) → all_without is_without children ≡ true → own_begun children ≡ None
  none_begun [] all = refl
  none_begun (child ∷ children) all =
      let halves = and_parts (is_without child.0) (all_without is_without children) all in
      ap (λ (test : Bool). if test then begun_at child.0 else own_begun children) halves.1 ∙ no_list_here (node_at list child.0) child.0 halves.0

  none_left : (children : List (ℕ × ℕ)) (all : Bool) → all_without is_without children ≡ all → (if all then None else own_begun children) ≡ own_begun children
  none_left children true all = sym (none_begun children all)
  none_left children false all = refl

  begun-is : (children : List (ℕ × ℕ)) → handle_behind list None children ≡ own_begun children
  begun-is children = behind-is None children ∙ none_left children (all_without is_without children) refl

  own_head : (test : Bool) (child : ℕ × ℕ) (children : List (ℕ × ℕ)) (found : ℕ) → all_without is_without children ≡ test
      → (if test then begun_at child.0 else own_begun children) ≡ Some found
      → (own_begun children ≡ Some found → (own_child is_without children ≡ Some found) × (begun_at found ≡ Some found))
      → (own_child is_without (child ∷ children) ≡ Some found) × (begun_at found ≡ Some found)
  own_head true child children found all is rest =
      let same = here_same (node_at list child.0) child.0 found is in
      (ap (λ (test : Bool). if test then Some child.0 else own_child is_without children) all ∙ ap Some same, subst (λ (at : ℕ). begun_at at ≡ Some found) same is)
  own_head false child children found all is rest =
      let (own, begun) = rest is in (ap (λ (test : Bool). if test then Some child.0 else own_child is_without children) all ∙ own, begun)

  own_path-begun : (children : List (ℕ × ℕ)) (found : ℕ) → own_begun children ≡ Some found → (own_child is_without children ≡ Some found) × (begun_at found ≡ Some found)
  own_path-begun [] found is = absurd (cc is)
  own_path-begun (child ∷ children) found is = own_head (all_without is_without children) child children found refl is (own_path-begun children found)

  -- it is the child there, and a parameter list
  pub own_path : (children : List (ℕ × ℕ)) (found : ℕ) → handle_behind list None children ≡ Some found → (own_child is_without children ≡ Some found) × (begun_at found ≡ Some found)
  own_path children found is = own_path-begun children found (sym (begun-is children) ∙ is)

  other_head : (test : Bool) (child : ℕ × ℕ) (children : List (ℕ × ℕ)) (own : ℕ) → (if test then begun_at child.0 else own_begun children) ≡ own_begun (child ∷ children)
      → (if test then Some child.0 else own_child is_without children) ≡ Some own → (own_child is_without children ≡ Some own → own_begun children ≡ begun_at own)
      → own_begun (child ∷ children) ≡ begun_at own
  other_head true child children own all is rest = sym all ∙ ap begun_at (same_Some child.0 own is)
  other_head false child children own all is rest = sym all ∙ rest is

  own_begun-is : (children : List (ℕ × ℕ)) (own : ℕ) → own_child is_without children ≡ Some own → own_begun children ≡ begun_at own
  own_begun-is [] own is = absurd (cc is)
  own_begun-is (child ∷ children) own is = other_head (all_without is_without children) child children own refl is (own_begun-is children own)

  -- what is found is what the child there is
  pub behind_own : (children : List (ℕ × ℕ)) (own : ℕ) → own_child is_without children ≡ Some own → handle_behind list None children ≡ begun_at own
  behind_own children own is = begun-is children ∙ own_begun-is children own is

  here_listed : list.first ≡ 0 → (node : Option (TreeNode NameId)) (handle found : ℕ) → node_at list handle ≡ node → list_here node handle ≡ Some found → handle < length list.nodes
  here_listed starts None handle found at is = absurd (cc is)
  here_listed starts (Some node) handle found at is =
      let has = (node_at-exact list handle node).0 at in
      let within : handle - list.first < length list.nodes = slice_get_within list.nodes (handle - list.first) node has.1 in
      omega (arith, starts, within)

  pub list_listed : list.first ≡ 0 → (children : List (ℕ × ℕ)) (found : ℕ) → handle_behind list None children ≡ Some found → found < length list.nodes
  list_listed starts children found is = here_listed starts (node_at list found) found found refl (own_path children found is).1

-- Trees

module _ (names : List (List ℕ)) (list : NodeList NameId) (starts : list.first ≡ 0) (order : ChildrenStandBefore list) where
  abbrev tree_of : ℕ → SyntaxTree
  tree_of root = tree_at (spelled_trees names list) root

  abbrev parts_of : List (ℕ × ℕ) → Parts (List ℕ)
  parts_of children = parts_at (spelled_trees names list) children

  abbrev is_listed : ℕ → Type 0
  is_listed handle = handle < length list.nodes

  abbrev pub AreListed : List (ℕ × ℕ) → Type 0
  AreListed children = list_all (is_below (length list.nodes)) children ≡ true

  -- a node with what was said of it
  pub known_node : (handle : ℕ) → handle < length list.nodes → (node : TreeNode NameId) × HasNode list handle node × (node_at list handle ≡ Some node)
  known_node handle below =
      let (node, found) = node_there list handle (omega (arith, starts)) (omega (arith, starts, below)) in
      (node, (node_at-exact list handle node).0 found, found)

  children_listed : (handle : ℕ) → handle < length list.nodes → AreListed (children_at list handle)
  children_listed handle below =
      let (node, has, found) = known_node handle below in
      ap (λ (one : Option (TreeNode NameId)). list_all (is_below (length list.nodes)) (children_in one)) found
      ∙ children_known names list starts order handle node has

  -- one test of trees and of handles
  abbrev pub IsTest : (is_so : SyntaxTree → Bool) → (is_here : ℕ → Bool) → Type 0
  IsTest is_so is_here = (handle : ℕ) → handle < length list.nodes → is_so (tree_of handle) ≡ is_here handle

  module _ (is_so : SyntaxTree → Bool) (is_here : ℕ → Bool) (test : IsTest is_so is_here) where
    some_or : (one : Bool) (handle : ℕ) (others : Option ℕ) → (one || is_some others) ≡ is_some (if one then Some handle else others)
    some_or true handle others = refl
    some_or false handle others = refl

    any-seen : (children : List (ℕ × ℕ)) → AreListed children → is_any_part is_so (parts_of children) ≡ is_some (first_child is_here children)
    any-seen [] below = refl
    any-seen (child ∷ children) below =
        let halves = and_parts (is_below (length list.nodes) child) (list_all (is_below (length list.nodes)) children) below in
        ap₂ (λ (one rest : Bool). one || rest) (test child.0 (ltb-true child.0 (length list.nodes) halves.0)) (any-seen children halves.1)
        ∙ some_or (is_here child.0) child.0 (first_child is_here children)

    module _ (changed : SyntaxTree → SyntaxTree) where
      unchanged_head : (one : Bool) (child : ℕ × ℕ) (others : Option ℕ) (changed_parts parts : Parts (List ℕ)) → (if one then Some child.0 else others) ≡ None → (others ≡ None → changed_parts ≡ parts)
          → (if one then Part (role_of child.1) (changed (tree_of child.0)) parts else Part (role_of child.1) (tree_of child.0) changed_parts) ≡ Part (role_of child.1) (tree_of child.0) parts
      unchanged_head true child others changed_parts parts is rest = absurd (cc is)
      unchanged_head false child others changed_parts parts is rest = ap (λ (all : Parts (List ℕ)). Part (role_of child.1) (tree_of child.0) all) (rest is)

      -- where none is so, all stay
      none_changed : (children : List (ℕ × ℕ)) → AreListed children → first_child is_here children ≡ None → first_changed is_so changed (parts_of children) ≡ parts_of children
      none_changed [] below is = refl
      none_changed (child ∷ children) below is =
          let halves = and_parts (is_below (length list.nodes) child) (list_all (is_below (length list.nodes)) children) below in
          ap (λ (one : Bool). if one then Part (role_of child.1) (changed (tree_of child.0)) (parts_of children)
          else Part (role_of child.1) (tree_of child.0) (first_changed is_so changed (parts_of children))) (test child.0 (ltb-true child.0 (length list.nodes) halves.0))
          ∙ unchanged_head (is_here child.0) child (first_child is_here children) (first_changed is_so changed (parts_of children)) (parts_of children) is (none_changed children halves.1)

  form_test : IsTest scoping.is_without_form (is_without list)
  form_test handle below =
      let (node, has, found) = known_node handle below in
      ap scoping.is_without_form (node_seen names list starts order handle node has)
      ∙ form-seen node.kind node.token (text_of names node.name) node.number (parts_of node.children)
      ∙ sym (ap without_node found)

  -- the tests of lists of children

  tests : (is_so : SyntaxTree → Bool) (is_here : ℕ → Bool) → IsTest is_so is_here → (handle number found : ℕ) (children : List (ℕ × ℕ)) → AreListed children
      → AreTested names list starts order handle number is_here found is_so children
  tests is_so is_here test handle number found [] below = tt
  tests is_so is_here test handle number found (child ∷ children) below =
      let halves = and_parts (is_below (length list.nodes) child) (list_all (is_below (length list.nodes)) children) below in
      (test child.0 (ltb-true child.0 (length list.nodes) halves.0), tests is_so is_here test handle number found children halves.1)

  without_tests : (handle number found : ℕ) (children : List (ℕ × ℕ)) → AreListed children
      → AreWithoutTested names list starts order handle number (is_without list) found children
  without_tests handle number found [] below = tt
  without_tests handle number found (child ∷ children) below =
      let halves = and_parts (is_below (length list.nodes) child) (list_all (is_below (length list.nodes)) children) below in
      (form_test child.0 (ltb-true child.0 (length list.nodes) halves.0), without_tests handle number found children halves.1)

  -- the runs of a node's children
  runs_of : {first root : ℕ} → IsRun list first root → (node : TreeNode NameId) → HasNode list root node → AreRuns list node.children first root
  runs_of {first = first} {root = root} (run other also runs) node has =
      subst (λ (one : TreeNode NameId). AreRuns list one.children first root) (node_unique list root other node also has) runs

  -- Declarators of a name

  module _ (apart : AreApart names) (known : list_all (λ (one : TreeNode NameId). is_known names one.name) list.nodes ≡ true) (name : NameId) (name_known : is_known names name ≡ true) where
    abbrev text : List ℕ
    text = text_of names name

    named-seen : (kind : NodeKind) (own : NameId) (token number : ℕ) (parts : Parts (List ℕ)) → is_known names own ≡ true
        → scoping.is_declarator_of text (Node kind token (text_of names own) number parts) ≡ is_declarator_of kind own name
    named-seen Declarator own token number parts own_known = same_text names apart own name own_known name_known
    named-seen kind own token number parts own_known = refl

    declarator_test : IsTest (λ tree. scoping.is_declarator_of text tree) (is_named list name)
    declarator_test handle below =
        let (node, has, found) = known_node handle below in
        ap (λ (tree : SyntaxTree). scoping.is_declarator_of text tree) (node_seen names list starts order handle node has)
        ∙ named-seen node.kind node.name node.token node.number (parts_of node.children) (lt-ltb node.name.0 (length names) (node_name_known names list handle node known has))
        ∙ sym (ap (λ (one : Option (TreeNode NameId)). is_named_node name one) found)

    parameter_test : IsTest (λ tree. scoping.is_parameter_of text tree) (has_declarator list name)
    parameter_test handle below =
        let (node, has, found) = known_node handle below in
        ap (λ (tree : SyntaxTree). scoping.is_parameter_of text tree) (node_seen names list starts order handle node has)
        ∙ any-seen (λ tree. scoping.is_declarator_of text tree) (is_named list name) declarator_test node.children (children_known names list starts order handle node has)
        ∙ sym (ap (λ (one : Option (TreeNode NameId)). is_some (first_child (is_named list name) (children_in one))) found)

    -- Trees that stay

    module _ (number : ℕ) where
      list_kind : (kind : NodeKind) (token : ℕ) (own : List ℕ) (other : ℕ) (parts : Parts (List ℕ))
          → first_changed (λ tree. scoping.is_parameter_of text tree) (parameter_numbered text number) parts ≡ parts
          → list_numbered text number (Node kind token own other parts) ≡ Node kind token own other parts
      list_kind FunctionDeclarator token own other parts same = ap (λ (all : Parts (List ℕ)). Node FunctionDeclarator token own other all) same
      list_kind kind token own other parts same = refl

      no_list_kind : (kind : NodeKind) (token : ℕ) (own : List ℕ) (other : ℕ) (parts : Parts (List ℕ)) (handle : ℕ) → list_begins kind handle ≡ None
          → list_numbered text number (Node kind token own other parts) ≡ Node kind token own other parts
      no_list_kind FunctionDeclarator token own other parts handle is = absurd (cc is)
      no_list_kind kind token own other parts handle is = refl

      kind_list : (kind : NodeKind) (token : ℕ) (own : List ℕ) (other : ℕ) (parts : Parts (List ℕ)) (handle found : ℕ) → list_begins kind handle ≡ Some found
          → list_numbered text number (Node kind token own other parts)
          ≡ Node kind token own other (first_changed (λ tree. scoping.is_parameter_of text tree) (parameter_numbered text number) parts)
      kind_list FunctionDeclarator token own other parts handle found is = refl
      kind_list kind token own other parts handle found is = absurd (cc is)

      stays_so : (begun : Option ℕ) (handle : ℕ) (node : TreeNode NameId) → HasNode list handle node → node_at list handle ≡ Some node → begun_at list handle ≡ begun
          → parameter_in list name begun ≡ None
          → list_numbered text number (Node node.kind node.token (text_of names node.name) node.number (parts_of node.children))
          ≡ Node node.kind node.token (text_of names node.name) node.number (parts_of node.children)
      stays_so None handle node has found begins is =
          no_list_kind node.kind node.token (text_of names node.name) node.number (parts_of node.children) handle
          (ap (λ (one : Option (TreeNode NameId)). list_here one handle) (sym found) ∙ begins)
      stays_so (Some parameters) handle node has found begins is =
          let same = here_same (node_at list handle) handle parameters begins in
          let none : first_child (has_declarator list name) node.children ≡ None =
          ap (λ (one : Option (TreeNode NameId)). first_child (has_declarator list name) (children_in one)) (sym found)
          ∙ no_parameter list name (children_at list handle) (ap (λ (at : ℕ). parameter_among list name (children_at list at)) same ∙ is) in
          list_kind node.kind node.token (text_of names node.name) node.number (parts_of node.children)
          (none_changed (λ tree. scoping.is_parameter_of text tree) (has_declarator list name) parameter_test (parameter_numbered text number) node.children
          (children_known names list starts order handle node has) none)

      -- a parameter list without one
      list_stays : (handle : ℕ) → handle < length list.nodes → parameter_in list name (begun_at list handle) ≡ None → list_numbered text number (tree_of handle) ≡ tree_of handle
      list_stays handle below is =
          let (node, has, found) = known_node handle below in
          let seen = node_seen names list starts order handle node has in
          ap (list_numbered text number) seen ∙ stays_so (begun_at list handle) handle node has found refl is ∙ sym seen

      own_stays_head : (test : Bool) (child : ℕ × ℕ) (children : List (ℕ × ℕ)) → all_without (is_without list) children ≡ test
          → (own_child (is_without list) (child ∷ children) ≡ Some child.0 → list_numbered text number (tree_of child.0) ≡ tree_of child.0)
          → (all_without (is_without list) children ≡ false → own_list_numbered text number (parts_of children) ≡ parts_of children)
          → (if test then Part (role_of child.1) (list_numbered text number (tree_of child.0)) (parts_of children)
          else Part (role_of child.1) (tree_of child.0) (own_list_numbered text number (parts_of children))) ≡ Part (role_of child.1) (tree_of child.0) (parts_of children)
      own_stays_head true child children all stay rest =
          ap (λ (tree : SyntaxTree). Part (role_of child.1) tree (parts_of children)) (stay (ap (λ (test : Bool). if test then Some child.0 else own_child (is_without list) children) all))
      own_stays_head false child children all stay rest = ap (λ (parts : Parts (List ℕ)). Part (role_of child.1) (tree_of child.0) parts) (rest all)

      -- parts stay where the list directly at the name does
      own_stays : (children : List (ℕ × ℕ)) → AreListed children
          → ((own : ℕ) → own < length list.nodes → own_child (is_without list) children ≡ Some own → list_numbered text number (tree_of own) ≡ tree_of own)
          → own_list_numbered text number (parts_of children) ≡ parts_of children
      own_stays [] below stay = refl
      own_stays (child ∷ children) below stay =
          let halves = and_parts (is_below (length list.nodes) child) (list_all (is_below (length list.nodes)) children) below in
          ap (λ (test : Bool). if test then Part (role_of child.1) (list_numbered text number (tree_of child.0)) (parts_of children)
          else Part (role_of child.1) (tree_of child.0) (own_list_numbered text number (parts_of children)))
          (without-tested names list starts order 0 0 (is_without list) 0 children (without_tests 0 0 0 children halves.1))
          ∙ own_stays_head (all_without (is_without list) children) child children refl (stay child.0 (ltb-true child.0 (length list.nodes) halves.0))
          (λ all. own_stays children halves.1
          (λ own own_below is. stay own own_below (ap (λ (test : Bool). if test then Some child.0 else own_child (is_without list) children) all ∙ is)))

      -- a declarator without one
      pub declarator_stays : (root : ℕ) (node : TreeNode NameId) → HasNode list root node → own_parameter list name root ≡ None
          → own_list_numbered text number (parts_of node.children) ≡ parts_of node.children
      declarator_stays root node has is =
          let found : node_at list root ≡ Some node = (node_at-exact list root node).1 has in
          let none : parameter_in list name (handle_behind list None node.children) ≡ None =
          ap (λ (one : Option (TreeNode NameId)). parameter_in list name (handle_behind list None (children_in one))) (sym found) ∙ is in
          own_stays node.children (children_known names list starts order root node has)
          (λ own below own_is. list_stays own below (ap (λ (lists : Option ℕ). parameter_in list name lists) (sym (behind_own list node.children own own_is)) ∙ none))

      -- Trees that change

      module _ (target : ℕ) where
        abbrev after : ℕ → SyntaxTree
        after root = new_tree names list starts order target number root

        abbrev HasIt : ℕ → Type 0
        HasIt root = Has names list starts order target number root

        parameter_is : (begins parameter : ℕ) → IsRun list begins parameter → parameter < length list.nodes → declarator_in list name parameter ≡ Some target
            → (after parameter ≡ parameter_numbered text number (tree_of parameter)) × HasIt parameter × (target < parameter)
        parameter_is begins parameter is_run below is =
            let (node, has, found) = known_node parameter below in
            let runs = runs_of is_run node has in
            let here : first_child (is_named list name) node.children ≡ Some target =
            ap (λ (one : Option (TreeNode NameId)). first_child (is_named list name) (children_in one)) (sym found) ∙ is in
            let (from, target_run, low, high) =
            first_within names list starts order target number (is_named list name) target begins parameter node.children (runs_within names list starts order target number runs) here in
            let self = self_has names list starts order target number in
            let (place, but) = apart_but_one names list starts order target number runs in
            let tested = tests (λ tree. scoping.is_declarator_of text tree) (is_named list name) declarator_test target number target node.children
            (children_known names list starts order parameter node has) in
            let parts = first_changed_is names list starts order target number (is_named list name) target (λ tree. scoping.is_declarator_of text tree) (numbered number) self
            (self_numbered names list starts order target number from target_run) node.children place tested but here in (
              over_changed names list starts order target number parameter node
                  (first_changed (λ tree. scoping.is_declarator_of text tree) (numbered number) (parts_of node.children)) has (λ same. absurd (omega (arith, same, high))) parts
                  ∙ sym (ap (parameter_numbered text number) (node_seen names list starts order parameter node has)),
              parent_has names list starts order target number (is_named list name) target parameter node has here self,
              high,
            )

        list_is : (begins parameters : ℕ) → IsRun list begins parameters → parameters < length list.nodes → begun_at list parameters ≡ Some parameters
            → parameter_among list name (children_at list parameters) ≡ Some target
            → (after parameters ≡ list_numbered text number (tree_of parameters)) × HasIt parameters × (target < parameters)
        list_is begins parameters is_run below begun is =
            let (node, has, found) = known_node parameters below in
            let runs = runs_of is_run node has in
            let (parameter, among, inside) = parameter_path list name (children_at list parameters) target is in
            let here : first_child (has_declarator list name) node.children ≡ Some parameter =
            ap (λ (one : Option (TreeNode NameId)). first_child (has_declarator list name) (children_in one)) (sym found) ∙ among in
            let (from, parameter_run, low, high) =
            first_within names list starts order target number (has_declarator list name) parameter begins parameters node.children
            (runs_within names list starts order target number runs) here in
            let (changed, has_it, before) = parameter_is from parameter parameter_run (omega (arith, high, below)) inside in
            let (place, but) = apart_but_one names list starts order target number runs in
            let tested = tests (λ tree. scoping.is_parameter_of text tree) (has_declarator list name) parameter_test target number parameter node.children
            (children_known names list starts order parameters node has) in
            let parts = first_changed_is names list starts order target number (has_declarator list name) parameter (λ tree. scoping.is_parameter_of text tree)
            (parameter_numbered text number) has_it changed node.children place tested but here in
            let begins_so : list_begins node.kind parameters ≡ Some parameters = ap (λ (one : Option (TreeNode NameId)). list_here one parameters) (sym found) ∙ begun in (
              over_changed names list starts order target number parameters node
                  (first_changed (λ tree. scoping.is_parameter_of text tree) (parameter_numbered text number) (parts_of node.children)) has
                  (λ same. absurd (omega (arith, same, before, high))) parts
                  ∙ sym (kind_list node.kind node.token (text_of names node.name) node.number (parts_of node.children) parameters parameters begins_so)
                  ∙ sym (ap (list_numbered text number) (node_seen names list starts order parameters node has)),
              parent_has names list starts order target number (has_declarator list name) parameter parameters node has here has_it,
              omega (arith, before, high),
            )

        -- the declarator, whose nodes have the target
        pub declarator_is : (begins root : ℕ) (node : TreeNode NameId) → IsRun list begins root → HasNode list root node → own_parameter list name root ≡ Some target
            → (after root ≡ Node node.kind node.token (text_of names node.name) node.number (own_list_numbered text number (parts_of node.children)))
            × (begins ≤ target) × (target < root)
        declarator_is begins root node is_run has is =
            let found : node_at list root ≡ Some node = (node_at-exact list root node).1 has in
            let runs = runs_of is_run node has in
            let there : parameter_in list name (handle_behind list None node.children) ≡ Some target =
            ap (λ (one : Option (TreeNode NameId)). parameter_in list name (handle_behind list None (children_in one))) (sym found) ∙ is in
            let (parameters, behind, among) = list_path list name (handle_behind list None node.children) target there in
            let (own, begun) = own_path list node.children parameters behind in
            let (from, list_run, low, high) =
            own_within names list starts order target number (is_without list) parameters begins root node.children (runs_within names list starts order target number runs) own in
            let (changed, has_it, before) = list_is from parameters list_run (list_listed list starts node.children parameters behind) begun among in
            let (place, but) = apart_but_one names list starts order target number runs in
            let parts = own_list_is names list starts order target number (is_without list) parameters text has_it changed node.children place
            (without_tests target number parameters node.children (children_known names list starts order root node has)) but own in
            let (at_least, at_most) = has_it from list_run in (
              over_changed names list starts order target number root node (own_list_numbered text number (parts_of node.children)) has
                  (λ same. absurd (omega (arith, same, before, high))) parts,
              omega (arith, low, at_least),
              omega (arith, before, high),
            )
