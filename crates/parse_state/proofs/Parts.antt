-- The tree of a handle is that of the node there, over the trees of its children.
use Rattle.std.proofs.Common.{◌≡◌, ℕ, zero, suc, ◌-◌, ◌<◌, ◌≤◌, Bool, true, false, ◌&&◌, List, [], ◌∷◌, map, reverse, length, slice_get, Option, Some, None, option_map, All, ⊎_elim, if◌then◌else◌, refl, sym, ap, ap₂, subst, ◌∙◌, arith}
use Rattle.std.specs.List.{list_all}
use Rattle.vocabulary.specs.declared.node_kind.NodeKind.{NodeKind}
use Rattle.vocabulary.specs.declared.node_kind.NodeKind.TheVariants.{FunctionDeclarator, ParenthesizedAttributes}
use Rattle.std.proofs.lemmas.Bool.{and_parts, ltb-true}
use Rattle.std.proofs.lemmas.List.Elements.{All-head, All-tail}
use Rattle.std.proofs.lemmas.Option.{same_Some, slice_get-map, slice_get_cases, slice_get_within}
use Rattle.meaning_tree.specs.Trees.{SyntaxTree, Node, Parts, NoParts, Part}
use Rattle.meaning_tree.specs.Nodes.{TreeNode, NodeList, HasNode, ChildrenStandBefore, StandsFor, StandFor}
use Rattle.meaning_tree.specs.Listed.{tree_at, parts_at, tree_over, trees_of, renamed_node, renamed_list}
use Rattle.meaning_tree.specs.LookUps.{node_at}
use Rattle.meaning_tree.proofs.ListedStand.{listed_stand}
use Rattle.meaning_tree.proofs.LookingUp.{node_at-exact}
use Rattle.meaning_tree.proofs.Standing.{StandsFor-unique}
use Rattle.meaning_derivation.specs.Lists.{part_count}
use Rattle.meaning_derivation.specs.Scoping as scoping
use Rattle.meaning_derivation.specs.Scoping.{are_without_form, parameters_in, own_parameters, parts_below}
use Rattle.sparse_model.specs.declared.ids.NameId.{NameId}
use Rattle.c_tokens.specs.Seen.{text_of}
use Rattle.meaning_derivation.specs.Values as values
use Rattle.parse_state.specs.declared.value.Value.{Value}
use Rattle.parse_state.specs.declared.value.Value.TheVariants.{Word, Tree}
use Rattle.parse_state.specs.declared.value.Value.TheVariants as kinds
use Rattle.parse_state.specs.Seen.{spelled_trees, value_of}
use Rattle.parse_state.specs.Giving.{has_handles_below}
use Rattle.parse_state.specs.Asking.{handle_in, count_in}
use Rattle.parse_state.specs.Parameters.{is_without_form, list_begins, list_behind, nearer_part, own_list}
use Rattle.parse_state.proofs.Stacks.{all-reverse}
use Rattle.parse_state.proofs.Seeing.{seen, value_at-seen}
use Rattle.parse_state.proofs.Ending.{order-renamed}

children_stand : (list : NodeList (List ℕ)) (trees : List SyntaxTree) (end : ℕ) → ((handle : ℕ) → handle < end → StandsFor list handle (tree_at trees handle))
    → (children : List (ℕ × ℕ)) → All (λ child. (list.first ≤ child.0) × (child.0 < end)) children → StandFor list children (parts_at trees children)
children_stand list trees end stand [] below = tt
children_stand list trees end stand (child ∷ children) below =
    let one = All-head (λ (child : ℕ × ℕ). (list.first ≤ child.0) × (child.0 < end)) child children below in
    let rest = All-tail (λ (child : ℕ × ℕ). (list.first ≤ child.0) × (child.0 < end)) child children below in
    (refl, stand child.0 one.1, children_stand list trees end stand children rest)

-- in a list that begins with handle 0
tree_is_over : (list : NodeList (List ℕ)) → list.first ≡ 0 → ChildrenStandBefore list → (handle : ℕ) (node : TreeNode (List ℕ)) → HasNode list handle node
    → tree_at (trees_of list) handle ≡ tree_over (trees_of list) node
tree_is_over list first order handle node has =
    let within : handle - list.first < length list.nodes = slice_get_within list.nodes (handle - list.first) node has.1 in
    let below : handle < length list.nodes = omega (arith, first, within) in
    let stand : (other : ℕ) → other < handle → StandsFor list other (tree_at (trees_of list) other) = λ other before. listed_stand list first order other (omega (arith, before, below)) in
    let over : StandsFor list handle (tree_over (trees_of list) node) = (node.children, has, children_stand list (trees_of list) handle stand node.children (order handle node has)) in
    StandsFor-unique list handle (tree_at (trees_of list) handle) (tree_over (trees_of list) node) (listed_stand list first order handle below) over

pub node_seen : (names : List (List ℕ)) (list : NodeList NameId) → list.first ≡ 0 → ChildrenStandBefore list → (handle : ℕ) (node : TreeNode NameId) → HasNode list handle node
    → tree_at (spelled_trees names list) handle ≡ tree_over (spelled_trees names list) (renamed_node (text_of names) node)
node_seen names list first order handle node has =
    tree_is_over (renamed_list (text_of names) list) first (order-renamed (text_of names) list order) handle (renamed_node (text_of names) node)
    (has.0, slice_get-map (renamed_node (text_of names)) list.nodes (handle - list.first) ∙ ap (option_map (renamed_node (text_of names))) has.1)

-- Values by their handles

module _ (names : List (List ℕ)) (trees : List SyntaxTree) where
  tree_found : (found : Option Value) (handle : ℕ) → handle_in found ≡ Some handle → seen (value_of names trees) found ≡ values.TreeValue (tree_at trees handle)
  tree_found None handle is = absurd (cc is)
  tree_found (Some (Word token name)) handle is = absurd (cc is)
  tree_found (Some (Tree other)) handle is = ap (λ one. values.TreeValue (tree_at trees one)) (same_Some _ _ is)
  tree_found (Some (kinds.List children)) handle is = absurd (cc is)

  -- the tree so far below the top is that of its handle
  pub tree_seen : (stack : List Value) (depth handle : ℕ) → handle_in (slice_get stack depth) ≡ Some handle
      → values.value_at (map (value_of names trees) stack) depth ≡ values.TreeValue (tree_at trees handle)
  tree_seen stack depth handle is = value_at-seen (value_of names trees) stack depth ∙ tree_found (slice_get stack depth) handle is

  -- what is said of words and lists alike holds where no tree stands
  module _ {X : Type 0} (f : values.Value → X) (x : X) (of_word : (token : ℕ) (text : List ℕ) → f (values.WordValue token text) ≡ x)
      (of_list : (parts : Parts (List ℕ)) → f (values.ListValue parts) ≡ x) where
    none_found : (found : Option Value) → handle_in found ≡ None → f (seen (value_of names trees) found) ≡ x
    none_found None is = of_word 0 []
    none_found (Some (Word token name)) is = of_word token (text_of names name)
    none_found (Some (Tree handle)) is = absurd (cc is)
    none_found (Some (kinds.List children)) is = of_list (parts_at trees children)

    pub no_tree_seen : (stack : List Value) (depth : ℕ) → handle_in (slice_get stack depth) ≡ None → f (values.value_at (map (value_of names trees) stack) depth) ≡ x
    no_tree_seen stack depth is = ap f (value_at-seen (value_of names trees) stack depth) ∙ none_found (slice_get stack depth) is

-- a known handle has a node
pub node_there : (list : NodeList NameId) (handle : ℕ) → list.first ≤ handle → handle - list.first < length list.nodes → (node : TreeNode NameId) × (node_at list handle ≡ Some node)
node_there list handle from within =
    ⊎_elim
    (λ found. (found.0, (node_at-exact list handle found.0).1 (from, found.2)))
    (λ past. let outside = past.0 in absurd (omega (arith, within, outside)))
    (slice_get_cases list.nodes (handle - list.first)).1

handle_in_front : (end : ℕ) (stack : List Value) (depth handle : ℕ) → list_all (has_handles_below end) stack ≡ true → handle_in (slice_get stack depth) ≡ Some handle → handle < end
handle_in_front end [] depth handle below is = absurd (cc is)
handle_in_front end (value ∷ stack) zero handle below is = here value (and_parts (has_handles_below end value) (list_all (has_handles_below end) stack) below).0 is
  where
    here : (one : Value) → has_handles_below end one ≡ true → handle_in (Some one) ≡ Some handle → handle < end
    here (Word token name) known stands = absurd (cc stands)
    here (Tree other) known stands = subst (λ it. it < end) (same_Some _ _ stands) (ltb-true other end known)
    here (kinds.List children) known stands = absurd (cc stands)
handle_in_front end (value ∷ stack) (suc depth) handle below is =
    handle_in_front end stack depth handle (and_parts (has_handles_below end value) (list_all (has_handles_below end) stack) below).1 is

-- a handle on the stack is known
pub handle_known : (end : ℕ) (stack : List Value) (depth handle : ℕ) → list_all (has_handles_below end) stack ≡ true → handle_in (slice_get (reverse stack) depth) ≡ Some handle → handle < end
handle_known end stack depth handle below is = handle_in_front end (reverse stack) depth handle (all-reverse (has_handles_below end) stack below) is

-- Parameter lists

begins-seen : (kind : NodeKind) (token : ℕ) (name : List ℕ) (number : ℕ) (parts : Parts (List ℕ)) → parameters_in (Node kind token name number parts) ≡ list_begins kind token
begins-seen FunctionDeclarator token name number parts = refl
begins-seen kind token name number parts = refl

pub form-seen : (kind : NodeKind) (token : ℕ) (name : List ℕ) (number : ℕ) (parts : Parts (List ℕ))
    → scoping.is_without_form (Node kind token name number parts) ≡ is_without_form kind
form-seen ParenthesizedAttributes token name number parts = refl
form-seen kind token name number parts = refl

-- of the parts behind one that has form, the last one with form counts
pub nearest : (form others : Bool) (found begun rest : Option ℕ)
    → (if others then (if form then found else begun) else rest) ≡ (if form && others then found else (if others then begun else rest))
nearest true true found begun rest = refl
nearest true false found begun rest = refl
nearest false true found begun rest = refl
nearest false false found begun rest = refl

-- without one there is no parameter list
none_without_form : (parts : Parts (List ℕ)) → are_without_form parts ≡ true → own_parameters parts ≡ None
none_without_form NoParts are = refl
none_without_form (Part role (Node ParenthesizedAttributes token name number below) parts) are =
    ap (λ (others : Bool). if others then None else own_parameters parts) are
none_without_form (Part role (Node kind token name number below) parts) are = absurd (cc are)

module _ (names : List (List ℕ)) (list : NodeList NameId) (first : list.first ≡ 0) (order : ChildrenStandBefore list) where
  -- a part that was looked up
  part_seen : (handle : ℕ) (found : Option ℕ) → handle < length list.nodes
      → nearer_part found (node_at list handle)
      ≡ (if scoping.is_without_form (tree_at (spelled_trees names list) handle) then found else parameters_in (tree_at (spelled_trees names list) handle))
  part_seen handle found below =
      let (node, there) = node_there list handle (omega (arith, first)) (omega (arith, first, below)) in
      let parts = parts_at (spelled_trees names list) node.children in
      let is = node_seen names list first order handle node ((node_at-exact list handle node).0 there) in
      ap (nearer_part found) there
      ∙ sym (ap₂ (λ (form : Bool) (begun : Option ℕ). if form then found else begun)
      (ap scoping.is_without_form is ∙ form-seen node.kind node.token (text_of names node.name) node.number parts)
      (ap parameters_in is ∙ begins-seen node.kind node.token (text_of names node.name) node.number parts))

  -- what stands nearest to the name among children, behind what was found
  list_behind-seen : (end : ℕ) → end ≤ length list.nodes → (found : Option ℕ) (children : List (ℕ × ℕ))
      → All (λ child. (list.first ≤ child.0) × (child.0 < end)) children
      → list_behind list found children
      ≡ (if are_without_form (parts_at (spelled_trees names list) children) then found else own_parameters (parts_at (spelled_trees names list) children))
  list_behind-seen end within found [] below = refl
  list_behind-seen end within found (child ∷ children) below =
      let one = All-head (λ (child : ℕ × ℕ). (list.first ≤ child.0) × (child.0 < end)) child children below in
      let before = one.1 in
      let parts = parts_at (spelled_trees names list) children in
      let tree = tree_at (spelled_trees names list) child.0 in
      list_behind-seen end within (nearer_part found (node_at list child.0)) children
      (All-tail (λ (child : ℕ × ℕ). (list.first ≤ child.0) × (child.0 < end)) child children below)
      ∙ ap (λ (nearer : Option ℕ). if are_without_form parts then nearer else own_parameters parts) (part_seen child.0 found (omega (arith, before, within)))
      ∙ nearest (scoping.is_without_form tree) (are_without_form parts) found (parameters_in tree) (own_parameters parts)

  none_left : (parts : Parts (List ℕ)) (are : Bool) → are_without_form parts ≡ are → (if are then None else own_parameters parts) ≡ own_parameters parts
  none_left parts true are = sym (none_without_form parts are)
  none_left parts false are = refl

  -- the parameter list directly at the name
  pub own_parameters-seen : (end : ℕ) → end ≤ length list.nodes → (children : List (ℕ × ℕ)) → All (λ child. (list.first ≤ child.0) × (child.0 < end)) children
      → own_parameters (parts_at (spelled_trees names list) children) ≡ own_list list children
  own_parameters-seen end within children below =
      let parts = parts_at (spelled_trees names list) children in
      sym (list_behind-seen end within None children below ∙ none_left parts (are_without_form parts) refl)

  pub node_parameters-seen : (handle : ℕ) (node : TreeNode NameId) → HasNode list handle node
      → own_parameters (parts_below (values.TreeValue (tree_at (spelled_trees names list) handle))) ≡ own_list list node.children
  node_parameters-seen handle node has =
      let within : handle - list.first < length list.nodes = slice_get_within list.nodes (handle - list.first) node has.1 in
      ap (λ tree. own_parameters (parts_below (values.TreeValue tree))) (node_seen names list first order handle node has)
      ∙ own_parameters-seen handle (omega (arith, first, within)) node.children (order handle node has)

-- How many parts a list has

part_count-seen : (trees : List SyntaxTree) (children : List (ℕ × ℕ)) → part_count (parts_at trees children) ≡ length children
part_count-seen trees [] = refl
part_count-seen trees (child ∷ children) = let rest = part_count-seen trees children in omega (arith, rest)

count_found : (names : List (List ℕ)) (trees : List SyntaxTree) (found : Option Value) → part_count (values.parts_of (seen (value_of names trees) found)) ≡ count_in found
count_found names trees None = refl
count_found names trees (Some (Word token name)) = refl
count_found names trees (Some (Tree handle)) = refl
count_found names trees (Some (kinds.List children)) = part_count-seen trees children

pub part_count-at : (names : List (List ℕ)) (trees : List SyntaxTree) (stack : List Value) (depth : ℕ)
    → part_count (values.parts_of (values.value_at (map (value_of names trees) stack) depth)) ≡ count_in (slice_get stack depth)
part_count-at names trees stack depth =
    ap (λ value. part_count (values.parts_of value)) (value_at-seen (value_of names trees) stack depth) ∙ count_found names trees (slice_get stack depth)

-- Where a tree stands

pub stands_at-seen : (names : List (List ℕ)) (list : NodeList NameId) → list.first ≡ 0 → ChildrenStandBefore list → (handle : ℕ) (node : TreeNode NameId) → HasNode list handle node
    → values.stands_at (values.TreeValue (tree_at (spelled_trees names list) handle)) ≡ node.token
stands_at-seen names list first order handle node has = ap (λ tree. values.stands_at (values.TreeValue tree)) (node_seen names list first order handle node has)
