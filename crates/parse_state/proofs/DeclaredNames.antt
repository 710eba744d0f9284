-- What is told of specifiers and declarators by their handles is told of their trees.
use Rattle.std.proofs.Common.{◌≡◌, ℕ, zero, suc, ◌-◌, ◌<◌, Bool, true, ◌||◌, List, [], ◌∷◌, map, reverse, length, slice_get, Option, Some, None, option_map, refl, sym, ap, ap₂, ◌∙◌, arith}
use Rattle.std.specs.List.{list_all}
use Rattle.std.proofs.lemmas.Bool.{and_parts, ltb-true}
use Rattle.std.proofs.lemmas.Option.{same_Some}
use Rattle.vocabulary.specs.declared.role.Role.{Role}
use Rattle.vocabulary.specs.Roles.{role_of}
use Rattle.vocabulary.specs.declared.node_kind.NodeKind.{NodeKind}
use Rattle.meaning_tree.specs.Trees.{SyntaxTree, Parts, NoParts, Part}
use Rattle.meaning_tree.specs.Nodes.{TreeNode, NodeList, HasNode, ChildrenStandBefore}
use Rattle.meaning_tree.specs.Listed.{tree_at, parts_at}
use Rattle.meaning_tree.specs.LookUps.{node_at}
use Rattle.meaning_tree.proofs.LookingUp.{node_at-exact}
use Rattle.meaning_scopes.specs.Scopes.{Found}
use Rattle.meaning_scopes.specs.Redeclaration.{bound_here}
use Rattle.meaning_derivation.specs.Values as values
use Rattle.meaning_derivation.specs.Storage.{has_kind, is_typedef, is_extern, class_with, storage_class}
use Rattle.sparse_model.specs.declared.ids.NameId.{NameId}
use Rattle.c_tokens.specs.Seen.{text_of}
use Rattle.parse_state.specs.declared.value.Value.{Value}
use Rattle.parse_state.specs.declared.value.Value.TheVariants.{Word, Tree}
use Rattle.parse_state.specs.declared.value.Value.TheVariants as kinds
use Rattle.parse_state.specs.Seen.{spelled_trees, value_of}
use Rattle.parse_state.specs.Giving.{is_below, has_handles_below}
use Rattle.parse_state.specs.Storage.{is_of_kind, has_child, children_class}
use Rattle.parse_state.specs.Declaring.{list_in, first_of, first_in, first_name, name_and_token, told_here}
use Rattle.parse_state.specs.Looking.{found_told}
use Rattle.parse_state.specs.Soundness.{is_known}
use Rattle.parse_state.proofs.Stacks.{all-reverse}
use Rattle.parse_state.proofs.Seeing.{seen, value_at-seen}
use Rattle.parse_state.proofs.Parts.{node_seen, node_there}

-- Lists on the stack

module _ (names : List (List ℕ)) (trees : List SyntaxTree) where
  list_found : (found : Option Value) (children : List (ℕ × ℕ)) → list_in found ≡ Some children
      → seen (value_of names trees) found ≡ values.ListValue (parts_at trees children)
  list_found None children is = absurd (cc is)
  list_found (Some (Word token name)) children is = absurd (cc is)
  list_found (Some (Tree handle)) children is = absurd (cc is)
  list_found (Some (kinds.List others)) children is = ap (λ one. values.ListValue (parts_at trees one)) (same_Some _ _ is)

  -- the list so far below the top has the trees of these children
  pub list_seen : (stack : List Value) (depth : ℕ) (children : List (ℕ × ℕ)) → list_in (slice_get stack depth) ≡ Some children
      → values.value_at (map (value_of names trees) stack) depth ≡ values.ListValue (parts_at trees children)
  list_seen stack depth children is = value_at-seen (value_of names trees) stack depth ∙ list_found (slice_get stack depth) children is

  none_listed : (found : Option Value) → list_in found ≡ None → values.parts_of (seen (value_of names trees) found) ≡ NoParts
  none_listed None is = refl
  none_listed (Some (Word token name)) is = refl
  none_listed (Some (Tree handle)) is = refl
  none_listed (Some (kinds.List others)) is = absurd (cc is)

  -- what is no list has no parts
  pub no_list_seen : (stack : List Value) (depth : ℕ) → list_in (slice_get stack depth) ≡ None
      → values.parts_of (values.value_at (map (value_of names trees) stack) depth) ≡ NoParts
  no_list_seen stack depth is = ap values.parts_of (value_at-seen (value_of names trees) stack depth) ∙ none_listed (slice_get stack depth) is

list_here : (end : ℕ) (one : Value) (children : List (ℕ × ℕ)) → has_handles_below end one ≡ true → list_in (Some one) ≡ Some children
    → list_all (is_below end) children ≡ true
list_here end (Word token name) children below is = absurd (cc is)
list_here end (Tree handle) children below is = absurd (cc is)
list_here end (kinds.List others) children below is = ap (list_all (is_below end)) (sym (same_Some _ _ is)) ∙ below

list_in_front : (end : ℕ) (stack : List Value) (depth : ℕ) (children : List (ℕ × ℕ)) → list_all (has_handles_below end) stack ≡ true
    → list_in (slice_get stack depth) ≡ Some children → list_all (is_below end) children ≡ true
list_in_front end [] depth children below is = absurd (cc is)
list_in_front end (value ∷ stack) zero children below is =
    list_here end value children (and_parts (has_handles_below end value) (list_all (has_handles_below end) stack) below).0 is
list_in_front end (value ∷ stack) (suc depth) children below is =
    list_in_front end stack depth children (and_parts (has_handles_below end value) (list_all (has_handles_below end) stack) below).1 is

-- the handles of a list on the stack are known
pub list_known : (end : ℕ) (stack : List Value) (depth : ℕ) (children : List (ℕ × ℕ)) → list_all (has_handles_below end) stack ≡ true
    → list_in (slice_get (reverse stack) depth) ≡ Some children → list_all (is_below end) children ≡ true
list_known end stack depth children below is =
    list_in_front end (reverse stack) depth children (all-reverse (has_handles_below end) stack below) is

-- so is that of the first one
first_below : (end : ℕ) (children : List (ℕ × ℕ)) (handle : ℕ) → list_all (is_below end) children ≡ true → first_of children ≡ Some handle → handle < end
first_below end [] handle below is = absurd (cc is)
first_below end (child ∷ children) handle below is =
    ltb-true handle end
    (ap (λ (one : ℕ). is_below end (one, child.1)) (sym (same_Some _ _ is)) ∙ (and_parts (is_below end child) (list_all (is_below end) children) below).0)

-- Nodes

-- a node's name is known
name_there : (names : List (List ℕ)) (nodes : List (TreeNode NameId)) (place : ℕ) (node : TreeNode NameId)
    → list_all (λ (one : TreeNode NameId). is_known names one.name) nodes ≡ true → slice_get nodes place ≡ Some node → is_known names node.name ≡ true
name_there names [] place node known is = absurd (cc is)
name_there names (first ∷ nodes) zero node known is =
    ap (λ (one : TreeNode NameId). is_known names one.name) (sym (same_Some _ _ is))
    ∙ (and_parts (is_known names first.name) (list_all (λ (one : TreeNode NameId). is_known names one.name) nodes) known).0
name_there names (first ∷ nodes) (suc place) node known is =
    name_there names nodes place node (and_parts (is_known names first.name) (list_all (λ (one : TreeNode NameId). is_known names one.name) nodes) known).1 is

pub node_name_known : (names : List (List ℕ)) (list : NodeList NameId) (handle : ℕ) (node : TreeNode NameId)
    → list_all (λ (one : TreeNode NameId). is_known names one.name) list.nodes ≡ true → HasNode list handle node → node.name.0 < length names
node_name_known names list handle node known has =
    ltb-true node.name.0 (length names) (name_there names list.nodes (handle - list.first) node known has.1)

module _ (names : List (List ℕ)) (list : NodeList NameId) (first : list.first ≡ 0) (order : ChildrenStandBefore list) where
  pub name-seen : (handle : ℕ) (node : TreeNode NameId) → HasNode list handle node
      → values.name_of (values.TreeValue (tree_at (spelled_trees names list) handle)) ≡ text_of names node.name
  name-seen handle node has = ap (λ tree. values.name_of (values.TreeValue tree)) (node_seen names list first order handle node has)

  pub number-seen : (handle : ℕ) (node : TreeNode NameId) → HasNode list handle node
      → values.tree_number (values.TreeValue (tree_at (spelled_trees names list) handle)) ≡ node.number
  number-seen handle node has = ap (λ tree. values.tree_number (values.TreeValue tree)) (node_seen names list first order handle node has)

  -- Storage classes

  kind-seen : (is_kind : NodeKind → Bool) (role : Role) (others : Parts (List ℕ)) (handle : ℕ) → handle < length list.nodes
      → has_kind is_kind (Part role (tree_at (spelled_trees names list) handle) others) ≡ (is_of_kind is_kind (node_at list handle) || has_kind is_kind others)
  kind-seen is_kind role others handle below =
      let (node, found) = node_there list handle (omega (arith, first)) (omega (arith, first, below)) in
      ap (λ tree. has_kind is_kind (Part role tree others)) (node_seen names list first order handle node ((node_at-exact list handle node).0 found))
      ∙ sym (ap (λ (one : Option (TreeNode NameId)). is_of_kind is_kind one || has_kind is_kind others) found)

  pub kinds-seen : (is_kind : NodeKind → Bool) (children : List (ℕ × ℕ)) → list_all (is_below (length list.nodes)) children ≡ true
      → has_kind is_kind (parts_at (spelled_trees names list) children) ≡ has_child is_kind list children
  kinds-seen is_kind [] below = refl
  kinds-seen is_kind (child ∷ children) below =
      let halves = and_parts (is_below (length list.nodes) child) (list_all (is_below (length list.nodes)) children) below in
      kind-seen is_kind (role_of child.1) (parts_at (spelled_trees names list) children) child.0 (ltb-true child.0 (length list.nodes) halves.0)
      ∙ ap (λ rest. is_of_kind is_kind (node_at list child.0) || rest) (kinds-seen is_kind children halves.1)

  -- the storage class of trees is that of their nodes
  pub class-seen : (children : List (ℕ × ℕ)) → list_all (is_below (length list.nodes)) children ≡ true
      → storage_class (parts_at (spelled_trees names list) children) ≡ children_class list children
  class-seen children below = ap₂ class_with (kinds-seen is_typedef children below) (kinds-seen is_extern children below)

  -- The first name

  first_seen : (handle : ℕ) (node : TreeNode NameId) (children : List (ℕ × ℕ)) → HasNode list handle node → first_of children ≡ Some handle
      → first_name (parts_at (spelled_trees names list) children) ≡ name_and_token (text_of names node.name) node.token
  first_seen handle node [] has is = absurd (cc is)
  first_seen handle node (child ∷ children) has is =
      ap (λ (one : ℕ). first_name (Part (role_of child.1) (tree_at (spelled_trees names list) one) (parts_at (spelled_trees names list) children))) (same_Some _ _ is)
      ∙ ap (λ tree. first_name (Part (role_of child.1) tree (parts_at (spelled_trees names list) children))) (node_seen names list first order handle node has)

  in_list : (found : Option Value) (handle : ℕ) (node : TreeNode NameId) → HasNode list handle node → first_in found ≡ Some handle
      → first_name (values.parts_of (seen (value_of names (spelled_trees names list)) found)) ≡ name_and_token (text_of names node.name) node.token
  in_list None handle node has is = absurd (cc is)
  in_list (Some (Word token name)) handle node has is = absurd (cc is)
  in_list (Some (Tree other)) handle node has is = absurd (cc is)
  in_list (Some (kinds.List children)) handle node has is = first_seen handle node children has is

  -- the first tree of the list so far below the top
  pub first_name-seen : (stack : List Value) (depth handle : ℕ) (node : TreeNode NameId) → HasNode list handle node → first_in (slice_get stack depth) ≡ Some handle
      → first_name (values.parts_of (values.value_at (map (value_of names (spelled_trees names list)) stack) depth)) ≡ name_and_token (text_of names node.name) node.token
  first_name-seen stack depth handle node has is =
      ap (λ value. first_name (values.parts_of value)) (value_at-seen (value_of names (spelled_trees names list)) stack depth)
      ∙ in_list (slice_get stack depth) handle node has is

none_in_list : (names : List (List ℕ)) (trees : List SyntaxTree) (found : Option Value) → first_in found ≡ None
    → first_name (values.parts_of (seen (value_of names trees) found)) ≡ None
none_in_list names trees None is = refl
none_in_list names trees (Some (Word token name)) is = refl
none_in_list names trees (Some (Tree other)) is = refl
none_in_list names trees (Some (kinds.List [])) is = refl
none_in_list names trees (Some (kinds.List (child ∷ children))) is = absurd (cc is)

-- where there is no tree there is no name
pub no_name-seen : (names : List (List ℕ)) (trees : List SyntaxTree) (stack : List Value) (depth : ℕ) → first_in (slice_get stack depth) ≡ None
    → first_name (values.parts_of (values.value_at (map (value_of names trees) stack) depth)) ≡ None
no_name-seen names trees stack depth is =
    ap (λ value. first_name (values.parts_of value)) (value_at-seen (value_of names trees) stack depth) ∙ none_in_list names trees (slice_get stack depth) is

-- its handle is known
first_here : (end : ℕ) (one : Value) (handle : ℕ) → has_handles_below end one ≡ true → first_in (Some one) ≡ Some handle → handle < end
first_here end (Word token name) handle below is = absurd (cc is)
first_here end (Tree other) handle below is = absurd (cc is)
first_here end (kinds.List children) handle below is = first_below end children handle below is

first_in_front : (end : ℕ) (stack : List Value) (depth handle : ℕ) → list_all (has_handles_below end) stack ≡ true
    → first_in (slice_get stack depth) ≡ Some handle → handle < end
first_in_front end [] depth handle below is = absurd (cc is)
first_in_front end (value ∷ stack) zero handle below is =
    first_here end value handle (and_parts (has_handles_below end value) (list_all (has_handles_below end) stack) below).0 is
first_in_front end (value ∷ stack) (suc depth) handle below is =
    first_in_front end stack depth handle (and_parts (has_handles_below end value) (list_all (has_handles_below end) stack) below).1 is

pub first_known : (end : ℕ) (stack : List Value) (depth handle : ℕ) → list_all (has_handles_below end) stack ≡ true
    → first_in (slice_get (reverse stack) depth) ≡ Some handle → handle < end
first_known end stack depth handle below is =
    first_in_front end (reverse stack) depth handle (all-reverse (has_handles_below end) stack below) is

-- What the innermost scope says

pub here_told : (found : Option (Found (List ℕ))) → bound_here found ≡ told_here (option_map found_told found)
here_told None = refl
here_told (Some found) = refl
