-- Nodes that stand for trees without their links.
use Rattle.std.proofs.Common.{◌≡◌, ℕ, ◌-◌, ◌<◌, List, [], ◌∷◌, map, length, Option, Some, None, option_map, slice_get, refl, sym, ap, subst, ◌∙◌, arith}
use Rattle.std.proofs.lemmas.Option.{none-some, same_Some, slice_get-map, slice_get_within, get_or_from_slice_get}
use Rattle.vocabulary.specs.declared.node_kind.NodeKind.{NodeKind}
use Rattle.vocabulary.specs.declared.role.Role.{Role}
use Rattle.vocabulary.specs.Roles.{role_of}
use Rattle.meaning_tree.specs.Nodes.{TreeNode, NodeList, HasNode, StandsFor, StandFor}
use Rattle.meaning_tree.specs.Forms.{kind_of}
use Rattle.meaning_tree.specs.Trees.{SyntaxTree, Node, Parts, NoParts, Part}
use Rattle.meaning_typing.specs.Units.{UnitNodes, no_node, children_at, kind_at, node_at, unit_list}
use Rattle.meaning_unit_nodes.specs.Laws.{with_names, parts_with_names}
use Rattle.meaning_first_units.specs.Units.{Renaming, own_number, without_link}

-- the nodes without links, by their handles
abbrev pub plain : UnitNodes → NodeList (List ℕ)
plain nodes = unit_list (map without_link nodes)

-- a node stands for a tree, and children for parts, where links are left out and names are others
abbrev pub Makes : Renaming → UnitNodes → ℕ → SyntaxTree → Type 0
Makes renaming nodes handle tree = StandsFor (plain nodes) handle (with_names renaming tree)

abbrev pub Make : Renaming → UnitNodes → List (ℕ × ℕ) → Parts (List ℕ) → Type 0
Make renaming nodes children parts = StandFor (plain nodes) children (parts_with_names renaming parts)

-- what is seen of the node
pub record IsNode (nodes : UnitNodes) (handle : ℕ) (kind : NodeKind) (token : ℕ) (name : List ℕ) (number : ℕ) (children : List (ℕ × ℕ)) : Type 0 where
  pub within : handle < length nodes
  pub is_kind : kind_at nodes handle ≡ kind
  pub is_token : (node_at nodes handle).token ≡ token
  pub is_name : (node_at nodes handle).name ≡ name
  pub is_number : own_number kind (node_at nodes handle).number ≡ number
  pub are_children : (node_at nodes handle).children ≡ children

seen-by : (nodes : UnitNodes) (handle : ℕ) (node : TreeNode (List ℕ)) (found : Option (TreeNode (List ℕ))) → slice_get nodes handle ≡ found
    → option_map without_link found ≡ Some node → IsNode nodes handle node.kind node.token node.name node.number node.children
seen-by nodes handle node None is same = absurd (none-some node same)
seen-by nodes handle node (Some own) is same =
    let at : node_at nodes handle ≡ own = get_or_from_slice_get nodes handle own no_node is in
    let plain_own : without_link own ≡ node = same_Some _ node same in
    record {
      within = slice_get_within nodes handle own is;
      is_kind = ap (λ (n : TreeNode (List ℕ)). n.kind) at ∙ ap (λ (n : TreeNode (List ℕ)). n.kind) plain_own;
      is_token = ap (λ (n : TreeNode (List ℕ)). n.token) at ∙ ap (λ (n : TreeNode (List ℕ)). n.token) plain_own;
      is_name = ap (λ (n : TreeNode (List ℕ)). n.name) at ∙ ap (λ (n : TreeNode (List ℕ)). n.name) plain_own;
      is_number =
          ap (λ (n : TreeNode (List ℕ)). own_number node.kind n.number) at
          ∙ ap (λ kind. own_number kind own.number) (sym (ap (λ (n : TreeNode (List ℕ)). n.kind) plain_own))
          ∙ ap (λ (n : TreeNode (List ℕ)). n.number) plain_own;
      are_children = ap (λ (n : TreeNode (List ℕ)). n.children) at ∙ ap (λ (n : TreeNode (List ℕ)). n.children) plain_own;
    }

pub node-seen : (nodes : UnitNodes) (handle : ℕ) (node : TreeNode (List ℕ)) → HasNode (plain nodes) handle node
    → IsNode nodes handle node.kind node.token node.name node.number node.children
node-seen nodes handle node has =
    let here : handle - 0 ≡ handle = omega arith in
    seen-by nodes handle node (slice_get nodes handle) refl
    (sym (slice_get-map without_link nodes handle) ∙ ap (slice_get (map without_link nodes)) (sym here) ∙ has.1)

-- By the tree

pub node-of :
    (renaming : Renaming) (nodes : UnitNodes) (handle : ℕ) (kind : NodeKind) (token : ℕ) (name : List ℕ) (number : ℕ) (parts : Parts (List ℕ))
    → Makes renaming nodes handle (Node kind token name number parts)
    → (children : List (ℕ × ℕ)) × IsNode nodes handle kind token (renaming name) number children × Make renaming nodes children parts
node-of renaming nodes handle kind token name number parts makes = (makes.0, node-seen nodes handle _ makes.1, makes.2)

abbrev pub handles_of : List (ℕ × ℕ) → List ℕ
handles_of children = map (λ child. child.0) children

-- a node has these children
pub children-are :
    (nodes : UnitNodes) (handle : ℕ) (kind : NodeKind) (token : ℕ) (name : List ℕ) (number : ℕ) (children : List (ℕ × ℕ))
    → IsNode nodes handle kind token name number children → children_at nodes handle ≡ handles_of children
children-are nodes handle kind token name number children is = ap handles_of is.are_children

pub no-part : (renaming : Renaming) (nodes : UnitNodes) (children : List (ℕ × ℕ)) → Make renaming nodes children NoParts → children ≡ []
no-part renaming nodes [] make = refl
no-part renaming nodes (child ∷ children) make = absurd make

-- one part behind others
pub record FirstPart (renaming : Renaming) (nodes : UnitNodes) (children : List (ℕ × ℕ)) (role : Role) (tree : SyntaxTree) (parts : Parts (List ℕ)) : Type 0 where
  pub child : ℕ × ℕ
  pub others : List (ℕ × ℕ)
  pub are : children ≡ child ∷ others
  pub in_role : role ≡ role_of child.1
  pub makes : Makes renaming nodes child.0 tree
  pub make : Make renaming nodes others parts

pub first-part :
    (renaming : Renaming) (nodes : UnitNodes) (children : List (ℕ × ℕ)) (role : Role) (tree : SyntaxTree) (parts : Parts (List ℕ)) → Make renaming nodes children (Part role tree parts)
    → FirstPart renaming nodes children role tree parts
first-part renaming nodes [] role tree parts make = absurd make
first-part renaming nodes (child ∷ children) role tree parts make =
    record { child = child; others = children; are = refl; in_role = make.0; makes = make.1; make = make.2 }

-- a node without parts
pub leaf-of :
    (renaming : Renaming) (nodes : UnitNodes) (handle : ℕ) (kind : NodeKind) (token : ℕ) (name : List ℕ) (number : ℕ) → Makes renaming nodes handle (Node kind token name number NoParts)
    → IsNode nodes handle kind token (renaming name) number []
leaf-of renaming nodes handle kind token name number makes =
    let is = node-of renaming nodes handle kind token name number NoParts makes in
    subst (IsNode nodes handle kind token (renaming name) number) (no-part renaming nodes is.0 is.2) is.1

-- the kind of a node is that of its tree, and its name is that of its tree renamed
pub makes-kind : (renaming : Renaming) (nodes : UnitNodes) (handle : ℕ) (tree : SyntaxTree) → Makes renaming nodes handle tree → kind_at nodes handle ≡ kind_of tree
makes-kind renaming nodes handle (Node kind token name number parts) makes = (node-of renaming nodes handle kind token name number parts makes).1.is_kind

abbrev pub name_of : SyntaxTree → List ℕ
name_of (Node kind token name number parts) = name

pub makes-name : (renaming : Renaming) (nodes : UnitNodes) (handle : ℕ) (tree : SyntaxTree) → Makes renaming nodes handle tree → (node_at nodes handle).name ≡ renaming (name_of tree)
makes-name renaming nodes handle (Node kind token name number parts) makes = (node-of renaming nodes handle kind token name number parts makes).1.is_name
