-- The parameter list directly at the name, by handles.
use Rattle.std.specs.Prelude.{ℕ, Bool, true, false, List, [], ◌∷◌, Option, Some, None, if◌then◌else◌}
use Rattle.vocabulary.specs.declared.node_kind.NodeKind.{NodeKind}
use Rattle.vocabulary.specs.declared.node_kind.NodeKind.TheVariants.{FunctionDeclarator, ParenthesizedAttributes}
use Rattle.meaning_tree.specs.Nodes.{TreeNode, NodeList}
use Rattle.meaning_tree.specs.LookUps.{node_at}
use Rattle.sparse_model.specs.declared.ids.NameId.{NameId}

-- the token of a parameter list
abbrev pub list_begins : NodeKind → (token : ℕ) → Option ℕ
list_begins FunctionDeclarator token = Some token
list_begins kind token = None

-- attributes in parentheses leave a declarator what it is without them
abbrev pub is_without_form : NodeKind → Bool
is_without_form ParenthesizedAttributes = true
is_without_form kind = false

-- where the list begins that stands nearest to the name, a part of this kind behind what was found
abbrev pub nearer_list : Option ℕ → NodeKind → (token : ℕ) → Option ℕ
nearer_list found kind token = if is_without_form kind then found else list_begins kind token

abbrev pub nearer_part : Option ℕ → Option (TreeNode NameId) → Option ℕ
nearer_part found None = found
nearer_part found (Some node) = nearer_list found node.kind node.token

abbrev pub list_behind : NodeList NameId → Option ℕ → List (ℕ × ℕ) → Option ℕ
list_behind list found [] = found
list_behind list found (child ∷ children) = list_behind list (nearer_part found (node_at list child.0)) children

-- among these children
abbrev pub own_list : NodeList NameId → List (ℕ × ℕ) → Option ℕ
own_list list children = list_behind list None children
