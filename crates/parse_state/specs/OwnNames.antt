-- The parameter that has its function's own name, by handles.
use Rattle.std.specs.Prelude.{ℕ, ◌+◌, Bool, false, List, [], ◌∷◌, Option, Some, None, if◌then◌else◌}
use Rattle.vocabulary.specs.declared.node_kind.NodeKind.{NodeKind}
use Rattle.vocabulary.specs.declared.node_kind.NodeKind.TheVariants.{Declarator}
use Rattle.meaning_tree.specs.Nodes.{TreeNode, NodeList}
use Rattle.meaning_tree.specs.LookUps.{node_at}
use Rattle.vocabulary.specs.declared.scope.Bound.{Bound}
use Rattle.sparse_model.specs.declared.ids.NameId.{NameId}
use Rattle.c_scope.specs.Seen.{same_name}
use Rattle.parse_state.specs.Parameters.{nearer_list}

-- the first child that is so
abbrev pub first_child : (is_so : ℕ → Bool) → List (ℕ × ℕ) → Option ℕ
first_child is_so [] = None
first_child is_so (child ∷ children) = if is_so child.0 then Some child.0 else first_child is_so children

-- a declarator of this name
abbrev pub is_declarator_of : NodeKind → (own name : NameId) → Bool
is_declarator_of Declarator own name = same_name own name
is_declarator_of kind own name = false

abbrev pub is_named_node : NameId → Option (TreeNode NameId) → Bool
is_named_node name None = false
is_named_node name (Some node) = is_declarator_of node.kind node.name name

abbrev pub is_named : NodeList NameId → NameId → ℕ → Bool
is_named list name handle = is_named_node name (node_at list handle)

-- the children of a node
abbrev pub children_in : Option (TreeNode NameId) → List (ℕ × ℕ)
children_in None = []
children_in (Some node) = node.children

abbrev pub children_at : NodeList NameId → ℕ → List (ℕ × ℕ)
children_at list handle = children_in (node_at list handle)

-- the first declarator of this name in a parameter
abbrev pub declarator_in : NodeList NameId → NameId → ℕ → Option ℕ
declarator_in list name parameter = first_child (is_named list name) (children_at list parameter)

abbrev pub first_found : Option ℕ → Option ℕ → Option ℕ
first_found None others = others
first_found (Some found) others = Some found

-- that of the first parameter that has one
abbrev pub parameter_among : NodeList NameId → NameId → List (ℕ × ℕ) → Option ℕ
parameter_among list name [] = None
parameter_among list name (child ∷ children) = first_found (declarator_in list name child.0) (parameter_among list name children)

-- the parameter list that stands nearest to the name, a part of this kind behind what was found
abbrev pub nearer_handle : Option ℕ → (handle : ℕ) → Option (TreeNode NameId) → Option ℕ
nearer_handle found handle None = found
nearer_handle found handle (Some node) = nearer_list found node.kind handle

abbrev pub handle_behind : NodeList NameId → Option ℕ → List (ℕ × ℕ) → Option ℕ
handle_behind list found [] = found
handle_behind list found (child ∷ children) = handle_behind list (nearer_handle found child.0 (node_at list child.0)) children

-- its parameters' declarator of this name
abbrev pub parameter_in : NodeList NameId → NameId → Option ℕ → Option ℕ
parameter_in list name None = None
parameter_in list name (Some parameters) = parameter_among list name (children_at list parameters)

-- that of the parameter list directly at a declarator's name
abbrev pub own_parameter : NodeList NameId → NameId → (declarator : ℕ) → Option ℕ
own_parameter list name declarator = parameter_in list name (handle_behind list None (children_at list declarator))

-- what a name hides in a scope that is opened next, by what a look-up told
abbrev pub told_by_body : Option (ℕ × Bound × Bool) → ℕ
told_by_body None = 0
told_by_body (Some told) = told.0 + 1
