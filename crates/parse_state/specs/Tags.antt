-- Tags that are declared alone, by ids and handles.
use Rattle.std.specs.Prelude.{◌≡◌, ℕ, Bool, ◌&&◌, [], ◌∷◌, reverse, slice_get, Some}
use Rattle.meaning_tree.specs.Nodes.{TreeNode, HasNode}
use Rattle.meaning_derivation.specs.Scoping.{is_lone_tag, is_member_list, is_new_here}
use Rattle.sparse_model.specs.declared.ids.NameId.{NameId}
use Rattle.c_tokens.specs.Seen.{text_of}
use Rattle.parse_state.specs.Asking.{handle_in}
use Rattle.parse_state.specs.Seen.{Read, state_of}
use Rattle.parse_state.specs.Storage.{has_child}

-- the tree on top has this child and no other one
pub record IsLone (read : Read) (specifier : ℕ) : Type 0 where
  pub tree : ℕ
  pub top : handle_in (slice_get (reverse read.stack) 0) ≡ Some tree
  pub node : TreeNode NameId
  pub has : HasNode read.list tree node
  pub tag : ℕ
  pub only : node.children ≡ (specifier, tag) ∷ []

-- the node is a tag's that is declared with it
abbrev pub is_new_tag : Read → TreeNode NameId → Bool
is_new_tag read node =
    is_lone_tag node.kind (text_of read.names node.name) (has_child is_member_list read.list node.children)
    && is_new_here (state_of read) (text_of read.names node.name)
