-- What is left where all is read.
use Rattle.std.specs.Prelude.{◌≡◌, ℕ, true, List, [], ◌∷◌}
use Rattle.std.specs.List.{list_all}
use Rattle.meaning_tree.specs.Trees.{SyntaxTree}
use Rattle.meaning_tree.specs.Nodes.{NodeList, IsTreeOf}
use Rattle.meaning_tree.specs.Listed.{renamed_list}
use Rattle.meaning_derivation.specs.Values.{TreeValue}
use Rattle.meaning_derivation.specs.Values as values
use Rattle.sparse_model.specs.declared.ids.NameId.{NameId}
use Rattle.c_tokens.specs.Seen.{text_of}
use Rattle.parse_state.specs.Soundness.{is_known}

-- nodes with their names spelled out
abbrev pub spelled : List (List ℕ) → NodeList NameId → NodeList (List ℕ)
spelled names list = renamed_list (text_of names) list

-- where one tree is all that is left, it is the one that these nodes stand for
abbrev pub IsOnlyTreeOf : NodeList (List ℕ) → List values.Value → Type 0
IsOnlyTreeOf list values = (tree : SyntaxTree) → values ≡ TreeValue tree ∷ [] → IsTreeOf list tree

-- the table of spellings has the name of each node
abbrev pub HasKnownNames : List (List ℕ) → NodeList NameId → Type 0
HasKnownNames names list = list_all (λ node. is_known names node.name) list.nodes ≡ true
