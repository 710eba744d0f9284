-- How names are seen that are told apart by the numbers of their ids.
use Rattle.std.specs.Prelude.{◌≡◌, ℕ, ◌<◌, List, [], ◌∷◌, Some, All, length, map, nat_eq, slice_get, if◌then◌else◌}
use Rattle.sparse_model.specs.declared.ids.NameId.{NameId}
use Rattle.c_tokens.specs.Seen.{Extends, text_of}
use Rattle.c_tokens.specs.Spellings.{AreApart}
use Rattle.meaning_text.specs.Tokens.{Tok}
use Rattle.meaning_tree.specs.Trees.{SyntaxTree}
use Rattle.meaning_tree.specs.Nodes.{TreeNode}
use Rattle.meaning_tree.specs.Listed.{renamed_node}
use Rattle.meaning_unit_nodes.specs.Written.{nodes_in}
use Rattle.meaning_unit_nodes.specs.Numbered.{spellings_told, unit_nodes}

-- an id as its number alone, and number 0 is no name
abbrev pub id_seen : NameId → List ℕ
id_seen id = if nat_eq id.0 0 then [] else id.0 ∷ []

-- a table of names begins with what these tokens spell
pub record IsTableOf (names : List (List ℕ)) (toks : List Tok) : Type 0 where
  pub extends : Extends (spellings_told toks) names
  pub apart : AreApart names
  pub empty : slice_get names 0 ≡ Some []

-- Nodes that stand as they are written, with names that the tokens spell, are those of the tokens and the tree.
abbrev pub NodesAreThoseOfTheirTree : Type 0
NodesAreThoseOfTheirTree =
    (names : List (List ℕ)) (toks : List Tok) (nodes : List (TreeNode NameId)) (tree : SyntaxTree) → IsTableOf names toks
    → map (renamed_node (text_of names)) nodes ≡ nodes_in tree → All (λ (node : TreeNode NameId). node.name.0 < length (spellings_told toks)) nodes
    → map (renamed_node id_seen) nodes ≡ unit_nodes toks tree
