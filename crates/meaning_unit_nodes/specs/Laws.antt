-- What holds of the nodes of units.
use Rattle.std.specs.Prelude.{◌≡◌, ℕ, true, List, map}
use Rattle.std.specs.List.{list_any}
use Rattle.std.specs.Str.{bytes_eq}
use Rattle.meaning_text.specs.Tokens.{Tok}
use Rattle.meaning_tree.specs.Trees.{SyntaxTree, Node, Parts, NoParts, Part}
use Rattle.meaning_tree.specs.Nodes.{TreeNode, NodeList, IsTreeOf, ChildrenStandBefore}
use Rattle.meaning_tree.specs.Laid.{IsLaid}
use Rattle.meaning_tree.specs.Listed.{renamed_node}
use Rattle.meaning_unit_nodes.specs.Written.{nodes_in}
use Rattle.meaning_unit_nodes.specs.Linked.{AreLinked}
use Rattle.meaning_unit_nodes.specs.Numbered.{spellings_told, number_told, unit_nodes}

-- nodes of which the first one has handle 0
abbrev pub list_from_0 : List (TreeNode (List ℕ)) → NodeList (List ℕ)
list_from_0 nodes = record { first = 0; nodes = nodes }

-- a tree's nodes stand for it
abbrev pub NodesStandForTheirTree : Type 0
NodesStandForTheirTree = (tree : SyntaxTree) → IsTreeOf (list_from_0 (nodes_in tree)) tree

-- and those of each tree in it are one run
abbrev pub NodesAreLaid : Type 0
NodesAreLaid = (tree : SyntaxTree) → IsLaid (list_from_0 (nodes_in tree))

-- and each stands behind its parts
abbrev pub NodesStandBehindTheirParts : Type 0
NodesStandBehindTheirParts = (tree : SyntaxTree) → ChildrenStandBefore (list_from_0 (nodes_in tree))

-- Numbers for names

abbrev mutual
  -- the tree with other names
  pub with_names : (List ℕ → List ℕ) → SyntaxTree → SyntaxTree
  with_names renaming (Node kind token name number parts) = Node kind token (renaming name) number (parts_with_names renaming parts)

  pub parts_with_names : (List ℕ → List ℕ) → Parts (List ℕ) → Parts (List ℕ)
  parts_with_names renaming NoParts = NoParts
  parts_with_names renaming (Part role tree parts) = Part role (with_names renaming tree) (parts_with_names renaming parts)

-- the nodes of a unit are those of its tree with numbers for names
abbrev pub OnlyNamesChange : Type 0
OnlyNamesChange = (toks : List Tok) (tree : SyntaxTree) → unit_nodes toks tree ≡ nodes_in (with_names (number_told (spellings_told toks)) tree)

-- what is spelled as a token has a number that nothing else has
abbrev pub NumbersTellApart : Type 0
NumbersTellApart =
    (toks : List Tok) (spelling other : List ℕ) → list_any (bytes_eq spelling) (spellings_told toks) ≡ true
    → number_told (spellings_told toks) spelling ≡ number_told (spellings_told toks) other → spelling ≡ other

-- Links

-- names that are linked stay so under other names
abbrev pub NamesStayLinked : Type 0 → Type 0
NamesStayLinked Spelling =
    (renaming : Spelling → List ℕ) (nodes : List (TreeNode Spelling)) → AreLinked nodes → AreLinked (map (renamed_node renaming) nodes)
