-- The tree that a unit derives has, at each of its nodes, the parts that the node's kind allows.
use Rattle.std.specs.Prelude.{ℕ, List}
use Rattle.meaning_text.specs.Tokens.{Tok}
use Rattle.meaning_tree.specs.Trees.{SyntaxTree}
use Rattle.meaning_tree.specs.Nodes.{NodeList, IsTreeOf}
use Rattle.meaning_tree.specs.Forms.{IsFormedTree, IsFormed}
use Rattle.meaning_derivation.specs.Actions.{act}
use Rattle.meaning_derivation.specs.Units.{DerivesTree}

abbrev pub DerivedTreesAreFormed : Type 0
DerivedTreesAreFormed = (tokens : List Tok) (tree : SyntaxTree) → DerivesTree act tokens tree → IsFormedTree tree

-- and so has a list of nodes that stands for it
abbrev pub DerivedListsAreFormed : Type 0
DerivedListsAreFormed =
    (tokens : List Tok) (tree : SyntaxTree) (list : NodeList (List ℕ)) → DerivesTree act tokens tree → IsTreeOf list tree → IsFormed list
