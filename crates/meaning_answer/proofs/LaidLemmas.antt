-- The nodes of a unit are laid, and each stands behind its parts.
use Rattle.std.proofs.Common.{ℕ, List, subst, sym}
use Rattle.meaning_text.specs.Tokens.{Tok}
use Rattle.meaning_tree.specs.Trees.{SyntaxTree}
use Rattle.meaning_tree.specs.Nodes.{TreeNode}
use Rattle.meaning_typing.specs.laws.Surroundings.{IsLaidUnit}
use Rattle.meaning_unit_nodes.specs.Numbered.{number_told, spellings_told, unit_nodes}
use Rattle.meaning_unit_nodes.specs.Laws.{with_names}
use Rattle.meaning_unit_nodes.proofs.Behind.{tree-ordered}
use Rattle.meaning_unit_nodes.proofs.Naming.{nodes-named}
use Rattle.meaning_unit_nodes.proofs.Standing as standing

pub nodes_are_laid : (tokens : List Tok) (tree : SyntaxTree) → IsLaidUnit (unit_nodes tokens tree)
nodes_are_laid tokens tree =
    let numbers = number_told (spellings_told tokens) in
    let named = nodes-named numbers 0 tree in
    subst (λ (nodes : List (TreeNode (List ℕ))). IsLaidUnit nodes) (sym named)
    (record { laid = standing.nodes_are_laid (with_names numbers tree); ordered = tree-ordered 0 (with_names numbers tree) })
