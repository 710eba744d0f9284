-- Worked examples: a few nodes, written out, and their trees.
use Rattle.std.specs.Prelude.{◌≡◌, ℕ, List, [], ◌∷◌, map, codes}
use Rattle.vocabulary.specs.declared.node_kind.NodeKind.{NodeKind}
use Rattle.vocabulary.specs.declared.node_kind.NodeKind.TheVariants.{ExpressionStatement, Assignment, Name}
use Rattle.vocabulary.specs.declared.role.Role.TheVariants.{Evaluated, Condition, TypePart, Unevaluated}
use Rattle.vocabulary.specs.Roles.{role_tag}
use Rattle.meaning_tree.specs.Trees.{SyntaxTree, Node, Parts, NoParts, Part, with_parts, parts_of}
use Rattle.meaning_tree.specs.Nodes.{TreeNode, NodeList, IsTreeOf, ChildrenStandBefore, joined}

-- a node whose children have the role Evaluated
abbrev pub node_at : NodeKind → ℕ → List ℕ → List (ℕ × ℕ) → TreeNode (List ℕ)
node_at kind token name children = record { kind = kind; token = token; name = name; number = 0; children = children }

-- `a = b ;` at the tokens 0 to 3: two names, then the assignment at its `=`, then the statement
abbrev pub assignment_nodes : NodeList (List ℕ)
assignment_nodes = record {
  first = 0;
  nodes =
      node_at Name 0 (codes "a") [] ∷ node_at Name 2 (codes "b") []
      ∷ node_at Assignment 1 [] ((0, 0) ∷ (1, 0) ∷ []) ∷ node_at ExpressionStatement 0 [] ((2, 0) ∷ []) ∷ [];
}

-- the parts of a node that has these evaluated parts
abbrev pub evaluated : SyntaxTree → Parts (List ℕ) → Parts (List ℕ)
evaluated = Part Evaluated

-- the two names
abbrev pub a_leaf : SyntaxTree
a_leaf = Node Name 0 (codes "a") 0 NoParts

abbrev pub b_leaf : SyntaxTree
b_leaf = Node Name 2 (codes "b") 0 NoParts

abbrev pub assignment_tree : SyntaxTree
assignment_tree =
    Node ExpressionStatement 0 [] 0
    (evaluated
    (Node Assignment 1 [] 0
    (evaluated a_leaf (evaluated b_leaf NoParts)))
    NoParts)

-- the same nodes in two lists: the names first, and a part that begins behind them
abbrev pub name_nodes : NodeList (List ℕ)
name_nodes = record { first = 0; nodes = node_at Name 0 (codes "a") [] ∷ node_at Name 2 (codes "b") [] ∷ [] }

abbrev pub statement_nodes : NodeList (List ℕ)
statement_nodes = record {
  first = 2;
  nodes = node_at Assignment 1 [] ((0, 0) ∷ (1, 0) ∷ []) ∷ node_at ExpressionStatement 0 [] ((2, 0) ∷ []) ∷ [];
}

-- parts keep the order of their trees
pub record PartExamples : Type 0 where
  pub of_one_role : parts_of TypePart (a_leaf ∷ b_leaf ∷ []) ≡ Part TypePart a_leaf (Part TypePart b_leaf NoParts)
  pub behind_others :
      with_parts (Part Condition a_leaf NoParts) (Part Evaluated b_leaf NoParts) ≡ Part Condition a_leaf (Part Evaluated b_leaf NoParts)
  -- the tags by which lists of children keep roles
  pub tags : map role_tag (Evaluated ∷ Condition ∷ TypePart ∷ Unevaluated ∷ []) ≡ 0 ∷ 1 ∷ 2 ∷ 3 ∷ []

-- a short list of nodes
pub record NodeExamples : Type 0 where
  pub tree : IsTreeOf assignment_nodes assignment_tree
  pub in_order : ChildrenStandBefore assignment_nodes
  pub in_two_parts : IsTreeOf (joined name_nodes statement_nodes) assignment_tree
  pub part_alone : ChildrenStandBefore statement_nodes → ⊥
