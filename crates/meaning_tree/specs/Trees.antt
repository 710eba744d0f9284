-- Trees: a node has a kind, the index of the token at which it stands, a name, a number, and parts in order.
use Rattle.std.specs.Prelude.{ℕ, List, [], ◌∷◌}
use Rattle.vocabulary.specs.declared.node_kind.NodeKind.{NodeKind}
use Rattle.vocabulary.specs.declared.node_kind.NodeKind.TheVariants.{TranslationUnit}
use Rattle.vocabulary.specs.declared.role.Role.{Role}

-- The type of names is left open: a spelling, or the number of one.
mutual
  -- a node with all that is below it
  pub data Tree (Spelling : Type 0) : Type 0 where
    Node : (kind : NodeKind) → (token : ℕ) → (name : Spelling) → (number : ℕ) → (parts : Parts Spelling) → Tree Spelling

  -- the parts of a node, each with its role
  pub data Parts (Spelling : Type 0) : Type 0 where
    NoParts : Parts Spelling
    Part : (role : Role) → Tree Spelling → Parts Spelling → Parts Spelling

-- a tree whose names are spelled out; the empty spelling stands where there is no name
abbrev pub SyntaxTree : Type 0
SyntaxTree = Tree (List ℕ)

-- parts behind others
abbrev pub with_parts : {Spelling : Type 0} → Parts Spelling → Parts Spelling → Parts Spelling
with_parts NoParts others = others
with_parts (Part role tree parts) others = Part role tree (with_parts parts others)

-- these trees as parts of one role
abbrev pub parts_of : {Spelling : Type 0} → Role → List (Tree Spelling) → Parts Spelling
parts_of role [] = NoParts
parts_of role (tree ∷ trees) = Part role tree (parts_of role trees)

-- the declarations and functions of a unit (C11 6.9)
abbrev pub external_parts : SyntaxTree → Parts (List ℕ)
external_parts (Node TranslationUnit token name number parts) = parts
external_parts (Node kind token name number parts) = NoParts
