-- What was read of a symbol or an item: a word, a tree, or trees in a row.
use Rattle.std.specs.Prelude.{ℕ, zero, suc, List, [], ◌∷◌, map}
use Rattle.vocabulary.specs.declared.role.Role.{Role}
use Rattle.vocabulary.specs.declared.node_kind.NodeKind.{NodeKind}
use Rattle.meaning_tree.specs.Trees.{SyntaxTree, Node, Parts, NoParts, Part}
use Rattle.meaning_grammar.specs.Sorts.{Sort, AWord, ATree, AList}

pub data Value : Type 0 where
  -- a token that was kept, by its index and its spelling, or the place of one
  WordValue : (token : ℕ) → (text : List ℕ) → Value
  TreeValue : SyntaxTree → Value
  -- trees, each with its role
  ListValue : Parts (List ℕ) → Value

-- what a value is
abbrev pub sort_of : Value → Sort
sort_of (WordValue token text) = AWord
sort_of (TreeValue tree) = ATree
sort_of (ListValue parts) = AList

-- and what the values of a stack are
abbrev pub sorts_of : List Value → List Sort
sorts_of values = map sort_of values

-- the value so far below the top of a stack, whose top is its first
abbrev pub value_at : List Value → ℕ → Value
value_at [] depth = WordValue 0 []
value_at (value ∷ values) zero = value
value_at (value ∷ values) (suc depth) = value_at values depth

-- the token of a word
abbrev pub token_of : Value → ℕ
token_of (WordValue token text) = token
token_of value = 0

-- its spelling
abbrev pub text_of : Value → List ℕ
text_of (WordValue token text) = text
text_of value = []

-- the trees of a list
abbrev pub parts_of : Value → Parts (List ℕ)
parts_of (ListValue parts) = parts
parts_of value = NoParts

-- a tree in this role, and parts behind it
abbrev pub before : Role → Value → Parts (List ℕ) → Parts (List ℕ)
before role (TreeValue tree) parts = Part role tree parts
before role value parts = parts

-- a tree alone
abbrev pub alone : Role → Value → Parts (List ℕ)
alone role value = before role value NoParts

-- the token at which a tree stands
abbrev pub stands_at : Value → ℕ
stands_at (TreeValue (Node kind token name number parts)) = token
stands_at value = 0

-- the name of a tree
abbrev pub name_of : Value → List ℕ
name_of (TreeValue (Node kind token name number parts)) = name
name_of value = []

-- the number of a tree
abbrev pub tree_number : Value → ℕ
tree_number (TreeValue (Node kind token name number parts)) = number
tree_number value = 0

-- a tree with neither name nor number, at this token
abbrev pub plain_tree : NodeKind → ℕ → Parts (List ℕ) → SyntaxTree
plain_tree kind token parts = Node kind token [] 0 parts

-- one with a name
abbrev pub named_tree : NodeKind → ℕ → List ℕ → Parts (List ℕ) → SyntaxTree
named_tree kind token name parts = Node kind token name 0 parts
