-- The storage class of specifiers (C11 6.7.1), as far as it says how the names behind them are bound. A `Specifiers` node
-- has its number, so that each declarator behind it reads that off, and no declarator looks through the specifiers again.
use Rattle.std.specs.Prelude.{ℕ, nat_eq, Bool, true, false, ◌||◌, if◌then◌else◌, List, []}
use Rattle.vocabulary.specs.declared.node_kind.NodeKind.{NodeKind}
use Rattle.vocabulary.specs.declared.node_kind.NodeKind.TheVariants as kinds
use Rattle.meaning_tree.specs.Trees.{SyntaxTree, Node, Parts, NoParts, Part}
use Rattle.meaning_derivation.specs.Values.{Value, token_of, parts_of, tree_number}

pub data StorageClass : Type 0 where
  -- `typedef`, beside whatever else stands there
  TypedefClass : StorageClass
  -- `extern`, and no `typedef`
  ExternClass : StorageClass
  -- another one, or none
  OtherClass : StorageClass

-- some part is of this kind
abbrev pub has_kind : (NodeKind → Bool) → Parts (List ℕ) → Bool
has_kind is_kind NoParts = false
has_kind is_kind (Part role (Node kind token name number parts) others) = is_kind kind || has_kind is_kind others

abbrev pub is_typedef : NodeKind → Bool
is_typedef kinds.TypedefSpecifier = true
is_typedef kind = false

abbrev pub is_extern : NodeKind → Bool
is_extern kinds.ExternSpecifier = true
is_extern kind = false

-- the class where the word `typedef` is there or not, and the word `extern` is or not
abbrev pub class_with : (has_typedef has_extern : Bool) → StorageClass
class_with true has_extern = TypedefClass
class_with false true = ExternClass
class_with false false = OtherClass

-- the class that specifiers write down
abbrev pub storage_class : Parts (List ℕ) → StorageClass
storage_class parts = class_with (has_kind is_typedef parts) (has_kind is_extern parts)

-- Classes as numbers

abbrev pub storage_number : StorageClass → ℕ
storage_number OtherClass = 0
storage_number TypedefClass = 1
storage_number ExternClass = 2

abbrev pub storage_of_number : ℕ → StorageClass
storage_of_number number = if nat_eq number 1 then TypedefClass else (if nat_eq number 2 then ExternClass else OtherClass)

-- the node of these specifiers, at this word
abbrev pub specifiers_tree : (word list : Value) → SyntaxTree
specifiers_tree word list =
    Node kinds.Specifiers (token_of word) [] (storage_number (storage_class (parts_of list))) (parts_of list)

-- the class that a node of specifiers has
abbrev pub noted_class : Value → StorageClass
noted_class specifiers = storage_of_number (tree_number specifiers)
