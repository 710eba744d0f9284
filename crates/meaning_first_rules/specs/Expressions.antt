-- The types of expressions (C11 6.5): one row for each kind of node, put on trees.
use Rattle.std.specs.Prelude.{ℕ, List, [], ◌∷◌, Option, Some, None, option_map}
use Rattle.std.specs.Option.{option_and_then}
use Rattle.meaning_types.specs.Types.{TypeTree, Typed, PointerTree, value_type}
use Rattle.vocabulary.specs.declared.node_kind.NodeKind.{NodeKind}
use Rattle.vocabulary.specs.declared.node_kind.NodeKind.TheVariants.{Name, Indirection, Address, Assignment}
use Rattle.meaning_tree.specs.Trees.{SyntaxTree, Node, NoParts, Part}
use Rattle.meaning_syntax.specs.Trees.{SyntaxParts}
use Rattle.meaning_first_rules.specs.Bindings.{Binding, pointer_to, type_in}

-- What is known of an expression: the type of the place that it designates, if it does (6.3.2.1 p1), and the
-- type of its value.
pub record Fact : Type 0 where
  pub place : Option TypeTree
  pub value : Option TypeTree

-- neither a place nor a value is known
abbrev pub no_fact : Fact
no_fact = record { place = None; value = None }

-- of a place: its value has lost what belongs to the place (6.3.2.1 p2)
abbrev pub place_fact : Option TypeTree → Fact
place_fact place = record { place = place; value = option_map value_type place }

-- of a value that is no place
abbrev pub value_fact : Option TypeTree → Fact
value_fact value = record { place = None; value = value }

-- the type of the place to which a pointer of this type points (6.5.3.2 p4)
abbrev pub target_of : TypeTree → Option TypeTree
target_of (Typed (PointerTree target) qualifiers flags) = Some target
target_of (Typed base qualifiers flags) = None

-- by the kind of a node, its name, and what is known of its parts
abbrev pub row : List Binding → NodeKind → List ℕ → List Fact → Fact
-- 6.5.1 p2
row scope Name name facts = place_fact (type_in scope name)
-- 6.5.3.2 p4
row scope Indirection name (pointer ∷ []) = place_fact (option_and_then target_of pointer.value)
-- 6.5.3.2 p3
row scope Address name (operand ∷ []) = value_fact (option_map pointer_to operand.place)
-- 6.5.16 p3: the type that the left side would have as a value
row scope Assignment name (left ∷ right ∷ []) = value_fact (option_map value_type left.place)
row scope kind name facts = no_fact

abbrev mutual
  -- what is known of a node, by its row
  pub fact_of : List Binding → SyntaxTree → Fact
  fact_of scope (Node kind token name number parts) = row scope kind name (facts_of scope parts)

  -- what is known of each part, in order
  pub facts_of : List Binding → SyntaxParts → List Fact
  facts_of scope NoParts = []
  facts_of scope (Part role tree parts) = fact_of scope tree ∷ facts_of scope parts
