-- Which places a unit reads and writes, and which values it converts, by its tree.
use Rattle.std.specs.Prelude.{ℕ, zero, ◌+◌, List, [], ◌∷◌, ◌++◌, Option, Some, None}
use Rattle.meaning_types.specs.Types.{TypeTree}
use Rattle.vocabulary.specs.declared.node_kind.NodeKind.{NodeKind}
use Rattle.vocabulary.specs.declared.node_kind.NodeKind.TheVariants.{Address, Assignment}
use Rattle.vocabulary.specs.declared.role.Role.TheVariants.{Evaluated, Condition, TypePart, Unevaluated}
use Rattle.meaning_tree.specs.Trees.{SyntaxTree, Node, NoParts, Part, external_parts}
use Rattle.meaning_syntax.specs.Trees.{SyntaxParts}
use Rattle.meaning_first_rules.specs.Bindings.{Binding, bindings_of}
use Rattle.meaning_first_rules.specs.Expressions.{Fact, row, facts_of}

-- What a node wants of a part
pub data Want : Type 0 where
  -- its value: a place is loaded (C11 6.3.2.1 p2)
  ForValue : Want
  -- the place that it designates, to store to it (6.5.16 p3)
  ForStore : Want
  -- that place alone (6.5.3.2 p3)
  ForPlace : Want

-- by the kind of the node, and how many parts stand before this one
abbrev pub want_of : NodeKind → ℕ → Want
want_of Assignment zero = ForStore
want_of Address before = ForPlace
want_of kind before = ForValue

-- a load from a place or a store to it, at the token of the place's node
pub record Access : Type 0 where
  pub token : ℕ
  pub place : TypeTree

-- where a value meets another type
pub data Position : Type 0 where
  -- the right side of an assignment (6.5.16.1 p2)
  InAssignment : Position

-- a value becomes a value of a type
pub record Conversion : Type 0 where
  pub token : ℕ
  pub position : Position
  pub to : TypeTree
  pub from : TypeTree

-- an access to a place, where there is one
abbrev pub access_at : ℕ → Option TypeTree → List Access
access_at token None = []
access_at token (Some place) = record { token = token; place = place } ∷ []

-- the accesses of a node that designates this place, by what is wanted of it
abbrev pub access_for : Want → ℕ → Option TypeTree → List Access
access_for ForValue token place = access_at token place
access_for ForStore token place = access_at token place
access_for ForPlace token place = []

-- the conversion of a value, where both types are known
abbrev pub assignment_at : ℕ → Option TypeTree → Option TypeTree → List Conversion
assignment_at token (Some to) (Some from) =
    record { token = token; position = InAssignment; to = to; from = from } ∷ []
assignment_at token (Some to) None = []
assignment_at token None from = []

-- the right side of an assignment is converted to the type of the left one (6.5.16.1 p2)
abbrev pub conversion_at : NodeKind → ℕ → List Fact → List Conversion
conversion_at Assignment token (left ∷ right ∷ []) = assignment_at token left.place right.value
conversion_at kind token facts = []

-- The accesses of a node of which this is wanted, and those of its evaluated parts; so many parts stand before
abbrev mutual
  -- the node's own access, then those of its parts
  pub accesses_of : List Binding → Want → SyntaxTree → List Access
  accesses_of scope want (Node kind token name number parts) =
      access_for want token (row scope kind name (facts_of scope parts)).place ++ parts_accesses scope kind 0 parts

  -- of a node's parts: evaluated ones and conditions; parts of types and unevaluated ones have none
  pub parts_accesses : List Binding → NodeKind → ℕ → SyntaxParts → List Access
  parts_accesses scope kind before NoParts = []
  parts_accesses scope kind before (Part Evaluated tree parts) =
      accesses_of scope (want_of kind before) tree ++ parts_accesses scope kind (before + 1) parts
  parts_accesses scope kind before (Part Condition tree parts) =
      accesses_of scope ForValue tree ++ parts_accesses scope kind (before + 1) parts
  parts_accesses scope kind before (Part TypePart tree parts) = parts_accesses scope kind (before + 1) parts
  parts_accesses scope kind before (Part Unevaluated tree parts) = parts_accesses scope kind (before + 1) parts

-- the conversions of a node and of its parts
abbrev mutual
  -- the node's own conversion, then those of its parts
  pub conversions_of : List Binding → SyntaxTree → List Conversion
  conversions_of scope (Node kind token name number parts) =
      conversion_at kind token (facts_of scope parts) ++ parts_conversions scope parts

  -- of each part, whatever its role
  pub parts_conversions : List Binding → SyntaxParts → List Conversion
  parts_conversions scope NoParts = []
  parts_conversions scope (Part role tree parts) = conversions_of scope tree ++ parts_conversions scope parts

-- The unit: each declaration and each function in the scope of those before it

-- what the declarations and functions of a unit have, if this gives what one of them has in a scope
abbrev pub gathered : {A : Type 0} → (List Binding → SyntaxTree → List A) → List Binding → SyntaxParts → List A
gathered of_tree scope NoParts = []
gathered of_tree scope (Part role tree parts) = of_tree scope tree ++ gathered of_tree (scope ++ bindings_of tree) parts

-- all loads and stores of a unit
abbrev pub accesses_in : SyntaxTree → List Access
accesses_in unit = gathered (λ scope. accesses_of scope ForValue) [] (external_parts unit)

-- all conversions of a unit
abbrev pub conversions_in : SyntaxTree → List Conversion
conversions_in unit = gathered conversions_of [] (external_parts unit)
