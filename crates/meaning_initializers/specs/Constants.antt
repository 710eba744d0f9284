-- Which expressions a static object may begin with (C11 6.6 p7 to p9, and our choice of what else): by their nodes, and what is
-- known of them. What is known of an expression says the same at once, by `is_constant_leaf`.
use Rattle.std.specs.Prelude.{◌≡◌, ◌⊎◌, ℕ, ℤ, pos, Bool, true, false, is_some, List, Some, if◌then◌else◌}
use Rattle.std.specs.Ordering.{int_eq}
use Rattle.vocabulary.specs.declared.node_kind.NodeKind.TheVariants as kinds
use Rattle.meaning_types.specs.Types.{TypeTree, Typed, PointerTree}
use Rattle.meaning_typing.specs.Units.{UnitNodes, node_at, kind_at, child_at}
use Rattle.meaning_typing.specs.Surroundings.{Surrounding}
use Rattle.meaning_typing.specs.Facts.{Fact, Expression, Declared, fact_at, decays, type_of_value}
use Rattle.meaning_typing.specs.Offsets.{constant_in}
use Rattle.meaning_typing.specs.Expressions.{is_array}
use Rattle.meaning_typing.specs.Typing.{has_middle}
use Rattle.meaning_initializers.specs.Reading.{is_static_literal}

-- What is known of a node

-- it has a number (6.6 p6)
abbrev pub has_number : List Fact → (handle : ℕ) → Bool
has_number facts handle = is_some (constant_in (fact_at facts handle))

-- a null pointer constant (6.3.2.3 p3)
abbrev pub is_null_pointer : Fact → Bool
is_null_pointer (Expression expression) = expression.is_null
is_null_pointer fact = false

-- an array or a function, which is an address where its value is wanted
abbrev pub is_decaying : Fact → Bool
is_decaying (Expression expression) = decays expression.type_
is_decaying fact = false

abbrev pub is_array_fact : Fact → Bool
is_array_fact (Expression expression) = is_array expression.type_
is_array_fact fact = false

abbrev pub is_pointer_type : TypeTree → Bool
is_pointer_type (Typed (PointerTree target) _ _) = true
is_pointer_type (Typed base _ _) = false

abbrev pub is_pointer : Fact → Bool
is_pointer (Expression expression) = is_pointer_type (type_of_value expression)
is_pointer fact = false

-- a static object or a function is declared there
abbrev pub is_static_declaration : Fact → Bool
is_static_declaration (Declared declaration) = declaration.is_static
is_static_declaration fact = false

-- the two operands of a node, whichever stands first
abbrev pub AreOperands : UnitNodes → (handle first second : ℕ) → Type 0
AreOperands nodes handle first second =
    ((first ≡ child_at nodes handle 0) × (second ≡ child_at nodes handle 1)) ⊎ ((first ≡ child_at nodes handle 1) × (second ≡ child_at nodes handle 0))

-- the operand of `?:` that a condition with this number chooses; without a middle operand the condition is that too
abbrev pub chosen_of_three : UnitNodes → (handle : ℕ) → (is_zero : Bool) → ℕ
chosen_of_three nodes handle is_zero = if is_zero then child_at nodes handle 2 else child_at nodes handle 1

abbrev pub chosen_of_two : UnitNodes → (handle : ℕ) → (is_zero : Bool) → ℕ
chosen_of_two nodes handle is_zero = if is_zero then child_at nodes handle 1 else child_at nodes handle 0

abbrev pub chosen_operand : UnitNodes → (handle : ℕ) → ℤ → ℕ
chosen_operand nodes handle number =
    if has_middle nodes handle then chosen_of_three nodes handle (int_eq number (pos 0)) else chosen_of_two nodes handle (int_eq number (pos 0))

-- A place that stands as long as the program runs, with nothing behind it but members and indexes that have a number.
pub data IsConstantPlace (nodes : UnitNodes) (surroundings : List Surrounding) (facts : List Fact) : (handle : ℕ) → Type 0 where
  named : {handle : ℕ} → kind_at nodes handle ≡ kinds.Name → is_static_declaration (fact_at facts (node_at nodes handle).number) ≡ true
      → IsConstantPlace nodes surroundings facts handle
  literal : {handle : ℕ} → kind_at nodes handle ≡ kinds.CompoundLiteral → is_static_literal nodes surroundings handle ≡ true
      → IsConstantPlace nodes surroundings facts handle
  member : {handle : ℕ} → kind_at nodes handle ≡ kinds.Member → IsConstantPlace nodes surroundings facts (child_at nodes handle 0)
      → IsConstantPlace nodes surroundings facts handle
  -- the array stands first or second (6.5.2.1 p2)
  element : {handle : ℕ} (array index : ℕ) → kind_at nodes handle ≡ kinds.Subscript
      → AreOperands nodes handle array index → is_array_fact (fact_at facts array) ≡ true → has_number facts index ≡ true
      → IsConstantPlace nodes surroundings facts array → IsConstantPlace nodes surroundings facts handle
  parenthesized : {handle : ℕ} → kind_at nodes handle ≡ kinds.Parenthesized → IsConstantPlace nodes surroundings facts (child_at nodes handle 0)
      → IsConstantPlace nodes surroundings facts handle

-- A static object may begin with this expression.
pub data IsConstantLeaf (nodes : UnitNodes) (surroundings : List Surrounding) (facts : List Fact) : (handle : ℕ) → Type 0 where
  number : {handle : ℕ} → has_number facts handle ≡ true → IsConstantLeaf nodes surroundings facts handle
  null_pointer : {handle : ℕ} → is_null_pointer (fact_at facts handle) ≡ true → IsConstantLeaf nodes surroundings facts handle
  string : {handle : ℕ} → kind_at nodes handle ≡ kinds.StringLiteral → IsConstantLeaf nodes surroundings facts handle
  -- 6.6 p9
  address : {handle : ℕ} → kind_at nodes handle ≡ kinds.Address → IsConstantPlace nodes surroundings facts (child_at nodes handle 0)
      → IsConstantLeaf nodes surroundings facts handle
  decaying : {handle : ℕ} → is_decaying (fact_at facts handle) ≡ true → IsConstantPlace nodes surroundings facts handle
      → IsConstantLeaf nodes surroundings facts handle
  -- a pointer that is moved by a number
  sum : {handle : ℕ} (pointer count : ℕ) → kind_at nodes handle ≡ kinds.Addition → AreOperands nodes handle pointer count
      → is_pointer (fact_at facts pointer) ≡ true → IsConstantLeaf nodes surroundings facts pointer → has_number facts count ≡ true
      → IsConstantLeaf nodes surroundings facts handle
  difference : {handle : ℕ} → kind_at nodes handle ≡ kinds.Subtraction → is_pointer (fact_at facts (child_at nodes handle 0)) ≡ true
      → IsConstantLeaf nodes surroundings facts (child_at nodes handle 0) → has_number facts (child_at nodes handle 1) ≡ true
      → IsConstantLeaf nodes surroundings facts handle
  -- one of these in parentheses, under a cast, or chosen by a condition that has a number
  parenthesized : {handle : ℕ} → kind_at nodes handle ≡ kinds.Parenthesized → IsConstantLeaf nodes surroundings facts (child_at nodes handle 0)
      → IsConstantLeaf nodes surroundings facts handle
  cast : {handle : ℕ} → kind_at nodes handle ≡ kinds.Cast → IsConstantLeaf nodes surroundings facts (child_at nodes handle 1)
      → IsConstantLeaf nodes surroundings facts handle
  chosen : {handle : ℕ} (condition : ℤ) → kind_at nodes handle ≡ kinds.Conditional
      → constant_in (fact_at facts (child_at nodes handle 0)) ≡ Some condition
      → IsConstantLeaf nodes surroundings facts (chosen_operand nodes handle condition) → IsConstantLeaf nodes surroundings facts handle
