-- Which zero divisor an `#if` is refused for.
use Rattle.std.specs.Prelude.{◌≡◌, ℕ, ◌≤◌, Bool, true, false, List, ◌⊎◌}
use Rattle.meaning_text.specs.Tokens.{Tok}
use Rattle.meaning_conditions.specs.Operators.{Binary, Divide, Remainder, And, Or}
use Rattle.meaning_conditions.specs.Expressions.{Tree, Leaf, One, Two, Choice, IsExpression}
use Rattle.meaning_conditions.specs.Values.{Outcome, Is, ZeroAt, is_decided, is_true, valued}

abbrev pub is_division : Binary → Bool
is_division Divide = true
is_division Remainder = true
is_division operator = false

abbrev pub is_logical : Binary → Bool
is_logical And = true
is_logical Or = true
is_logical operator = false

-- the right operand is evaluated behind a left one that comes to this (C11 6.5.13 p4, 6.5.14 p4)
abbrev pub IsRightEvaluated : Binary → Outcome → Type 0
IsRightEvaluated operator (Is bits) = is_decided operator bits ≡ false
IsRightEvaluated operator (ZeroAt index) = is_logical operator ≡ false

-- a condition that comes to this is true, or false (6.5.15 p4)
abbrev pub IsTruth : Bool → Outcome → Type 0
IsTruth truth (Is bits) = is_true bits ≡ truth
IsTruth truth (ZeroAt index) = ⊥

-- the operator with this index is evaluated, and divides by 0
abbrev pub DividesByZero : Tree → ℕ → Type 0
DividesByZero (Leaf number) index = ⊥
DividesByZero (One operator a) index = DividesByZero a index
DividesByZero (Two place operator a b) index =
    DividesByZero a index ⊎ ((IsRightEvaluated operator (valued a).outcome × DividesByZero b index)
    ⊎ ((place ≡ index) × (is_division operator ≡ true) × ((valued b).outcome ≡ Is 0)))
DividesByZero (Choice a b c) index =
    DividesByZero a index ⊎ ((IsTruth true (valued a).outcome × DividesByZero b index)
    ⊎ (IsTruth false (valued a).outcome × DividesByZero c index))

-- what is told is such an operator, and the first of them
abbrev pub ToldDivisorIsFirst : Type 0
ToldDivisorIsFirst =
    (tokens : List Tok) (tree : Tree) → IsExpression tokens tree → (index : ℕ) → (valued tree).outcome ≡ ZeroAt index
    → DividesByZero tree index × ((other : ℕ) → DividesByZero tree other → index ≤ other)

-- where there is a value, there is none
abbrev pub ValuesDivideByNone : Type 0
ValuesDivideByNone = (tree : Tree) (bits : ℕ) → (valued tree).outcome ≡ Is bits → (index : ℕ) → DividesByZero tree index → ⊥
