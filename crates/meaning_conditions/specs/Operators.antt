-- The operators of an expression behind `#if` (C11 6.10.1 with 6.5.3.3 and 6.5.5 to 6.5.14).
use Rattle.std.specs.Prelude.{ℕ}

-- an operator before its operand (6.5.3.3)
pub data Unary : Type 0 where
  Plus : Unary
  Negative : Unary
  Complement : Unary
  Not : Unary

-- an operator between two operands (6.5.5 to 6.5.14)
pub data Binary : Type 0 where
  Multiply : Binary
  Divide : Binary
  Remainder : Binary
  Add : Binary
  Subtract : Binary
  LeftShift : Binary
  RightShift : Binary
  Less : Binary
  Greater : Binary
  LessEqual : Binary
  GreaterEqual : Binary
  Equal : Binary
  NotEqual : Binary
  BitAnd : Binary
  BitXor : Binary
  BitOr : Binary
  And : Binary
  Or : Binary

-- how strongly an operator between operands binds: the order of the clauses from 6.5.14 up to 6.5.5
abbrev pub rank : Binary → ℕ
rank Or = 1
rank And = 2
rank BitOr = 3
rank BitXor = 4
rank BitAnd = 5
rank Equal = 6
rank NotEqual = 6
rank Less = 7
rank Greater = 7
rank LessEqual = 7
rank GreaterEqual = 7
rank LeftShift = 8
rank RightShift = 8
rank Add = 9
rank Subtract = 9
rank Multiply = 10
rank Divide = 10
rank Remainder = 10

-- `?:` binds least of all (6.5.15)
abbrev pub conditional_rank : ℕ
conditional_rank = 0

-- what stands before `?` is an expression of 6.5.14
abbrev pub condition_rank : ℕ
condition_rank = 1

-- an operator before its operand binds most strongly (6.5.3)
abbrev pub unary_rank : ℕ
unary_rank = 11
