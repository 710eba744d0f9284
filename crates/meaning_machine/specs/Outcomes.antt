-- Why a step can't be taken.

-- what the standard gives no meaning to (C11 3.4.3)
pub data Reason : Type 0 where
  NullPointer : Reason
  DeadBlock : Reason
  ForeignPointer : Reason
  OutOfBounds : Reason
  IndeterminateValue : Reason
  ReadOnly : Reason

-- what the rules are there to rule out
pub data FaultKind : Type 0 where
  -- a place with a flag is read or written
  AccessFault : FaultKind
  -- pointers whose targets differ in flags alone meet
  SpaceFault : FaultKind
  -- a number with a restricted identity meets another identity, or a plain number
  RestrictedFault : FaultKind
  -- a value of another type than the step needs, or a node that has no place or no row
  ShapeFault : FaultKind

-- a value, or why there is none
pub data Answer (A : Type 0) : Type 0 where
  Gives : A → Answer A
  IsFault : FaultKind → Answer A
  IsUndefined : Reason → Answer A
