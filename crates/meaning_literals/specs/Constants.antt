-- What a literal is, or why it is none.
use Rattle.std.specs.Prelude.{ℕ}
use Rattle.vocabulary.specs.declared.int_kind.IntKind.{IntKind}

-- an integer constant: its kind, and its value modulo 2^64
pub record Constant : Type 0 where
  pub kind : IntKind
  pub bits : ℕ

-- the one reason for which a literal is refused
pub data Fault : Type 0 where
  BadDigitFault : Fault
  BadSuffixFault : Fault
  -- no kind that it may have holds its value
  TooBigFault : Fault
  FloatingFault : Fault
  BadEscapeFault : Fault
  -- a character constant without a character
  EmptyFault : Fault
  -- it has a prefix
  WideFault : Fault
  UniversalFault : Fault
