-- How large the numbers are that change counts of contexts in a unit.
use Rattle.std.specs.Prelude.{◌≡◌, ℕ, ◌+◌, ◌≤◌, pos, Some, unsigned_abs}
use Rattle.vocabulary.specs.declared.int_kind.IntKind.TheVariants as integers
use Rattle.vocabulary.specs.declared.node_kind.NodeKind.TheVariants as kinds
use Rattle.meaning_constants.specs.Numbers.{wrapped}
use Rattle.meaning_typing.specs.Units.{node_at, kind_at}
use Rattle.meaning_typing.specs.ContextSums.{ContextSums}
use Rattle.meaning_control.specs.Nodes.{JudgedUnit}

-- no context statement adds more, nor do the counts of a function together make more
pub record HasSmallNumbers (most : ℕ) (unit : JudgedUnit) : Type 0 where
  pub statements : (handle : ℕ) → kind_at unit.nodes handle ≡ kinds.ContextStatement
      → unsigned_abs (wrapped integers.Long (pos (node_at unit.nodes handle).number)) ≤ most
  pub functions : (function : ℕ) (sums : ContextSums) → unit.contexts function ≡ Some sums → sums.enters + sums.leaves ≤ most
