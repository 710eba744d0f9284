-- What is known of the nodes of a unit with structures, unions and enumerations: one sentence for all of them.
use Rattle.std.specs.Prelude.{◌≡◌, ℕ, ◌<◌, List, ◌++◌, length, take, slice_get, Some}
use Rattle.meaning_operands.specs.Failures.{Failure, Broken}
use Rattle.meaning_typing.specs.Facts.{Fact, fact_at}
use Rattle.meaning_typing.specs.Surroundings.{Surrounding, surrounding_at}
use Rattle.meaning_typing.specs.Typing.{access_failures, token_at}
use Rattle.meaning_typing.specs.Units.{UnitNodes}
use Rattle.meaning_typing.specs.WholeTyping.{whole_row_at}
use Rattle.meaning_judgements.specs.UnitRows.{unit_row_at}

-- These are the facts of a unit: each is what its node's row gives over the facts before it. The row of a statement gives none.
pub record AreWholeFacts (nodes : UnitNodes) (surroundings : List Surrounding) (facts : List Fact) : Type 0 where
  pub all : length facts ≡ length nodes
  pub each : (handle : ℕ) → handle < length nodes
      → slice_get facts handle ≡ Some (whole_row_at nodes surroundings (take handle facts) handle).fact

-- all rules that fail at a node
abbrev pub whole_failures_at : UnitNodes → List Surrounding → List Fact → (handle : ℕ) → List Failure
whole_failures_at nodes surroundings facts handle =
    (unit_row_at nodes surroundings (take handle facts) handle).failures
    ++ access_failures (token_at nodes handle) (surrounding_at surroundings handle) (fact_at facts handle)

-- and all constraints that it breaks
abbrev pub whole_broken_at : UnitNodes → List Surrounding → List Fact → (handle : ℕ) → List Broken
whole_broken_at nodes surroundings facts handle = (unit_row_at nodes surroundings (take handle facts) handle).broken

-- where it passes the limit of the size of an object
abbrev pub whole_passed_at : UnitNodes → List Surrounding → List Fact → (handle : ℕ) → List ℕ
whole_passed_at nodes surroundings facts handle = (unit_row_at nodes surroundings (take handle facts) handle).passed
