-- What is known of nodes that come later.
use Rattle.std.specs.Prelude.{◌≡◌, ℕ, ◌<◌, ◌≤◌, true, List, ◌++◌, Some, length}
use Rattle.meaning_typing.specs.Facts.{Fact}
use Rattle.meaning_typing.specs.Surroundings.{Surrounding}
use Rattle.meaning_typing.specs.Units.{UnitNodes, child_at, kind_at}
use Rattle.meaning_statements.specs.Jumps.{is_switch_label, switch_of}

-- the value of a switch stands before the labels in its body, as it is written
abbrev pub SwitchValuesStandBefore : UnitNodes → List Surrounding → Type 0
SwitchValuesStandBefore nodes surroundings =
    (label switch : ℕ) → is_switch_label (kind_at nodes label) ≡ true → switch_of nodes surroundings label ≡ Some switch → child_at nodes switch 0 < label

-- of more nodes something is known, but of no others than there are
pub record ComeLater (nodes : UnitNodes) (facts later : List Fact) : Type 0 where
  pub more : List Fact
  pub behind : later ≡ facts ++ more
  pub few : length later ≤ length nodes
