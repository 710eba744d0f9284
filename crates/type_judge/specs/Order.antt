-- Nodes in the bodies of switches, and the values of these.
use Rattle.std.specs.Prelude.{◌≡◌, ℕ, ◌<◌, List, Some}
use Rattle.meaning_typing.specs.Surroundings.{Surrounding}
use Rattle.meaning_typing.specs.Units.{UnitNodes, child_at}
use Rattle.meaning_statements.specs.Jumps.{switch_of}

-- where a node stands in the body of a switch, the value of that one stands before it
abbrev pub StandsBehindValue : UnitNodes → List Surrounding → (handle : ℕ) → Type 0
StandsBehindValue nodes surroundings handle = (switch : ℕ) → switch_of nodes surroundings handle ≡ Some switch → child_at nodes switch 0 < handle
