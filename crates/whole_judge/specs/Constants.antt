-- The constant of a node where aggregates are known, with its kind.
use Rattle.std.specs.Prelude.{ℕ, List, Option}
use Rattle.meaning_constants.specs.Constants.{Constant}
use Rattle.meaning_constants.specs.Nodes.{node_constant}
use Rattle.meaning_constants.specs.Sizes.{sizes_by}
use Rattle.meaning_typing.specs.Aggregates.{KnownAggregates}
use Rattle.meaning_typing.specs.Facts.{Fact}
use Rattle.meaning_typing.specs.Surroundings.{Surrounding}
use Rattle.meaning_typing.specs.Units.{UnitNodes}
use Rattle.meaning_typing.specs.WholeTyping.{whole_facts_for_constant}

abbrev pub constant_of_node : KnownAggregates → UnitNodes → List Surrounding → List Fact → (handle : ℕ) → Option Constant
constant_of_node aggregates nodes surroundings facts handle =
    node_constant (sizes_by aggregates.told) (whole_facts_for_constant aggregates nodes surroundings facts handle)
