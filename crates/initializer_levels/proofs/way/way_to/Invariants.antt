-- Wherever the designators that are left lead, all of them lead through the parts so far.
use Rattle.std.proofs.Common.{All, drop, map}
use Rattle.meaning_initializers.specs.Parts.{Aggregates}
use Rattle.meaning_initializers.specs.Reading.{designators_of}
use Rattle.c_types.specs.Table.{IsTypeId}
use Rattle.node_facts.specs.Facts.{nodes_seen}
use Rattle.decl_judge.specs.Units.{nodes_of}
use Rattle.initializer_levels.specs.Parts.{IsKnownPart, part_seen, type_seen}
use Rattle.initializer_levels.specs.Steps.{AreKnownIn}
use Rattle.initializer_levels.specs.Ways.{Completes}
use Rattle.initializer_levels.proofs.way.way_to.Given as goal

abbrev pub invariant-loop-step : goal.invariant-loop-step
invariant-loop-step l =
    record {
      leads : (aggregates : Aggregates) → AreKnownIn l.types aggregates
          → Completes aggregates (type_seen l.types l.within) (type_seen l.types l.initial.within) (drop l.at (designators_of (nodes_of l.unit) (nodes_seen l.types l.facts) l.item))
          (designators_of (nodes_of l.unit) (nodes_seen l.types l.facts) l.item) (map (part_seen l.types) l.parts.items);
      known : All (IsKnownPart l.types) l.parts.items;
      type_ : IsTypeId l.types l.within.of;
    }
