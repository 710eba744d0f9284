-- What the walk that is left comes to, the whole comes to.
use Rattle.std.proofs.Common.{ℕ, All, Bool}
use Rattle.meaning_initializers.specs.Parts.{Aggregates}
use Rattle.node_facts.specs.Facts.{nodes_seen}
use Rattle.decl_judge.specs.Units.{nodes_of}
use Rattle.initializer_levels.specs.Items.{items_left}
use Rattle.initializer_levels.specs.Met.{IsFindingIn, found_with}
use Rattle.initializer_levels.specs.Parts.{type_seen}
use Rattle.initializer_levels.specs.Steps.{AreKnownIn}
use Rattle.initializer_levels.specs.Turns.{Comes, Found, begun, nothing_found}
use Rattle.initializer_levels.specs.Walks.{IsKnownWalk, walk_seen}
use Rattle.initializer_levels.proofs.plan.walk_items.Given as goal

abbrev pub invariant-loop-turn : goal.invariant-loop-turn
invariant-loop-turn l =
    record {
      comes : (aggregates : Aggregates) (is_static : Bool) (found : Found) (length : ℕ) → AreKnownIn l.types aggregates
          → Comes aggregates is_static
          (walk_seen l.types l.paths (items_left (nodes_of l.unit) (nodes_seen l.types l.facts))
          (found_with (nodes_of l.unit) (nodes_seen l.types l.facts) is_static l.types l.paths nothing_found l.findings.items) l.walk) found length
          → Comes aggregates is_static (begun (type_seen l.types l.fn.object) (items_left (nodes_of l.unit) (nodes_seen l.types l.facts) l.fn.items)) found length;
      known : IsKnownWalk l.types l.paths l.walk;
      findings : All (IsFindingIn l.types l.paths) l.findings.items;
    }
