-- The names of members so far are seen, and those that were declared twice are told.
use Rattle.decl_judge.specs.Units.{nodes_of}
use Rattle.node_surroundings.specs.Seen.{surroundings_seen}
use Rattle.member_names.specs.Kept.{AreSeen, AreTwiceBelow}
use Rattle.member_names.proofs.names.MemberNames.in_order.Given as goal

abbrev pub invariant-loop-handle : goal.invariant-loop-handle
invariant-loop-handle l =
    record {
      seen : AreSeen (nodes_of l.unit) (surroundings_seen l.surroundings) l.handle l.keys.keys;
      twice : AreTwiceBelow (nodes_of l.unit) (surroundings_seen l.surroundings) l.handle l.names;
    }
