-- What the designators so far have found, with those that are left, comes to the whole walk.
use Rattle.std.proofs.Common.{List, IfSome}
use Rattle.sparse_model.specs.declared.failure.Failure.{Failure}
use Rattle.meaning_typing.specs.OffsetRows.{Walk, steps_of}
use Rattle.decl_judge.specs.Units.{handles_of, nodes_of}
use Rattle.node_facts.specs.Facts.{nodes_seen}
use Rattle.node_facts.specs.Growing.{TypesJoin}
use Rattle.member_rows.specs.Aggregates.{aggregates_in}
use Rattle.member_rows.specs.Steps.{IsKnownReached}
use Rattle.whole_judge.specs.Walks.{HasWalked, left_from, steps_behind}
use Rattle.whole_judge.proofs.walk.walk_on.Given as goal

abbrev pub invariant-loop-designator : goal.invariant-loop-designator
invariant-loop-designator l =
    record {
      keeps : TypesJoin l.fn.types l.types;
      known : IfSome l.walked.reached (IsKnownReached l.types);
      leads :
          (before : List Failure) (all : Walk)
          → HasWalked l.fn.types before l.fn.found l.fn.begun.broken
          (left_from (aggregates_in l.fn.types) l.fn.types (steps_behind (nodes_of l.unit) (nodes_seen l.fn.types l.facts) (handles_of l.children)) l.fn.begun.reached)
          all
          → HasWalked l.types before l.found l.walked.broken
          (left_from (aggregates_in l.fn.types) l.types (steps_of (nodes_of l.unit) (nodes_seen l.fn.types l.facts) (handles_of l.designator-iterator)) l.walked.reached)
          all;
    }
