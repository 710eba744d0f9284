-- The members so far, and those of the parts that are left, are those of all.
use Rattle.std.proofs.Common.{◌≡◌, ◌++◌, All}
use Rattle.node_facts.specs.Facts.{nodes_seen}
use Rattle.decl_judge.specs.Units.{handles_of, nodes_of}
use Rattle.body_members.specs.Seen.{IsMemberOver, list_members, members_seen}
use Rattle.body_members.proofs.bodies.members_among.Given as goal

abbrev pub invariant-loop-part : goal.invariant-loop-part
invariant-loop-part l =
    record {
      made : members_seen l.types l.members ++ list_members (nodes_of l.unit) (nodes_seen l.types l.facts) (handles_of l.part-iterator)
          ≡ list_members (nodes_of l.unit) (nodes_seen l.types l.facts) (handles_of l.parts);
      known : All (IsMemberOver l.types) l.members;
    }
