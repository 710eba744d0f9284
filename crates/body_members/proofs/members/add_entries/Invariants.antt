-- The members so far are those of the entries before this one.
use Rattle.std.proofs.Common.{◌≡◌, ◌++◌, All, take}
use Rattle.std.specs.List.{flat_map}
use Rattle.node_facts.specs.Facts.{nodes_seen}
use Rattle.decl_judge.specs.Units.{nodes_of}
use Rattle.body_members.specs.Seen.{IsMemberOver, member_by, members_seen}
use Rattle.body_members.proofs.members.add_entries.Given as goal

abbrev pub invariant-loop-entry : goal.invariant-loop-entry
invariant-loop-entry l =
    record {
      made : members_seen l.types l.members
          ≡ members_seen l.types l.fn.members ++ flat_map (member_by (nodes_of l.unit) (nodes_seen l.types l.facts) l.specified) (take l.entry-index l.entries);
      known : All (IsMemberOver l.types) l.members;
    }
