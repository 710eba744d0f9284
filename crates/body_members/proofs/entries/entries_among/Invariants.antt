-- The entries so far, the open one with what the parts that are left add to it, and those that they open are all.
use Rattle.std.proofs.Common.{◌≡◌, ◌++◌, drop, map}
use Rattle.meaning_typing.specs.MemberDeclarations.{pending_from}
use Rattle.decl_judge.specs.Units.{handles_of, nodes_of}
use Rattle.body_members.specs.Entries.{IsAligned, entry_told, open_and_behind}
use Rattle.body_members.proofs.entries.entries_among.Given as goal

abbrev pub invariant-loop-part : goal.invariant-loop-part
invariant-loop-part l =
    record {
      entries : l.entries.items ++ open_and_behind (nodes_of l.unit) l.opened (pending_from (nodes_of l.unit) (handles_of l.part-iterator))
          ≡ map (entry_told (nodes_of l.unit)) (pending_from (nodes_of l.unit) (drop 1 (handles_of l.fn.parts))).entries;
      aligned : IsAligned l.opened;
    }
