-- The last declarator and the names so far, with the parts that are left, are those of all.
use Rattle.std.proofs.Common.{◌≡◌, None, drop}
use Rattle.meaning_typing.specs.MemberDeclarations.{pending_from}
use Rattle.decl_judge.specs.Units.{handles_of, nodes_of}
use Rattle.member_declarations.specs.Flexible.{last_entry, named_over}
use Rattle.member_declarations.proofs.flexible.declared_among.Given as goal

abbrev pub invariant-loop-part : goal.invariant-loop-part
invariant-loop-part l =
    record {
      last : last_entry l.declared.last (pending_from (nodes_of l.unit) (handles_of l.part-iterator)).entries
          ≡ last_entry None (pending_from (nodes_of l.unit) (drop 1 (handles_of l.fn.parts))).entries;
      named : named_over (nodes_of l.unit) l.declared.named (pending_from (nodes_of l.unit) (handles_of l.part-iterator)).entries
          ≡ named_over (nodes_of l.unit) l.fn.named (pending_from (nodes_of l.unit) (drop 1 (handles_of l.fn.parts))).entries;
    }
