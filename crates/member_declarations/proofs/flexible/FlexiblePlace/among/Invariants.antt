-- What is kept so far, with the parts that are left, is what is kept of all.
use Rattle.std.proofs.Common.{◌≡◌, ◌+◌, ◌≤◌, ◌^◌, length}
use Rattle.decl_judge.specs.Units.{handles_of, nodes_of}
use Rattle.member_declarations.specs.Flexible.{flexible_over, nothing_kept}
use Rattle.member_declarations.proofs.flexible.FlexiblePlace.among.Given as goal

abbrev pub invariant-loop-part : goal.invariant-loop-part
invariant-loop-part l =
    record {
      kept : flexible_over (nodes_of l.unit) l.place l.kept (handles_of l.part-iterator)
          ≡ flexible_over (nodes_of l.unit) 0 nothing_kept (handles_of l.parts);
      few : l.place + length l.part-iterator ≤ 2 ^ 30;
    }
