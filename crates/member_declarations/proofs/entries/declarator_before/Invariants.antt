-- What stands before the parts that were passed is what stands before all.
use Rattle.std.proofs.Common.{◌≡◌, ◌≤◌, length}
use Rattle.decl_judge.specs.Units.{handles_of, nodes_of}
use Rattle.member_declarations.specs.Entries.{declarator_before}
use Rattle.member_declarations.proofs.entries.declarator_before.Given as goal

abbrev pub invariant-loop-before : goal.invariant-loop-before
invariant-loop-before l =
    record {
      same : declarator_before (nodes_of l.unit) (handles_of l.parts) l.before ≡ declarator_before (nodes_of l.unit) (handles_of l.parts) l.fn.place;
      within : l.before ≤ length l.parts;
    }
