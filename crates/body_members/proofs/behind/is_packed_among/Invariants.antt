-- So far it was none of them.
use Rattle.std.proofs.Common.{◌≡◌}
use Rattle.decl_judge.specs.Units.{handles_of, nodes_of}
use Rattle.body_members.specs.Seen.{are_packed}
use Rattle.body_members.proofs.behind.is_packed_among.Given as goal

abbrev pub invariant-loop-attribute : goal.invariant-loop-attribute
invariant-loop-attribute l = are_packed (nodes_of l.unit) (handles_of l.attribute-iterator) ≡ are_packed (nodes_of l.unit) (handles_of l.attributes)
