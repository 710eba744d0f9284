-- The part at the name among those that are left is that among all.
use Rattle.std.proofs.Common.{◌≡◌, length}
use Rattle.meaning_typing.specs.DeclarationRows.{part_at_name}
use Rattle.decl_judge.specs.Units.{handles_of, nodes_of}
use Rattle.declaration_rows.proofs.parameters.part_at_name.Given as goal

abbrev pub invariant-parts : goal.invariant-parts
invariant-parts l =
    part_at_name (nodes_of l.unit) (handles_of l.rest) (length (nodes_of l.unit)) ≡ part_at_name (nodes_of l.unit) (handles_of l.parts) (length (nodes_of l.unit))

abbrev pub decreases-parts : goal.decreases-parts
decreases-parts l = length l.rest
