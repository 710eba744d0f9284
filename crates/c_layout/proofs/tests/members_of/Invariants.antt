-- The types of the members so far are those of the table.
use Rattle.std.proofs.Common.{All}
use Rattle.c_types.specs.Table.{IsTypeId}
use Rattle.c_layout.proofs.tests.members_of.Given as goal

abbrev pub invariant-members : goal.invariant-members
invariant-members g l = All (λ member. IsTypeId l.types member.of) l.members.items
