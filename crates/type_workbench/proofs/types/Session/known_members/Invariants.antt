-- The types of the members so far are those of the table.
use Rattle.std.proofs.Common.{All}
use Rattle.c_types.specs.Table.{IsTypeId}
use Rattle.type_workbench.proofs.types.Session.known_members.Given as goal

abbrev pub invariant-members : goal.invariant-members
invariant-members l = All (λ member. IsTypeId l.self.types member.of) l.members.items
