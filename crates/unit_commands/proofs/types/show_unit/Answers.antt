-- The lines of the nodes are the reply.
use Rattle.unit_commands.proofs.types.show_unit.Goals as goal

pub returns : goal.returns
returns c = (c.in_ok-out.out.items, c.in_ok-out.ensures, c.shown.ensures)
