use Rattle.meaning_statements.proofs.Above.{nodes_above_come_down}
use Rattle.meaning_statements.proofs.statements.nodes_above_come_down.Goals as goal

pub returns : goal.returns
returns c = nodes_above_come_down
