-- Each entry is what the cell around asks for.
use Rattle.control_cells.proofs.TableLemmas.{keep}
use Rattle.control_cells.proofs.tables.tables_keep_equations.Goals as goal

pub returns : goal.returns
returns c = λ cells exits tree are. keep cells exits are tree
