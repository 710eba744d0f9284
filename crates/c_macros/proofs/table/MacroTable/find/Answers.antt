use Rattle.std.proofs.Common.{Some, ap, ◌∙◌}
use Rattle.c_macros.proofs.table.MacroTable.find.Goals as goal

pub returns-in-Some : goal.returns-in-Some
returns-in-Some c = ap Some c.definition.ensures ∙ c.in-Some.ensures

pub returns-in-None : goal.returns-in-None
returns-in-None c = c.in-None.ensures
