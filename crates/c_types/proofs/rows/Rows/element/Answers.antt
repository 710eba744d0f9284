-- The element stands earlier than its array.
use Rattle.std.proofs.Common.{◌<◌}
use Rattle.c_types.specs.Forms.{element_in}
use Rattle.c_types.proofs.LevelLemmas.{element-earlier}
use Rattle.c_types.proofs.MarkingLemmas.{IfSome_from}
use Rattle.c_types.proofs.rows.Rows.element.Goals as goal

pub returns-clause-earlier : goal.returns-clause-earlier
returns-clause-earlier c =
    rw c.element.ensures
    (IfSome_from (λ e. e < c.args.number) (element_in c.row.result.0.form) (λ e is. element-earlier c.args.self.now.rows.entries c.requires.rows c.args.number c.row.result c.row.ensures e is))
