-- The row that is found has the shape.
use Rattle.std.proofs.Common.{sym}
use Rattle.c_types.proofs.Keys.{shape_eq, same_key}
use Rattle.c_types.proofs.Finding.{find-stands}
use Rattle.c_types.proofs.rows.Rows.find.Goals as goal

pub returns-in-Some : goal.returns-in-Some
returns-in-Some c = record {
  stands = find-stands c.args.self.now.rows.entries c.requires c.args.shape (shape_eq c.args.shape) (same_key c.args.shape) c.in-Some.index (sym c.in-Some.ensures.index);
}
