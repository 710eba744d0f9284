-- The target stands in the row's form.
use Rattle.std.proofs.Common.{arith}
use Rattle.c_types.proofs.RowLemmas.{length-types_of}
use Rattle.c_types.proofs.Finding.{target-told, target-stands}
use Rattle.c_types.proofs.rows.Rows.target.Goals as goal

pub row-requires : goal.row-requires
row-requires c = omega (arith, c.requires.known, length-types_of c.args.self.now.rows.entries)

pub returns-clause-target : goal.returns-clause-target
returns-clause-target c = rw c.target.ensures (target-told c.args.self.now.rows.entries c.requires.rows c.args.number c.row.result c.row.ensures)

pub returns-clause-known : goal.returns-clause-known
returns-clause-known c = rw c.target.ensures (target-stands c.args.self.now.rows.entries c.requires.rows c.args.number c.row.result c.row.ensures)
