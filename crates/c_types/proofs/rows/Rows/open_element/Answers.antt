-- The element stands in the row's form.
use Rattle.std.proofs.Common.{arith}
use Rattle.c_types.proofs.MemberLemmas.{open-known, open-told}
use Rattle.c_types.proofs.RowLemmas.{length-types_of}
use Rattle.c_types.proofs.rows.Rows.open_element.Goals as goal

pub row-requires : goal.row-requires
row-requires c = omega (arith, c.requires.known, length-types_of c.args.self.now.rows.entries)

pub returns-clause-element : goal.returns-clause-element
returns-clause-element c = rw c.open_element.ensures (open-told c.args.self.now.rows.entries c.requires.rows c.args.number c.row.result c.row.ensures)

pub returns-clause-known : goal.returns-clause-known
returns-clause-known c = rw c.open_element.ensures (open-known c.args.self.now.rows.entries c.requires.rows c.args.number c.row.result c.row.ensures)
