-- What a type is made of stands in its row.
use Rattle.std.proofs.Common.{arith}
use Rattle.c_types.proofs.ElementLemmas.{extent-told}
use Rattle.c_types.proofs.RowLemmas.{length-types_of}
use Rattle.c_types.proofs.rows.Rows.elements.Goals as goal

pub row-requires : goal.row-requires
row-requires c = omega (arith, c.requires.known, length-types_of c.args.self.now.rows.entries)

pub returns : goal.returns
returns c = λ told. extent-told c.args.self.now.rows.entries c.requires.rows c.args.number c.row.result c.row.ensures told
