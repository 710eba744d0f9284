-- What is left of a type stands at the number in its row.
use Rattle.std.proofs.Common.{arith}
use Rattle.c_types.proofs.RowLemmas.{length-types_of, bare-known, numbered-bare, function-bare}
use Rattle.c_types.proofs.rows.Rows.bare.Goals as goal

pub row-requires : goal.row-requires
row-requires c = omega (arith, c.requires.known, length-types_of c.args.self.now.rows.entries)

pub returns-clause-known : goal.returns-clause-known
returns-clause-known c = bare-known c.args.self.now.rows.entries c.requires.rows c.args.number c.row.result c.row.ensures

pub returns-clause-function : goal.returns-clause-function
returns-clause-function c = function-bare c.args.self.now.rows.entries c.requires.rows c.args.number c.row.result c.row.ensures

pub returns-clause-bare : goal.returns-clause-bare
returns-clause-bare c = numbered-bare c.args.self.now.rows.entries c.requires.rows c.args.number c.row.result c.row.ensures
