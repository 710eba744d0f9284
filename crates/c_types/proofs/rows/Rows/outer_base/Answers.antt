-- The base stands in the row's form, or is that of a function.
use Rattle.std.proofs.Common.{sym, ◌∙◌, arith}
use Rattle.c_types.proofs.RowLemmas.{length-types_of}
use Rattle.c_types.proofs.Told.{outer-base, outer-counted, outer-known, outer-function}
use Rattle.c_types.proofs.rows.Rows.outer_base.Goals as goal

pub row-requires : goal.row-requires
row-requires c = omega (arith, c.requires.known, length-types_of c.args.self.now.rows.entries)

pub returns-in-Some-clause-base : goal.returns-in-Some-clause-base
returns-in-Some-clause-base c =
    outer-base c.args.self.now.rows.entries c.requires.rows c.args.number c.row.result c.row.ensures c.in-Some.base (sym c.outer_base.ensures ∙ c.in-Some.is)

pub returns-in-Some-clause-count : goal.returns-in-Some-clause-count
returns-in-Some-clause-count c =
    outer-counted c.args.self.now.rows.entries c.requires.rows c.args.number c.row.result c.row.ensures c.in-Some.base (sym c.outer_base.ensures ∙ c.in-Some.is)

pub returns-in-Some-clause-known : goal.returns-in-Some-clause-known
returns-in-Some-clause-known c =
    outer-known c.args.self.now.rows.entries c.requires.rows c.args.number c.row.result c.row.ensures c.in-Some.base (sym c.outer_base.ensures ∙ c.in-Some.is)

pub function_base-requires-clause-function : goal.function_base-requires-clause-function
function_base-requires-clause-function c =
    outer-function c.args.self.now.rows.entries c.requires.rows c.args.number c.row.result c.row.ensures (sym c.outer_base.ensures ∙ c.in-None.is)
