-- The first parameter stands in the row's form.
use Rattle.std.proofs.Common.{◌∙◌, sym, arith}
use Rattle.c_types.specs.Rows.{types_of}
use Rattle.c_types.specs.Levels.{BeginsWith}
use Rattle.c_types.proofs.MarkingLemmas.{IfSome_from, IfNone_from}
use Rattle.c_types.proofs.RowLemmas.{length-types_of}
use Rattle.c_types.proofs.Told.{begins, none-begins}
use Rattle.c_types.proofs.rows.Rows.first_parameter.Goals as goal

pub row-requires : goal.row-requires
row-requires c = omega (arith, c.requires.known, length-types_of c.args.self.now.rows.entries)

pub returns-clause-some : goal.returns-clause-some
returns-clause-some c =
    IfSome_from (λ parts. BeginsWith (types_of c.args.self.now.rows.entries) c.args.number parts.0 parts.1) c.parameter.result
    (λ parts is. begins c.args.self.now.rows.entries c.requires.rows c.args.number c.row.result c.row.ensures parts.0 parts.1 (sym c.parameter.ensures ∙ is))

pub returns-clause-none : goal.returns-clause-none
returns-clause-none c =
    IfNone_from _ c.parameter.result
    (λ is. none-begins c.args.self.now.rows.entries c.requires.rows c.args.number c.row.result c.row.ensures (sym c.parameter.ensures ∙ is))
