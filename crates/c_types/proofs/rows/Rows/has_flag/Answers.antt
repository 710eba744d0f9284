-- The flags stand in the row.
use Rattle.std.proofs.Common.{sym, ap, ◌∙◌, arith}
use Rattle.meaning_types.specs.Types.{has_flag}
use Rattle.c_types.proofs.RowLemmas.{length-types_of}
use Rattle.c_types.proofs.OutlineLemmas.{flags-told}
use Rattle.c_types.proofs.rows.Rows.has_flag.Goals as goal

pub row-requires : goal.row-requires
row-requires c = omega (arith, c.requires.known, length-types_of c.args.self.now.rows.entries)

pub returns : goal.returns
returns c = c.has_flag.ensures ∙ ap has_flag (sym (flags-told c.args.self.now.rows.entries c.requires.rows c.args.number c.row.result c.row.ensures))
