-- The flags stand in the rows.
use Rattle.std.proofs.Common.{sym, ◌∙◌, arith}
use Rattle.meaning_types.specs.Equality.{are_equal_flags}
use Rattle.c_types.proofs.RowLemmas.{length-types_of}
use Rattle.c_types.proofs.OutlineLemmas.{flags-told}
use Rattle.c_types.proofs.rows.Rows.same_flags.Goals as goal

pub row-requires : goal.row-requires
row-requires c = omega (arith, c.requires.first, length-types_of c.args.self.now.rows.entries)

pub row-requires-2 : goal.row-requires-2
row-requires-2 c = omega (arith, c.requires.second, length-types_of c.args.self.now.rows.entries)

pub returns : goal.returns
returns c =
    let flags = sym (flags-told c.args.self.now.rows.entries c.requires.rows c.args.number c.row.result c.row.ensures) in
    let others = sym (flags-told c.args.self.now.rows.entries c.requires.rows c.args.other c.row-2.result c.row-2.ensures) in
    c.same_flags.ensures ∙ (λ i. are_equal_flags (flags i) (others i))
