-- What is left of two types has one number exactly where they are the same.
use Rattle.c_types.proofs.OutlineLemmas.{plain-told}
use Rattle.c_types.proofs.rows.Rows.same_without_flags.Goals as goal

pub returns : goal.returns
returns c =
    plain-told c.args.self.now.rows.entries c.requires.rows c.args.number c.args.other c.plain.result c.plain-2.result
    c.plain.ensures.known c.plain-2.ensures.known c.plain.ensures.plain c.plain-2.ensures.plain
