-- What is left of two types has one number exactly where they are the same.
use Rattle.c_types.proofs.Finding.{same-told}
use Rattle.c_types.proofs.rows.Rows.same.Goals as goal

pub returns : goal.returns
returns c =
    same-told c.args.self.now.rows.entries c.requires.rows c.args.number c.args.other c.bare.result c.bare-2.result
    c.bare.ensures.known c.bare-2.ensures.known c.bare.ensures.bare c.bare-2.ensures.bare
