-- Each type stands once, so equal ones have one number.
use Rattle.c_types.proofs.Finding.{equal-told}
use Rattle.c_types.proofs.rows.Rows.equal.Goals as goal

pub returns : goal.returns
returns c = equal-told c.args.self.now.rows.entries c.requires.rows c.args.number c.args.other c.requires.first c.requires.second
