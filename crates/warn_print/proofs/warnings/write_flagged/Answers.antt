use Rattle.std.proofs.Common.{rules, append_assoc}
use Rattle.warn_print.proofs.warnings.write_flagged.Goals as goal

pub returns : goal.returns
returns c = rw c.if-place.false (search (rules, append_assoc))
