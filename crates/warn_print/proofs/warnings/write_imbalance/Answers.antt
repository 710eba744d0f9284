-- What is wrong stands behind the name.
use Rattle.std.proofs.Common.{◌++◌, codes}
use Rattle.warn_print.proofs.TextLemmas.{appended_twice}
use Rattle.warn_print.proofs.warnings.write_imbalance.Goals as goal

pub returns : goal.returns
returns c =
    appended_twice c.args.text.now.items c.write_named.new.text.items c.extend_from_slice.new.self.items
    (codes "context imbalance in '" ++ c.args.name.now ++ codes "' - ") c.args.what.now c.in_ok-write_named.ensures c.in_ok-extend_from_slice.ensures.items
