-- The numbers stand behind what is wrong.
use Rattle.std.proofs.Common.{codes}
use Rattle.std.specs.Fmt.{signed_decimal}
use Rattle.warn_print.proofs.TextLemmas.{counted}
use Rattle.warn_print.proofs.warnings.write_wrong_count.Goals as goal

pub returns : goal.returns
returns c =
    counted c.args.text.now.items c.write_imbalance.new.text.items c.write_two_numbers.new.text.items (codes "context imbalance in '") c.args.name.now
    (codes "' - ") (codes "wrong count at exit (") (signed_decimal c.args.failure.number) (codes " instead of ") (signed_decimal c.args.failure.wanted)
    (codes ")") c.in_ok-write_imbalance.ensures c.in_ok-write_two_numbers.ensures
