-- The numbers stand behind what is wrong.
use Rattle.std.proofs.Common.{codes}
use Rattle.std.specs.Fmt.{signed_decimal}
use Rattle.warn_print.proofs.TextLemmas.{counted_behind}
use Rattle.warn_print.proofs.warnings.write_truncation.Goals as goal

pub returns : goal.returns
returns c =
    counted_behind c.args.text.now.items c.extend_from_slice.new.self.items c.write_two_numbers.new.text.items (codes "cast truncates constant (")
    (signed_decimal c.args.failure.number) (codes " becomes ") (signed_decimal c.args.failure.wanted) (codes ")") c.in_ok-extend_from_slice.ensures.items c.in_ok-write_two_numbers.ensures
