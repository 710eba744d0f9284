use Rattle.std.proofs.Common.{◌≡◌, ◌++◌, length}
use Rattle.c_tokens.specs.Seen.{toks_of}
use Rattle.meaning_warnings.specs.Listing.{undefined_lines}
use Rattle.warn_print.specs.Seen.{failures_seen, unit_shown}
use Rattle.warn_print.proofs.print.write_undefined.Given as goal

abbrev pub invariant-failures : goal.invariant-failures
invariant-failures l =
    l.text.items ++ undefined_lines (unit_shown l.show) l.classes (failures_seen l.show l.failures) (toks_of l.show.names.now l.tokens)
    ≡ l.fn.text.items
    ++ undefined_lines (unit_shown l.show) l.classes (failures_seen l.show l.show.toks.now.undefs) (toks_of l.show.names.now l.show.toks.now.undef_tokens)

abbrev pub decreases-failures : goal.decreases-failures
decreases-failures l = length l.failures
