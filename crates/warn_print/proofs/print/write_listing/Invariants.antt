use Rattle.std.proofs.Common.{◌≡◌, ◌++◌, take}
use Rattle.meaning_warnings.specs.Listing.{listing_lines}
use Rattle.warn_print.specs.Seen.{failures_seen, unit_shown}
use Rattle.warn_print.proofs.print.write_listing.Given as goal

abbrev pub invariant-loop-failure : goal.invariant-loop-failure
invariant-loop-failure l =
    l.text.items ≡ l.fn.text.items ++ listing_lines (unit_shown l.show) l.classes (failures_seen l.show (take l.failure-index l.listing))
