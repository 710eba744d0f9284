-- A listing is written line by line, since it is its own listing.
use Rattle.std.proofs.Common.{ap, ◌∙◌}
use Rattle.failure_listing.proofs.Listings.{listed-lines}
use Rattle.meaning_answer.specs.Units.{ending_behind}
use Rattle.ksparse.specs.Judged.{listing_shown}
use Rattle.ksparse.specs.Written.{reply_seen}
use Rattle.ksparse.proofs.Judging.{warned-so}
use Rattle.ksparse.proofs.check.warn.Goals as goal

pub returns : goal.returns
returns c =
    warned-so (reply_seen (record { out = c.new.result; err = c.in_ok-err.err; exit = c.exit_of-exit.result })) _ c.new.ensures.items
    (listed-lines _ _ (listing_shown c.args.names.now c.args.types.now c.args.listing.now) _ c.requires.listing c.in_ok-err.ensures)
    (c.exit_of-exit.ensures ∙ ap ending_behind c.as_slice.ensures.value)
