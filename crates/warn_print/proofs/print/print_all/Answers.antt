-- The listing is that of the failures as they are shown.
use Rattle.std.proofs.Common.{◌++◌, List, ap, map, ℕ, ◌∙◌}
use Rattle.sparse_model.specs.declared.failure.Failure.{Failure}
use Rattle.meaning_warnings.specs.Listing.{listing_lines, undefined_lines}
use Rattle.warn_print.specs.Seen.{failure_seen, failures_seen, unit_shown}
use Rattle.warn_print.proofs.UnitLemmas.{shown-rank}
use Rattle.warn_print.proofs.print.print_all.Goals as goal

pub returns : goal.returns
returns c =
    let show = c.args.show.now in
    let shown = unit_shown show in
    let classes = c.args.classes.now in
    let seen = failure_seen show.names.now show.types.now in
    let undefined = undefined_lines shown classes shown.undefined shown.undefined_tokens in
    record {
      listing = map seen c.in_ok-listing.listing;
      lists = c.in_ok-listing.ensures.lists seen (shown-rank show.names.now show.types.now);
      tells =
          c.in_ok-write_listing.ensures
          ∙ ap (λ (text : List ℕ). text ++ listing_lines shown classes (failures_seen show c.as_slice.result.now))
          (c.in_ok-write_undefined.ensures ∙ ap (λ (text : List ℕ). text ++ undefined) c.new-text.ensures.items)
          ∙ ap (λ (fs : List Failure). undefined ++ listing_lines shown classes (failures_seen show fs)) c.as_slice.ensures;
    }
