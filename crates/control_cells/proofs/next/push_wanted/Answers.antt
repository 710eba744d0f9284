-- One more label.
use Rattle.std.proofs.Common.{◌≡◌, ◌+◌, drop, ap, sym, ◌∙◌}
use Rattle.control_flow.specs.Seen.{targets}
use Rattle.control_cells.specs.Blocks.{is_wanted, labelled, places_after}
use Rattle.control_cells.specs.Seen.{cells_seen}
use Rattle.control_cells.proofs.ListLemmas.{drop-more}
use Rattle.control_cells.proofs.next.push_wanted.Goals as goal

pub loop-label-preserved : goal.loop-label-preserved
loop-label-preserved c = λ names apart.
    ap (λ front. places_after (is_wanted names c.args.wanted) front (labelled (cells_seen names c.args.cells.now) c.args.numbers.now (drop (c.loop-label.label-index + 1) c.args.labels.now)))
    (c.in_ok-push_if_wanted.ensures names apart)
    ∙ ap (λ labels. places_after (is_wanted names c.args.wanted) (targets c.loop-label.next) (labelled (cells_seen names c.args.cells.now) c.args.numbers.now labels))
    (sym (drop-more c.args.labels.now c.loop-label.label-index c.loop-label-test.true))
    ∙ c.loop-label.invariant names apart
