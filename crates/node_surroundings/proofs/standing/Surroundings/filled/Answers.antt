-- All entries are one, and so is the setting that they name.
use Rattle.std.proofs.Common.{[], ◌∷◌, ◌+◌, replicate, ap, ◌∙◌}
use Rattle.node_surroundings.proofs.KeptLemmas.{filled_kept, filled_within}
use Rattle.node_surroundings.proofs.standing.Surroundings.filled.Goals as goal

pub invariant_of-result : goal.invariant_of-result
invariant_of-result c =
    filled_within c.in_ok-settings.settings.items c.in_ok-entries.entries.items c.args.count c.args.surrounding
    (c.in_ok-settings.ensures ∙ ap (λ n. replicate (n + 1) (c.args.surrounding.around ∷ [])) c.list_of.ensures)
    (c.in_ok-entries.ensures.items_if_clones_equal (λ y same. same) ∙ ap (replicate c.args.count) c.new.ensures)

pub returns : goal.returns
returns c =
    filled_kept c.in_ok-settings.settings.items c.in_ok-entries.entries.items c.args.count c.args.surrounding
    (c.in_ok-settings.ensures ∙ ap (λ n. replicate (n + 1) (c.args.surrounding.around ∷ [])) c.list_of.ensures)
    (c.in_ok-entries.ensures.items_if_clones_equal (λ y same. same) ∙ ap (replicate c.args.count) c.new.ensures)
