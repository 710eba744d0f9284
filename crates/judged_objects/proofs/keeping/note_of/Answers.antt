use Rattle.std.proofs.Common.{option_map, refl, ap, ◌∙◌}
use Rattle.node_surroundings.specs.Seen.{surrounding_seen}
use Rattle.judged_objects.specs.Notes.{counts_noted}
use Rattle.judged_objects.proofs.keeping.note_of.Goals as goal

pub returns : goal.returns
returns c =
    let stands = surrounding_seen c.args.surrounding in
    λ i. record {
      contexts = (c.in_ok-contexts.ensures ∙ ap (option_map counts_noted) (c.in_ok-sums.ensures stands refl refl)) i;
      is_noreturn = c.says_noreturn-is_noreturn.ensures stands refl refl i;
    }
