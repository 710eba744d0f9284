-- All numbers are one, and so is the combination that they name.
use Rattle.std.proofs.Common.{◌≡◌, ◌∷◌, [], ap, ◌∙◌}
use Rattle.statement_judge.proofs.KeptLemmas.{filled_kept}
use Rattle.statement_judge.proofs.enclosings.Enclosings.filled.Goals as goal

pub returns : goal.returns
returns c =
    filled_kept c.in_ok-settings.settings.items c.in_ok-numbers.numbers.items c.args.count
    (c.in_ok-settings.ensures.items_if_clones_equal (λ y same. same) ∙ ap (λ one. one ∷ []) c.nothing-nothing.ensures)
    (c.in_ok-numbers.ensures.items_if_clones_equal (λ y same. same))
