use Rattle.std.proofs.Common.{ap, ◌∙◌}
use Rattle.c_types.specs.Layouts.{told_in}
use Rattle.whole_judge.proofs.LoadedLemmas.{stays}
use Rattle.node_judge.proofs.loaded.as_loaded.Goals as goal

pub returns-in_default-clause-row : goal.returns-in_default-clause-row
returns-in_default-clause-row c want stands wanted seen =
    let table = c.args.types.now in
    seen
    ∙ stays table (told_in table) c.args.token want c.args.row.fact stands c.in_default.not-Expression (ap (λ kept. kept.fact) seen)
