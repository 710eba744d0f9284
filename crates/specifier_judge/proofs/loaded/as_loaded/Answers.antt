use Rattle.c_types.specs.Layouts.{told_in}
use Rattle.specifier_judge.proofs.LoadedLemmas.{stays_so}
use Rattle.specifier_judge.proofs.loaded.as_loaded.Goals as goal

pub returns-in_default-clause-row : goal.returns-in_default-clause-row
returns-in_default-clause-row c want stands wanted seen =
    let table = c.args.types.now in
    stays_so table (told_in table) c.args.token want c.args.row stands c.in_default.not-Expression seen
