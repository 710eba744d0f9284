use Rattle.initializer_levels.specs.Items.{items_left}
use Rattle.initializer_levels.proofs.GoingLemmas.{opened_goes}
use Rattle.initializer_levels.proofs.fill.open_placed.Goals as goal

pub returns-clause-walk : goal.returns-clause-walk
returns-clause-walk c = λ nodes facts paths.
    let table = c.args.types.now in
    opened_goes nodes facts table paths c.in_ok-walk.walk c.opened-inner.result _ _ _ _
    (λ found. c.in_ok-walk.ensures.walk table paths (items_left nodes facts) found)
    (c.opened-inner.ensures.level paths (items_left nodes facts))

pub returns-clause-known : goal.returns-clause-known
returns-clause-known c = λ paths walk path.
    record { walk = c.in_ok-walk.ensures.known c.args.types.now paths (c.opened-inner.ensures.known paths path) walk.level walk.levels; met = tt }
