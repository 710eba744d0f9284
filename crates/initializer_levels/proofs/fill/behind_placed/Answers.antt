use Rattle.initializer_levels.proofs.fill.behind_placed.Goals as goal

pub returns-clause-known : goal.returns-clause-known
returns-clause-known c = λ table paths walk met.
    record { walk = record { level = c.in_ok-level.ensures.known table paths walk.level; levels = walk.levels }; met = met }
