use Rattle.initializer_levels.proofs.designate.go_nowhere.Goals as goal

pub returns-clause-known : goal.returns-clause-known
returns-clause-known c = λ table paths walk met.
    record { walk = record { level = c.ended-level.ensures.known table paths walk.level; levels = walk.levels }; met = met }
