use Rattle.initializer_levels.specs.Items.{items_left}
use Rattle.initializer_levels.proofs.TurnLemmas.{out_of_level}
use Rattle.initializer_levels.proofs.turn.turn_out.Goals as goal

pub returns-clause-turns : goal.returns-clause-turns
returns-clause-turns c = λ aggregates nodes facts table paths known none unbraced.
    out_of_level aggregates nodes facts table paths paths c.args.walk c.in_ok-turned.turned none unbraced
    (λ found. c.in_ok-turned.ensures.turned table paths (items_left nodes facts) found known)
