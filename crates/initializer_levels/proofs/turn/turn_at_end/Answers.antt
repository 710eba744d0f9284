use Rattle.initializer_levels.specs.Items.{items_left}
use Rattle.initializer_levels.specs.Kept.{level_seen}
use Rattle.initializer_levels.proofs.TurnLemmas.{no_item_next, out_of_braces, out_of_level}
use Rattle.initializer_levels.proofs.turn.turn_at_end.Goals as goal

pub returns-in_ok-turned-in-Some-clause-turns : goal.returns-in_ok-turned-in-Some-clause-turns
returns-in_ok-turned-in-Some-clause-turns c = λ aggregates nodes facts table paths known none.
    out_of_braces aggregates nodes facts table paths paths c.args.walk c.in_ok-turned-in-Some.turned c.in-Some.behind none c.in-Some.is
    (λ found. c.in_ok-turned-in-Some.ensures.turned table paths (items_left nodes facts) found known)

pub returns-in_ok-turned-in-None-clause-turns : goal.returns-in_ok-turned-in-None-clause-turns
returns-in_ok-turned-in-None-clause-turns c = λ aggregates nodes facts table paths known none.
    out_of_level aggregates nodes facts table paths paths c.args.walk c.in_ok-turned-in-None.turned
    (no_item_next aggregates (level_seen table paths (items_left nodes facts) c.args.walk.level) (items_left nodes facts c.args.walk.items) none) c.in-None.is
    (λ found. c.in_ok-turned-in-None.ensures.turned table paths (items_left nodes facts) found known)
