use Rattle.std.proofs.Common.{◌≡◌, ◌∙◌, ap, sym}
use Rattle.initializer_levels.specs.Items.{items_left}
use Rattle.initializer_levels.proofs.TurnLemmas.{extra_goes, extra_turn, none_if, some_if}
use Rattle.initializer_levels.proofs.turn.turn_without_part.Goals as goal

pub returns-then-has_braces-clause-turns : goal.returns-then-has_braces-clause-turns
returns-then-has_braces-clause-turns c = λ aggregates nodes facts table paths is_moved known is none.
    let behind = some_if c.args.walk.level.behind (sym c.has_braces.ensures ∙ c.if-has_braces.true) in
    extra_turn aggregates nodes facts table paths paths c.args.walk (record { level = c.ended-level.result; levels = c.args.walk.levels; items = c.behind-items.result }) c.args.initializer is_moved behind.0 is none behind.1
    (λ found. extra_goes nodes facts table paths c.args.walk found c.ended-level.result c.behind-items.result
    (c.ended-level.ensures.level table paths (items_left nodes facts)) (c.behind-items.ensures.behind nodes facts))

pub returns-then-has_braces-clause-known : goal.returns-then-has_braces-clause-known
returns-then-has_braces-clause-known c = λ table paths walk.
    record { turned = record { level = c.ended-level.ensures.known table paths walk.level; levels = walk.levels }; met = tt }

pub returns-else-has_braces-clause-turns : goal.returns-else-has_braces-clause-turns
returns-else-has_braces-clause-turns c = λ aggregates nodes facts table paths is_moved known is none.
    c.turn_out.ensures.turns aggregates nodes facts table paths known none (none_if c.args.walk.level.behind (sym c.has_braces.ensures ∙ c.if-has_braces.false))

pub returns-else-has_braces-clause-known : goal.returns-else-has_braces-clause-known
returns-else-has_braces-clause-known c = λ table paths walk. c.turn_out.ensures.known table paths walk.levels
