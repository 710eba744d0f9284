-- The level joins those around.
use Rattle.std.proofs.Common.{All, List, subst, sym}
use Rattle.initializer_levels.specs.declared.level.Level.{Level}
use Rattle.initializer_levels.specs.Kept.{IsKnownLevel}
use Rattle.initializer_levels.proofs.WalkLemmas.{levels_known_more}
use Rattle.initializer_levels.proofs.walk.descend.Goals as goal

pub returns-clause-known : goal.returns-clause-known
returns-clause-known c = λ table paths inner level levels.
    record {
      level = inner;
      levels =
          subst (λ (all : List Level). All (IsKnownLevel table paths) all) (sym c.in_ok-push.ensures.items)
          (levels_known_more table paths c.args.levels.items c.args.level levels level);
    }
