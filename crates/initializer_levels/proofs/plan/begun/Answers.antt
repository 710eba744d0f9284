-- There are no levels around.
use Rattle.std.proofs.Common.{All, List, [], sym, subst, arith}
use Rattle.initializer_levels.specs.declared.level.Level.{Level}
use Rattle.initializer_levels.specs.Kept.{IsKnownLevel}
use Rattle.initializer_levels.proofs.plan.begun.Goals as goal

pub returns-clause-known : goal.returns-clause-known
returns-clause-known c =
    record {
      level = c.opened.ensures.known [] tt;
      levels =
          subst (λ (levels : List Level). All (IsKnownLevel c.args.types.now []) levels) (sym c.new-2.ensures.items)
          (λ i e within. absurd (omega (arith, within)));
    }
