-- One level more.
use Rattle.std.proofs.Common.{sym, subst, arith}
use Rattle.c_types.specs.Levels.{IsChain}
use Rattle.c_types.proofs.LevelLemmas.{IsChain-push}
use Rattle.c_types.proofs.rows.Rows.levels.Goals as goal

pub loop-element-preserved : goal.loop-element-preserved
loop-element-preserved c =
    record {
      chain =
          subst (λ arrays. IsChain c.args.self.now.rows.entries c.args.number arrays c.in-Some.element) (sym c.in_ok-push.ensures.items)
          (IsChain-push c.args.self.now.rows.entries c.args.number c.loop-element.arrays.items c.loop-element.inner c.in-Some.element
          c.loop-element.invariant.chain c.in-Some.ensures.level);
      known = omega (arith, c.in-Some.ensures.earlier, c.loop-element.invariant.known);
    }
