-- The two jumps are put together.
use Rattle.std.proofs.Common.{length, sym, subst, arith}
use Rattle.c_types.specs.Chains.{IsJumpOver}
use Rattle.c_types.specs.Layouts.{told_kept}
use Rattle.c_types.proofs.JumpLemmas.{jump-over}
use Rattle.c_types.proofs.chains.NameChain.newest_jumps.Goals as goal

pub returns-then-level-outer-clause-right : goal.returns-then-level-outer-clause-right
returns-then-level-outer-clause-right c = λ are.
    let told = told_kept c.args.layouts.now.kept.entries in
    let links = c.args.self.now.links in
    let outer = c.in_ok-outer.outer in
    let inner = c.in_ok-inner.inner in
    let level = c.level-level.ensures in
    subst (IsJumpOver told links (length links)) (sym c.around.ensures)
    (jump-over told links (length links) inner outer (omega (arith, c.in_ok-inner.ensures.falls)) (omega (arith, c.in_ok-outer.ensures.falls, level)) (c.in_ok-inner.ensures.right told are)
    (subst (λ n. IsJumpOver told links n outer) level (c.in_ok-outer.ensures.right told are)))
