-- A jump or a link more is passed.
use Rattle.std.proofs.Common.{◌≡◌, drop, sym, ap, ◌∙◌, subst, take, arith}
use Rattle.c_types.specs.Chains.{IsJumpOver, raised}
use Rattle.c_types.specs.Layouts.{told_kept}
use Rattle.c_types.proofs.JumpLemmas.{jump-over, raised-none}
use Rattle.c_types.proofs.chains.NameChain.raised.Goals as goal

pub returns-then-entry-level : goal.returns-then-entry-level
returns-then-entry-level c = sym (raised-none (told_kept c.args.layouts.now.kept.entries) c.args.self.now.links c.args.entry.level c.args.level c.args.entry.found (omega (arith, c.if-entry-level.true)))

pub loop-jump-preserved : goal.loop-jump-preserved
loop-jump-preserved c =
    let told = told_kept c.args.layouts.now.kept.entries in
    let links = c.args.self.now.links in
    let outer = c.loop-jump.jump in
    let inner = c.way_down.result in
    let same = ap (λ jump. jump.level) c.around-jump.ensures in
    record {
      stays = omega (arith, same, c.way_down.ensures.stays);
      within = omega (arith, same, c.way_down.ensures.falls, c.loop-jump.invariant.within);
      right =
          subst (IsJumpOver told links c.args.level) (sym c.around-jump.ensures)
          (jump-over told links c.args.level inner outer (omega (arith, c.way_down.ensures.falls)) c.loop-jump.invariant.within (c.way_down.ensures.right told c.requires.jumps) c.loop-jump.invariant.right);
    }

pub returns : goal.returns
returns c =
    let low : c.loop-jump.jump.level ≡ c.args.entry.level = omega (arith, c.loop-jump.invariant.stays, c.loop-jump-test.false) in
    c.around.ensures ∙ c.loop-jump.invariant.right c.args.entry.found
    ∙ ap (λ level. raised (told_kept c.args.layouts.now.kept.entries) (drop level (take c.args.level c.args.self.now.links)) c.args.entry.found) low
