use Rattle.std.proofs.Common.{take, drop, sym, ◌∙◌, append-nil, arith, refl}
use Rattle.std.proofs.lemmas.List.{take-append-drop, take_rest}
use Rattle.ksparse.proofs.Counts.{stands_still}
use Rattle.ksparse.proofs.Taken.{take_longer, tells_nothing, tells_put}
use Rattle.ksparse.proofs.write.write_all.Goals as goal

pub loop-done-init : goal.loop-done-init
loop-done-init g c = record { within = omega arith; taken = sym (append-nil _); told = tells_nothing _ _; count = refl }

pub loop-done-preserved : goal.loop-done-preserved
loop-done-preserved g c =
    record {
      within = grind (arith, c.in-Took.ensures.bytes.1, take_rest c.args.text.now c.loop-done.done);
      taken = take_longer _ _ _ c.args.text.now c.loop-done.done c.in-Took.count c.loop-done.invariant.taken c.in-Took.ensures.takes;
      told = tells_put _ _ _ _ _ _ _ _ c.loop-done.invariant.told c.put.ensures.bytes c.put.ensures.takes;
      count = stands_still _ _ _ c.put.ensures.cause (λ failed. let is = c.in-Took.is in cc) ∙ c.loop-done.invariant.count;
    }

pub returns-in-Failed-clause-front : goal.returns-in-Failed-clause-front
returns-in-Failed-clause-front g c = (
  take c.loop-done.done c.args.text.now,
  drop c.loop-done.done c.args.text.now,
  sym (take-append-drop c.loop-done.done c.args.text.now),
  c.in-Failed.ensures.takes ∙ append-nil _ ∙ c.loop-done.invariant.taken,
)
