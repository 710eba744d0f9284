-- One step more.
use Rattle.std.proofs.Common.{List, map, ap, arith}
use Rattle.std.proofs.lemmas.Int.{ints}
use Rattle.meaning_paths.specs.Graphs.{size_of_steps}
use Rattle.control_flow.specs.declared.step.Step.{Step}
use Rattle.control_flow.specs.Seen.{step_of, the_key}
use Rattle.step_counts.specs.Counts.{total}
use Rattle.step_counts.proofs.CountLemmas.{change_of_size, fits-of-size}
use Rattle.step_counts.proofs.steps.total.Goals as goal

pub steps-preserved : goal.steps-preserved
steps-preserved c =
    let split = c.in-Some.ensures.cases.0 in
    let totals = ap (λ (steps : List Step). total the_key (map step_of steps)) split in
    let sizes = ap (λ (steps : List Step). size_of_steps (map step_of steps)) split in
    let size = change_of_size the_key (step_of c.in-Some.step.now) in
    let before = c.steps.invariant in
    record {
      sum = omega (arith, ints, before.sum, before.high, before.low, totals, sizes, size.high, size.low, c.change-sum.ensures, c.requires);
      high = omega (arith, ints, before.sum, before.high, before.low, totals, sizes, size.high, size.low, c.change-sum.ensures, c.requires);
      low = omega (arith, ints, before.sum, before.high, before.low, totals, sizes, size.high, size.low, c.change-sum.ensures, c.requires);
    }

pub change-sum-requires : goal.change-sum-requires
change-sum-requires c =
    let sizes = ap (λ (steps : List Step). size_of_steps (map step_of steps)) c.in-Some.ensures.cases.0 in
    omega (arith, ints, c.steps.invariant.high, c.steps.invariant.low, sizes, c.requires)

pub overflow_add-sum : goal.overflow_add-sum
overflow_add-sum c =
    let sizes = ap (λ (steps : List Step). size_of_steps (map step_of steps)) c.in-Some.ensures.cases.0 in
    let size = change_of_size the_key (step_of c.in-Some.step.now) in
    let before = c.steps.invariant in
    fits-of-size _ (size_of_steps (map step_of c.args.steps.now)) (omega (arith, c.requires))
    (record {
      high = omega (arith, ints, before.high, before.low, sizes, size.high, size.low, c.change-sum.ensures, c.requires);
      low = omega (arith, ints, before.high, before.low, sizes, size.high, size.low, c.change-sum.ensures, c.requires);
    })
