-- One step more, and what is left of the size behind it.
use Rattle.std.proofs.Common.{◌≡◌, ◌-◌, ◌^◌, List, ◌++◌, map, of_z, to_z, sym, ap, ◌∙◌, subst, arith}
use Rattle.std.specs.Int.{w64}
use Rattle.std.proofs.lemmas.Int.{ints}
use Rattle.meaning_paths.specs.Steps.{change}
use Rattle.meaning_paths.specs.Graphs.{size_of_step, size_of_steps}
use Rattle.control_flow.specs.declared.step.Step.{Step}
use Rattle.control_flow.specs.Seen.{step_of, the_key}
use Rattle.context_walk.specs.declared.passed.PassedStep.{PassedStep}
use Rattle.step_counts.specs.Counts.{IsWithin, shifted}
use Rattle.context_walk.specs.Passed.{passed_from, passed_seen}
use Rattle.step_counts.proofs.CountLemmas.{change_of_size, within-room, within-shifted}
use Rattle.context_walk.proofs.FlowLemmas.{pass-step}
use Rattle.context_walk.proofs.passed.pass_block.Goals as goal

pub shifted-comes-requires : goal.shifted-comes-requires
shifted-comes-requires c =
    let size = change_of_size the_key (step_of c.in-Some.step.now) in
    let sizes = ap (λ (steps : List Step). size_of_steps (map step_of steps)) c.in-Some.ensures.cases.0 in
    within-room (size_of_steps (map step_of c.steps.rest.now)) c.steps.comes (to_z w64 (of_z w64 c.change.result))
    (record {
      high = omega (arith, ints, size.high, size.low, sizes, c.change.ensures, c.steps.invariant.small);
      low = omega (arith, ints, size.high, size.low, sizes, c.change.ensures, c.steps.invariant.small);
    })
    c.steps.invariant.within

pub steps-preserved : goal.steps-preserved
steps-preserved c =
    let step = step_of c.in-Some.step.now in
    let left = map step_of c.in-Some.others.now in
    let split = c.in-Some.ensures.cases.0 in
    let size = change_of_size the_key step in
    let sizes = ap (λ (steps : List Step). size_of_steps (map step_of steps)) split in
    let same : to_z w64 (of_z w64 c.change.result) ≡ change the_key step = omega (arith, ints, size.high, size.low, sizes, c.change.ensures, c.steps.invariant.small) in
    let behind = c.shifted-comes.ensures ∙ ap (shifted c.steps.comes) same in
    record {
      all = ap (λ (items : List PassedStep). passed_seen items ++ passed_from the_key c.shifted-comes.result left) c.in_ok-push.ensures.items
          ∙ pass-step c.steps.passed.items c.in-Some.step.now c.steps.comes c.shifted-comes.result c.steps.rest.now c.in-Some.others.now split behind
          ∙ c.steps.invariant.all;
      small = omega (arith, sizes, c.steps.invariant.small);
      within = subst (IsWithin (2 ^ 63 - 1) (size_of_steps left)) (sym behind)
          (within-shifted (2 ^ 63 - 1) (size_of_step step) (size_of_steps left) c.steps.comes (change the_key step) size
          (subst (λ (steps : List Step). IsWithin (2 ^ 63 - 1) (size_of_steps (map step_of steps)) c.steps.comes) split c.steps.invariant.within));
    }
