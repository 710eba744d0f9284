-- Where nothing grows, what is spread over the other numbers is what is spread over all.
use Rattle.std.proofs.Common.{None, length, sym, ap, ◌∙◌, subst}
use Rattle.std.proofs.lemmas.List.{get_or_default}
use Rattle.control_flow.specs.Seen.{targets}
use Rattle.step_counts.specs.declared.counts.Counts.TheVariants.{Never}
use Rattle.context_walk.specs.Spread.{AllBelow}
use Rattle.context_walk.proofs.SpreadLemmas.{spread-step}
use Rattle.context_walk.proofs.spread.spread.Goals as goal

pub loop-to-preserved : goal.loop-to-preserved
loop-to-preserved c =
    let counts = c.loop-to.counts.items in
    let split = ap targets c.in-Some.ensures.steps in
    let below = subst (AllBelow (length counts)) split c.loop-to.invariant.below in
    let known = c.index.ensures ∙ get_or_default counts c.in-Some.to c.index.result.now Never below.0 in
    let one =
    spread-step c.args.comes c.index.result.now None c.in-Some.to (targets c.next.new.self) (targets c.loop-to.to-iterator) counts c.loop-to.worklist.items split known
    (sym c.in_default.is ∙ c.grown.ensures)
    in
    record { next = tt; finite = tt; counts = one.0 ∙ c.loop-to.invariant.counts; worklist = one.1 ∙ c.loop-to.invariant.worklist; below = below.1 }
