use Rattle.std.proofs.Common.{ℕ, List, ◌∷◌, sym, ap, subst, ◌∙◌}
use Rattle.meaning_typing.specs.OffsetRows.{Walk, steps_of}
use Rattle.decl_judge.specs.Units.{handles_of, nodes_of}
use Rattle.node_facts.specs.Facts.{nodes_seen}
use Rattle.node_facts.proofs.GrowthLemmas.{joins_on, nodes_known, nodes_later}
use Rattle.member_rows.specs.Aggregates.{aggregates_in}
use Rattle.member_rows.proofs.AggregateLemmas.{aggregates_stay}
use Rattle.whole_judge.specs.Walks.{HasWalked, left_from, step_at}
use Rattle.whole_judge.proofs.GrowthLemmas.{bodies_later}
use Rattle.whole_judge.proofs.walk.walk_on.Goals as goal

pub go_on-requires-clause-ids : goal.go_on-requires-clause-ids
go_on-requires-clause-ids c = nodes_known c.args.types.now c.loop-designator.types c.loop-designator.invariant.keeps c.args.facts.now c.requires.ids

pub go_on-requires-clause-bodies : goal.go_on-requires-clause-bodies
go_on-requires-clause-bodies c = bodies_later c.args.types.now c.loop-designator.types c.loop-designator.invariant.keeps c.requires.bodies

pub loop-designator-preserved : goal.loop-designator-preserved
loop-designator-preserved c =
    let nodes = nodes_of c.args.unit.now in
    let old = c.args.types.now in
    let kept = c.args.facts.now in
    let middle = c.loop-designator.types in
    let new = c.go_on.new.types in
    let facts = nodes_seen old kept in
    let walked = c.loop-designator.walked in
    let join = c.loop-designator.invariant.keeps in
    let aggregates = aggregates_stay old middle join c.requires.bodies in
    let rest = steps_of nodes facts (handles_of c.next.new.self) in
    record {
      keeps = joins_on old middle new join c.in_ok-walked.ensures.keeps;
      known = c.in_ok-walked.ensures.known;
      leads = λ before all begun.
          subst (λ (left : Walk). HasWalked new before c.go_on.new.found c.in_ok-walked.walked.broken left all)
          (λ i. left_from (aggregates i) new rest c.in_ok-walked.walked.reached)
          (c.in_ok-walked.ensures.walked before rest all
          (subst (λ (left : Walk). HasWalked middle before c.loop-designator.found walked.broken left all)
          (ap (λ children. left_from (aggregates_in old) middle (steps_of nodes facts (handles_of children)) walked.reached) c.in-Some.ensures.steps
          ∙ (λ i. left_from (sym aggregates i) middle
          (step_at nodes (sym (nodes_later old middle join kept c.requires.ids) i) c.in-Some.designator ∷ rest) walked.reached))
          (c.loop-designator.invariant.leads before all begun)));
    }

pub returns-clause-walked : goal.returns-clause-walked
returns-clause-walked c before all begun =
    let old = c.args.types.now in
    let new = c.loop-designator.types in
    let facts = nodes_seen old c.args.facts.now in
    let walked = c.loop-designator.walked in
    subst
    (λ (children : List (ℕ × ℕ)). HasWalked new before c.loop-designator.found walked.broken
    (left_from (aggregates_in old) new (steps_of (nodes_of c.args.unit.now) facts (handles_of children)) walked.reached) all)
    c.in-None.ensures.steps.0 (c.loop-designator.invariant.leads before all begun)
