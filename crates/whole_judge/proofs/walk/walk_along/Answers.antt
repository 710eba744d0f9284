use Rattle.std.proofs.Common.{◌≡◌, Option, None, IfSome, sym, subst}
use Rattle.meaning_typing.specs.OffsetRows.{OffsetStep, Reached, step_to}
use Rattle.decl_judge.specs.Units.{handles_of, nodes_of}
use Rattle.expression_rows.specs.Arguments.{Appends}
use Rattle.node_facts.specs.Facts.{nodes_seen}
use Rattle.node_facts.proofs.GrowthLemmas.{joins_none}
use Rattle.member_rows.specs.Aggregates.{aggregates_in}
use Rattle.member_rows.specs.declared.reached.Reached as code
use Rattle.member_rows.specs.Steps.{IsKnownReached, IsWalked, step_seen, walk_told}
use Rattle.whole_judge.specs.Walks.{steps_behind, whole_walk}
use Rattle.whole_judge.proofs.WalkLemmas.{begun, ended, one_more}
use Rattle.whole_judge.proofs.walk.walk_along.Goals as goal

pub walk_on-requires-clause-begun : goal.walk_on-requires-clause-begun
walk_on-requires-clause-begun c =
    subst (λ (reached : Option code.Reached). IfSome reached (IsKnownReached c.args.types.now)) (sym c.in_ok-begun.ensures.reached) c.requires.first.reached

pub returns : goal.returns
returns c =
    let nodes = nodes_of c.args.unit.now in
    let old = c.args.types.now in
    let new = c.walk_on.new.types in
    let facts = nodes_seen old c.args.facts.now in
    let aggregates = aggregates_in old in
    let rest = steps_behind nodes facts (handles_of c.args.children.now) in
    let before = c.args.found.now in
    let between = c.add_step.new.found in
    let after = c.walk_on.new.found in
    let first = c.in_ok-begun.ensures in
    let walked = c.in_ok-walked.walked in
    let whole : (step : OffsetStep) (reached : Reached) → step_seen old c.args.first ≡ walk_told (step_to aggregates reached step)
    → IsWalked new walked.broken walked.reached (whole_walk aggregates step rest reached)
    × Appends new before after (whole_walk aggregates step rest reached).failures =
    λ step reached is.
    let all = whole_walk aggregates step rest reached in
    ended aggregates new before after walked.broken all walked.reached
    (c.in_ok-walked.ensures.walked before all
    (one_more aggregates old old (joins_none old) before before between None step rest reached all c.args.first c.in_ok-begun.begun.broken
    c.in_ok-begun.begun.reached is c.requires.first first.broken first.reached first.failures (begun old before all))) in
    record {
      walked = λ step reached is. (whole step reached is).0;
      failures = λ step reached is. (whole step reached is).1;
      keeps = c.in_ok-walked.ensures.keeps;
    }
