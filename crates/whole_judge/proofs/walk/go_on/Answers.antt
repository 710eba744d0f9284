use Rattle.std.proofs.Common.{◌∷◌, Option, IfSome, sym, ap, subst, ◌∙◌}
use Rattle.meaning_typing.specs.OffsetRows.{Walk}
use Rattle.decl_judge.specs.Units.{nodes_of}
use Rattle.node_facts.specs.Facts.{nodes_seen}
use Rattle.node_facts.proofs.GrowthLemmas.{joins_none}
use Rattle.member_rows.specs.declared.reached.Reached.{Reached}
use Rattle.member_rows.specs.Aggregates.{aggregates_in}
use Rattle.member_rows.specs.Steps.{IsKnownReached}
use Rattle.whole_judge.specs.Walks.{HasWalked, left_from, step_at}
use Rattle.whole_judge.proofs.WalkLemmas.{nowhere_left}
use Rattle.whole_judge.proofs.walk.go_on.Goals as goal

pub returns-in-None-clause-walked : goal.returns-in-None-clause-walked
returns-in-None-clause-walked c before rest all walked =
    let old = c.args.types.now in
    let facts = nodes_seen old c.args.facts.now in
    let aggregates = aggregates_in old in
    let steps = step_at (nodes_of c.args.unit.now) facts c.args.designator ∷ rest in
    subst (λ (left : Walk). HasWalked old before c.args.found.now c.args.walked.broken left all)
    (ap (left_from aggregates old steps) c.in-None.is
    ∙ nowhere_left aggregates steps
    ∙ sym (nowhere_left aggregates rest)
    ∙ ap (left_from aggregates old rest) (sym c.in-None.is))
    walked

pub returns-in-None-clause-keeps : goal.returns-in-None-clause-keeps
returns-in-None-clause-keeps c = joins_none c.args.types.now

pub step_on-requires-clause-reached : goal.step_on-requires-clause-reached
step_on-requires-clause-reached c =
    subst (λ (reached : Option Reached). IfSome reached (IsKnownReached c.args.types.now)) c.in-Some.is c.requires.reached

pub returns-in-Some-clause-walked : goal.returns-in-Some-clause-walked
returns-in-Some-clause-walked c before rest all walked =
    let old = c.args.types.now in
    let facts = nodes_seen old c.args.facts.now in
    let steps = step_at (nodes_of c.args.unit.now) facts c.args.designator ∷ rest in
    c.step_on.ensures.walked before rest all
    (subst (λ (reached : Option Reached). HasWalked old before c.args.found.now c.args.walked.broken (left_from (aggregates_in old) old steps reached) all)
    c.in-Some.is walked)
