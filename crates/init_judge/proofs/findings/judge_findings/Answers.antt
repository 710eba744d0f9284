-- One finding more was judged.
use Rattle.std.proofs.Common.{All, List, None, ap, sym, subst, ◌∙◌}
use Rattle.std.proofs.lemmas.List.{nil_from_length}
use Rattle.std.proofs.lemmas.List.Elements.{All-head, All-tail}
use Rattle.meaning_typing.specs.Facts.{Fact}
use Rattle.decl_judge.specs.Units.{nodes_of}
use Rattle.node_facts.specs.Facts.{nodes_seen}
use Rattle.node_facts.proofs.GrowthLemmas.{nodes_known, nodes_later}
use Rattle.initializer_levels.specs.declared.met.Placed.{Placed}
use Rattle.initializer_levels.specs.Met.{IsFindingIn, finding_plan, found_with}
use Rattle.initializer_levels.specs.Turns.{found_behind, nothing_found}
use Rattle.init_judge.specs.Said.{HasJudged, Says}
use Rattle.init_judge.proofs.SaidLemmas.{has_type, judged_more, nothing_judged}
use Rattle.init_judge.proofs.findings.judge_findings.Goals as goal

pub findings-init : goal.findings-init
findings-init c =
    let table = c.args.types.now in
    let nodes = nodes_of c.args.unit.now in
    let facts = nodes_seen table c.args.facts.now in
    let plan = c.args.plan.now in
    record {
      rest = subst (All (IsFindingIn table plan.paths)) (sym c.as_slice-rest.ensures.value) c.requires.known;
      judged = (
        nothing_found,
        subst (λ (ls : List Placed). HasJudged nodes facts table table plan.paths c.args.found.now c.args.found.now ls None nothing_found) (sym c.new-leaves.ensures.items)
            (nothing_judged nodes facts table plan.paths c.args.found.now),
        ap (found_with nodes facts c.args.is_static table plan.paths nothing_found) c.as_slice-rest.ensures.value,
      );
    }

pub judge_finding-requires-clause-facts : goal.judge_finding-requires-clause-facts
judge_finding-requires-clause-facts c = nodes_known c.args.types.now c.findings.types c.findings.invariant.judged.1.keeps c.args.facts.now c.requires.facts

pub judge_finding-requires-clause-part : goal.judge_finding-requires-clause-part
judge_finding-requires-clause-part c =
    let table = c.args.types.now in
    let paths = c.args.plan.now.paths in
    let known = subst (All (IsFindingIn table paths)) c.in-Some.ensures.cases.0 c.findings.invariant.rest in
    has_type table c.findings.types c.findings.invariant.judged.1.keeps paths c.in-Some.finding.now
    (All-head (IsFindingIn table paths) c.in-Some.finding.now c.in-Some.others.now known)

pub findings-preserved : goal.findings-preserved
findings-preserved c =
    let old = c.args.types.now in
    let between = c.findings.types in
    let new = c.judge_finding.new.types in
    let nodes = nodes_of c.args.unit.now in
    let kept = c.args.facts.now in
    let facts = nodes_seen old kept in
    let paths = c.args.plan.now.paths in
    let is_static = c.args.is_static in
    let finding = c.in-Some.finding.now in
    let others = c.in-Some.others.now in
    let split = c.in-Some.ensures.cases.0 in
    let known = subst (All (IsFindingIn old paths)) split c.findings.invariant.rest in
    let this = All-head (IsFindingIn old paths) finding others known in
    let found = c.findings.invariant.judged.0 in
    let judged = c.findings.invariant.judged.1 in
    let says : Says nodes facts between new paths c.findings.found c.judge_finding.new.found c.in_ok-said.said (finding_plan nodes facts is_static between paths finding) =
    subst
    (λ (fs : List Fact). Says nodes fs between new paths c.findings.found c.judge_finding.new.found c.in_ok-said.said (finding_plan nodes fs is_static between paths finding))
    (nodes_later old between judged.keeps kept c.requires.facts) (c.in_ok-said.ensures.says paths) in
    record {
      rest = All-tail (IsFindingIn old paths) finding others known;
      judged = (
        found_behind found (finding_plan nodes facts is_static old paths finding),
        judged_more nodes facts is_static old between new paths c.args.found.now c.findings.found c.judge_finding.new.found c.findings.leaves.items c.push_leaf.new.leaves.items
            c.findings.broken c.lesser-broken.result found finding c.in_ok-said.said judged this says (c.in_ok-said.ensures.known old paths this) c.in_ok-push_leaf.ensures
            c.lesser-broken.ensures,
        sym (ap (found_with nodes facts is_static old paths found) split) ∙ c.findings.invariant.judged.2,
      );
    }

pub returns : goal.returns
returns c =
    let old = c.args.types.now in
    let nodes = nodes_of c.args.unit.now in
    let facts = nodes_seen old c.args.facts.now in
    let paths = c.args.plan.now.paths in
    let found = c.findings.invariant.judged.0 in
    subst (HasJudged nodes facts old c.findings.types paths c.args.found.now c.findings.found c.findings.leaves.items c.findings.broken)
    (sym (ap (found_with nodes facts c.args.is_static old paths found) (nil_from_length c.findings.rest.now c.in_default.ensures.cases)) ∙ c.findings.invariant.judged.2)
    c.findings.invariant.judged.1
