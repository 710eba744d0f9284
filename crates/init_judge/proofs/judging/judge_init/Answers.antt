-- What was found is answered, or the least of what is refused.
use Rattle.std.proofs.Common.{All, List, [], Option, ap, refl, subst, ◌∙◌}
use Rattle.sparse_model.specs.declared.failure.Failure.{Failure}
use Rattle.meaning_types.specs.Types.{TypeTree}
use Rattle.meaning_initializers.specs.Filling.{completed}
use Rattle.decl_judge.specs.Units.{nodes_of}
use Rattle.node_facts.specs.Facts.{nodes_seen}
use Rattle.node_facts.proofs.GrowthLemmas.{joins_on, type_later}
use Rattle.expression_rows.specs.declared.row.Broken.{Broken}
use Rattle.initializer_levels.specs.Met.{found_with}
use Rattle.initializer_levels.specs.Turns.{nothing_found}
use Rattle.init_judge.specs.Said.{HasJudged}
use Rattle.init_judge.proofs.JudgingLemmas.{initialized_by, refused_for}
use Rattle.init_judge.proofs.SaidLemmas.{placed_later}
use Rattle.init_judge.proofs.judging.judge_init.Goals as goal

pub returns-in-Some-clause-refused : goal.returns-in-Some-clause-refused
returns-in-Some-clause-refused c = λ aggregates known.
    let old = c.args.types.now in
    let nodes = nodes_of c.args.unit.now in
    let facts = nodes_seen old c.args.facts.now in
    let plan = c.in_ok-plan.plan in
    let leaves = c.in_ok-judged.judged.leaves.items in
    let own = c.judge_findings.new.found in
    let between = c.judge_findings.new.types in
    let found = found_with nodes facts c.args.is_static old plan.paths nothing_found plan.findings.items in
    refused_for aggregates c.args.is_static nodes facts old between c.args.object c.args.init plan own leaves c.in-Some.broken (c.in_ok-plan.ensures.received aggregates c.args.is_static known)
    (subst (λ (b : Option Broken). HasJudged nodes facts old between plan.paths [] own leaves b found) c.in-Some.is
    (subst (λ (none : List Failure). HasJudged nodes facts old between plan.paths none own leaves c.in_ok-judged.judged.broken found) c.new-failures.ensures c.in_ok-judged.ensures))

pub returns-in-Some-clause-kept : goal.returns-in-Some-clause-kept
returns-in-Some-clause-kept c = c.in_ok-judged.ensures.keeps

pub returns-in_ok-append_all-in-None-clause-initialized : goal.returns-in_ok-append_all-in-None-clause-initialized
returns-in_ok-append_all-in-None-clause-initialized c = λ aggregates known.
    let old = c.args.types.now in
    let nodes = nodes_of c.args.unit.now in
    let facts = nodes_seen old c.args.facts.now in
    let plan = c.in_ok-plan.plan in
    let leaves = c.in_ok-judged.judged.leaves.items in
    let own = c.judge_findings.new.found in
    let between = c.judge_findings.new.types in
    let new = c.completed.new.types in
    let found = found_with nodes facts c.args.is_static old plan.paths nothing_found plan.findings.items in
    let join = c.in_ok-complete-in-None.ensures.keeps in
    let keeps = c.in_ok-judged.ensures.keeps in
    initialized_by aggregates c.args.is_static nodes facts old between c.args.object c.args.init plan own leaves new c.args.found.now c.append_all.new.found _
    (c.in_ok-plan.ensures.received aggregates c.args.is_static known)
    (subst (λ (b : Option Broken). HasJudged nodes facts old between plan.paths [] own leaves b found) c.in-None.is
    (subst (λ (none : List Failure). HasJudged nodes facts old between plan.paths none own leaves c.in_ok-judged.judged.broken found) c.new-failures.ensures c.in_ok-judged.ensures))
    join (joins_on old between new keeps join) refl refl
    (c.in_ok-complete-in-None.ensures.made ∙ ap (λ (t : TypeTree). completed t plan.length) (type_later old between keeps c.args.object c.requires.object))
    c.in_ok-append_all-in-None.ensures.ok

pub returns-in_ok-append_all-in-None-clause-leaves : goal.returns-in_ok-append_all-in-None-clause-leaves
returns-in_ok-append_all-in-None-clause-leaves c =
    let old = c.args.types.now in
    let between = c.judge_findings.new.types in
    let new = c.completed.new.types in
    placed_later old new (joins_on old between new c.in_ok-judged.ensures.keeps c.in_ok-complete-in-None.ensures.keeps) c.in_ok-plan.plan.paths c.in_ok-judged.judged.leaves.items
    c.in_ok-judged.ensures.known

pub returns-in_ok-append_all-in-None-clause-complete : goal.returns-in_ok-append_all-in-None-clause-complete
returns-in_ok-append_all-in-None-clause-complete c = c.in_ok-complete-in-None.ensures.known

pub returns-in_ok-append_all-in-None-clause-keeps : goal.returns-in_ok-append_all-in-None-clause-keeps
returns-in_ok-append_all-in-None-clause-keeps c =
    joins_on c.args.types.now c.judge_findings.new.types c.completed.new.types c.in_ok-judged.ensures.keeps c.in_ok-complete-in-None.ensures.keeps
