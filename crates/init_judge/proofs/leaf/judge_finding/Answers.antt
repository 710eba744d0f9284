-- By what was found.
use Rattle.std.proofs.Common.{refl, subst, sym, ◌∙◌}
use Rattle.std.proofs.lemmas.Result.{IfOk-weaker}
use Rattle.meaning_initializers.specs.Plans.{extra, no_part, no_plan, refused}
use Rattle.meaning_initializers.specs.Reading.{designator_at, initializer_at}
use Rattle.decl_judge.specs.Units.{nodes_of}
use Rattle.node_facts.specs.Facts.{nodes_seen}
use Rattle.initializer_levels.specs.declared.met.Finding.{Finding}
use Rattle.initializer_levels.specs.Met.{IsFindingIn, finding_plan}
use Rattle.init_judge.specs.Said.{HasType, Says}
use Rattle.init_judge.proofs.LeafLemmas.{extra_kept, silent_says}
use Rattle.init_judge.proofs.leaf.judge_finding.Goals as goal

pub judge_leaf-requires-clause-part : goal.judge_leaf-requires-clause-part
judge_leaf-requires-clause-part c = subst (HasType c.args.types.now) c.in-Leaf.is c.requires.part

pub returns-in-Leaf-clause-says : goal.returns-in-Leaf-clause-says
returns-in-Leaf-clause-says c = λ paths.
    let table = c.args.types.now in
    let nodes = nodes_of c.args.unit.now in
    let facts = nodes_seen table c.args.facts.now in
    IfOk-weaker c.judge_leaf.result _ _
    (λ said it.
    subst (λ (f : Finding). Says nodes facts table c.judge_leaf.new.types paths c.args.found.now c.judge_leaf.new.found said (finding_plan nodes facts c.args.is_static table paths f))
    (sym c.in-Leaf.is) it)
    (c.judge_leaf.ensures.says paths)

pub returns-in-Leaf-clause-known : goal.returns-in-Leaf-clause-known
returns-in-Leaf-clause-known c = λ table paths known. c.judge_leaf.ensures.known table paths (subst (IsFindingIn table paths) c.in-Leaf.is known)

pub returns-in-Extra-clause-says : goal.returns-in-Extra-clause-says
returns-in-Extra-clause-says c = λ paths.
    let table = c.args.types.now in
    let nodes = nodes_of c.args.unit.now in
    let facts = nodes_seen table c.args.facts.now in
    subst (λ (f : Finding). Says nodes facts table table paths c.args.found.now c.args.found.now c.refused.result (finding_plan nodes facts c.args.is_static table paths f))
    (sym c.in-Extra.is)
    (silent_says nodes facts table paths c.args.found.now c.refused.result (refused (extra (initializer_at nodes facts c.in-Extra.initializer)) no_plan)
    (c.refused.ensures.said table paths ∙ extra_kept nodes facts c.in-Extra.initializer) refl)

pub returns-in-NoPart-clause-says : goal.returns-in-NoPart-clause-says
returns-in-NoPart-clause-says c = λ paths.
    let table = c.args.types.now in
    let nodes = nodes_of c.args.unit.now in
    let facts = nodes_seen table c.args.facts.now in
    subst (λ (f : Finding). Says nodes facts table table paths c.args.found.now c.args.found.now c.refused-in-NoPart.result (finding_plan nodes facts c.args.is_static table paths f))
    (sym c.in-NoPart.is)
    (silent_says nodes facts table paths c.args.found.now c.refused-in-NoPart.result (refused (no_part (designator_at nodes facts c.in-NoPart.designator)) no_plan)
    (c.refused-in-NoPart.ensures.said table paths) refl)
