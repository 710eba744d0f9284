use Rattle.decl_judge.specs.Units.{nodes_of}
use Rattle.node_facts.specs.Facts.{nodes_seen}
use Rattle.member_rows.specs.Aggregates.{aggregates_in}
use Rattle.member_rows.specs.Steps.{reached_seen}
use Rattle.whole_judge.specs.Walks.{step_at}
use Rattle.whole_judge.proofs.WalkLemmas.{one_more}
use Rattle.whole_judge.proofs.walk.step_on.Goals as goal

pub returns-clause-walked : goal.returns-clause-walked
returns-clause-walked c before rest all walked =
    let nodes = nodes_of c.args.unit.now in
    let old = c.args.types.now in
    let facts = nodes_seen old c.args.facts.now in
    let more = c.in_ok-walked.ensures in
    one_more (aggregates_in old) old c.step_of.new.types c.in_ok-step.ensures.keeps before c.args.found.now c.add_step.new.found c.args.least
    (step_at nodes facts c.args.designator) rest (reached_seen old c.args.reached) all c.in_ok-step.step c.in_ok-walked.walked.broken
    c.in_ok-walked.walked.reached c.in_ok-step.ensures.step c.in_ok-step.ensures.known more.broken more.reached more.failures walked
