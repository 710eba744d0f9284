-- What is made ready is of the unit that was judged.
use Rattle.std.proofs.Common.{sym, subst, arith}
use Rattle.std.proofs.lemmas.Result.{IfOk-weaker}
use Rattle.meaning_contexts.specs.Failures.{AreContextFailures}
use Rattle.meaning_control.specs.Nodes.{JudgedUnit}
use Rattle.type_judge.specs.Found.{found_seen}
use Rattle.linear_code.specs.Known.{judged_unit}
use Rattle.judged_control.specs.Judged.{JudgedNodes, known_of_nodes}
use Rattle.context_judge.specs.Asked.{IsReady}
use Rattle.context_judge.proofs.JudgedLemmas.{as-known, is-judged, is-ready}
use Rattle.context_judge.proofs.judging.failures_found.Goals as goal

pub new-facts-requires : goal.new-facts-requires
new-facts-requires c =
    is-judged c.args.unit.now c.requires.whole c.requires.laid c.each_node_stands_for_one_tree.ensures.order c.args.judged.now c.requires.so
    c.in_ok-surroundings.surroundings c.in_ok-surroundings.ensures.exact c.in_ok-enclosings.enclosings c.in_ok-enclosings.ensures.exact
    (omega (arith, c.len-count.ensures.value, c.len-count.ensures.small)) c.requires.ids

pub all_failures-requires : goal.all_failures-requires
all_failures-requires c =
    subst (λ (kept : JudgedNodes). IsReady c.args.unit.now (known_of_nodes kept)) (sym c.new-facts.ensures)
    (is-ready c.args.unit.now c.requires.whole c.requires.laid c.each_node_stands_for_one_tree.ensures.order c.args.judged.now c.requires.so
    c.in_ok-surroundings.surroundings c.in_ok-surroundings.ensures.exact (c.knows_tokens.ensures.0 c.if-not-knows_tokens.false))

pub returns-clause-failures : goal.returns-clause-failures
returns-clause-failures c =
    let types = c.args.judged.now.types in
    IfOk-weaker c.all_failures.result _ _
    (λ failures seen is.
    as-known c.args.unit.now c.requires.whole c.requires.laid c.each_node_stands_for_one_tree.ensures.order c.args.judged.now is
    c.in_ok-surroundings.surroundings c.in_ok-surroundings.ensures.exact
    (λ (unit : JudgedUnit). AreContextFailures unit (found_seen types failures))
    (subst (λ (kept : JudgedNodes). AreContextFailures (judged_unit c.args.unit.now (known_of_nodes kept)) (found_seen types failures)) c.new-facts.ensures
    (seen types)))
    c.all_failures.ensures.seen
