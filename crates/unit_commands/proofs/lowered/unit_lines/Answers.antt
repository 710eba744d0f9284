-- What is made ready is of the unit that was judged.
use Rattle.std.proofs.Common.{sym, subst, arith}
use Rattle.std.proofs.lemmas.Result.{IfOk-weaker}
use Rattle.meaning_control.specs.Nodes.{JudgedUnit}
use Rattle.expr_judge.specs.Found.{found_seen}
use Rattle.linear_code.specs.Known.{judged_unit}
use Rattle.judged_control.specs.Judged.{JudgedNodes, known_of_nodes}
use Rattle.ksparse.specs.Asked.{IsReady}
use Rattle.ksparse.proofs.JudgedLemmas.{as-known, is-judged, is-ready}
use Rattle.unit_commands.specs.FlowLines.{AreFlowLines}
use Rattle.unit_commands.proofs.lowered.unit_lines.Goals as goal

pub new-facts-requires : goal.new-facts-requires
new-facts-requires c =
    is-judged c.args.unit.now c.requires.whole c.requires.laid c.each_node_stands_for_one_tree.ensures.order c.args.judged.now c.requires.so
    c.in_ok-surroundings.surroundings c.in_ok-surroundings.ensures.exact c.in_ok-enclosings.enclosings c.in_ok-enclosings.ensures.exact
    (omega (arith, c.len-count.ensures.value, c.len-count.ensures.small)) c.requires.ids

pub all_lines-requires : goal.all_lines-requires
all_lines-requires c =
    subst (λ (kept : JudgedNodes). IsReady c.args.unit.now (known_of_nodes kept)) (sym c.new-facts.ensures)
    (is-ready c.args.unit.now c.requires.whole c.requires.laid c.each_node_stands_for_one_tree.ensures.order c.args.judged.now c.requires.so
    c.in_ok-surroundings.surroundings c.in_ok-surroundings.ensures.exact (c.knows_tokens.ensures.0 c.if-not-knows_tokens.false))

pub returns : goal.returns
returns c =
    let judged = c.args.judged.now in
    let is = c.requires.so in
    IfOk-weaker c.all_lines.result _ _
    (λ text are.
    record {
      surroundings = is.surroundings;
      rows = is.rows;
      listing = found_seen judged.types judged.failures;
      are_surroundings = is.are_surroundings;
      are_rows = is.are_rows;
      accepted = is.judgement;
      lines =
          as-known c.args.unit.now c.requires.whole c.requires.laid c.each_node_stands_for_one_tree.ensures.order judged is
          c.in_ok-surroundings.surroundings c.in_ok-surroundings.ensures.exact (λ (unit : JudgedUnit). AreFlowLines unit text.items)
          (subst (λ (kept : JudgedNodes). AreFlowLines (judged_unit c.args.unit.now (known_of_nodes kept)) text.items) c.new-facts.ensures are);
    })
    c.all_lines.ensures
