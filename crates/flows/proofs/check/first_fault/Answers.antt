-- One block more, or the first that lacks something.
use Rattle.std.proofs.Common.{List, ◌∙◌, ap, length, sym, arith}
use Rattle.control_flow.specs.declared.flow.Block.{Block}
use Rattle.control_flow.specs.Seen.{block_of, graph_of_blocks}
use Rattle.flows.specs.Asked.{fault_from}
use Rattle.flows.proofs.AskedLemmas.{first-lacking, one-less}
use Rattle.flows.proofs.check.first_fault.Goals as goal

pub turns-preserved : goal.turns-preserved
turns-preserved c =
    let blocks = length c.args.blocks.now in
    let block = block_of c.in-Some.block.now in
    let later = graph_of_blocks c.in-Some.others.now in
    let split = c.in-Some.ensures.cases.0 in
    record {
      fault = sym (one-less blocks c.turns.left c.in-Ok.less c.turns.number block later c.in-Ok.ensures.none c.in-Ok.ensures.left)
          ∙ ap (λ (rest : List Block). fault_from blocks c.turns.left c.turns.number (graph_of_blocks rest)) (sym split)
          ∙ c.turns.invariant.fault;
      number = omega (arith, c.turns.invariant.number, ap (λ (rest : List Block). length rest) split);
    }

pub returns-in-Err : goal.returns-in-Err
returns-in-Err c =
    let blocks = length c.args.blocks.now in
    let block = block_of c.in-Some.block.now in
    let later = graph_of_blocks c.in-Some.others.now in
    sym (first-lacking blocks c.turns.left c.turns.number block later c.in-Err.wrong c.in-Err.ensures.fault)
    ∙ ap (λ (rest : List Block). fault_from blocks c.turns.left c.turns.number (graph_of_blocks rest)) (sym c.in-Some.ensures.cases.0)
    ∙ c.turns.invariant.fault
