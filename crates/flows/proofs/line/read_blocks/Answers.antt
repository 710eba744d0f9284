-- One block more, the last one, or what is wrong with it.
use Rattle.std.proofs.Common.{List, ℕ, sym, ap, ◌∙◌, arith}
use Rattle.control_flow.specs.Seen.{graph_of_blocks}
use Rattle.flows.specs.Reading.{Reads}
use Rattle.flows.specs.Lines.{begins_block, behind_bar, block_at, blocks_at}
use Rattle.flows.specs.Answers.{IsReadingOf}
use Rattle.flows.proofs.BlockLemmas.{another, last}
use Rattle.flows.proofs.ElementLemmas.{unread}
use Rattle.flows.proofs.LineLemmas.{handed-on}
use Rattle.flows.proofs.line.read_blocks.Goals as goal

pub returns-in_err-after-clause-fails : goal.returns-in_err-after-clause-fails
returns-in_err-after-clause-fails c =
    handed-on (IsReadingOf (blocks_at c.args.text.now)) _ c.from_residual.result c.from_residual.ensures.1
    (unread block_at begins_block behind_bar (graph_of_blocks c.parts.blocks) c.parts.rest.now (blocks_at c.args.text.now) c.parts.invariant.on _ c.in_err-after.ensures.fails)

pub returns-in-None-clause-reads : goal.returns-in-None-clause-reads
returns-in-None-clause-reads c =
    last (graph_of_blocks c.parts.blocks) (graph_of_blocks c.read_block.new.blocks) c.parts.rest.now c.in_ok-after.after.now (blocks_at c.args.text.now) c.parts.invariant.on c.in_ok-after.ensures.reads
    (ap begins_block (sym c.behind_spaces-behind.ensures.text) ∙ c.in-None.ensures.begins)
    ∙ ap (λ (rest : List ℕ). Reads (graph_of_blocks c.read_block.new.blocks) rest) (sym c.behind_spaces-behind.ensures.text)

pub parts-preserved : goal.parts-preserved
parts-preserved c =
    record {
      on = another (graph_of_blocks c.parts.blocks) (graph_of_blocks c.read_block.new.blocks) c.parts.rest.now c.in_ok-after.after.now (blocks_at c.args.text.now) c.parts.invariant.on c.in_ok-after.ensures.reads
          c.in-Some.onward.now (omega (arith, c.in-Some.ensures.shorter, c.behind_spaces-behind.ensures.shorter, c.in_ok-after.ensures.shorter)) (ap begins_block (sym c.behind_spaces-behind.ensures.text) ∙ c.in-Some.ensures.begins)
          (c.in-Some.ensures.onward ∙ ap behind_bar c.behind_spaces-behind.ensures.text);
      small = omega (arith, c.parts.invariant.small, c.in-Some.ensures.shorter, c.behind_spaces-behind.ensures.shorter, c.in_ok-after.ensures.shorter);
    }
