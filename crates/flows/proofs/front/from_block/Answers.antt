-- One bar more is passed.
use Rattle.std.proofs.Common.{List, ℕ, ◌-◌, ◌∙◌, ap}
use Rattle.flows.specs.Lines.{from_block}
use Rattle.flows.proofs.LineLemmas.{one-bar}
use Rattle.flows.proofs.front.from_block.Goals as goal

pub bars-preserved : goal.bars-preserved
bars-preserved c =
    ap (λ (text : List ℕ). from_block (c.bars.left - 1) text) c.split_at_byte.ensures.behind
    ∙ one-bar c.bars.left c.bars.rest.now c.bars-test.true
    ∙ c.bars.invariant
