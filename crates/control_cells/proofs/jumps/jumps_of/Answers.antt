-- One more cell.
use Rattle.std.proofs.Common.{◌≡◌, ◌+◌, length, subst, ◌∙◌, arith}
use Rattle.std.proofs.lemmas.List.{length-map}
use Rattle.control_cells.specs.Jumps.{AreJumps, HaveAllJoined, kinds_of}
use Rattle.control_cells.specs.Labels.{rows}
use Rattle.control_cells.specs.Trees.{first_at}
use Rattle.control_cells.proofs.JumpLemmas.{more_jumps}
use Rattle.control_cells.proofs.jumps.jumps_of.Goals as goal

pub loop-number-preserved : goal.loop-number-preserved
loop-number-preserved c =
    record {
      gotos = c.in_ok-add_cell.ensures;
      jumps =
          more_jumps (kinds_of c.args.cells.now) c.args.firsts.now (rows c.args.labels.now) c.loop-number.number (rows c.loop-number.jumps.items) (rows c.jump_to_labels.new.jumps.items)
          c.loop-number.invariant.jumps
          (subst (λ labels. HaveAllJoined (kinds_of c.args.cells.now) (first_at c.args.firsts.now c.loop-number.number) c.loop-number.number labels (rows c.loop-number.jumps.items) (rows c.jump_to_labels.new.jumps.items))
          c.row-own.ensures c.in_ok-jump_to_labels.ensures);
    }

pub returns : goal.returns
returns c =
    let all : c.loop-number.number ≡ length c.args.cells.now = omega (arith, c.loop-number-test.false, c.loop-number.auto.number-end) in
    subst (λ count. AreJumps (kinds_of c.args.cells.now) c.args.firsts.now (rows c.args.labels.now) count (rows c.loop-number.jumps.items)) all c.loop-number.invariant.jumps
