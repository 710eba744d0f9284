-- A kept node has a type of the table.
use Rattle.const_fold.proofs.KnownLemmas.{kept-known}
use Rattle.std.proofs.Common.{◌≡◌, Some, arith}
use Rattle.const_fold.specs.Known.{kept_at}
use Rattle.const_fold.proofs.known.part_at.Goals as goal

pub part_of-requires : goal.part_of-requires
part_of-requires c =
    let kept : kept_at c.args.nodes.now c.args.handle ≡ Some c.in_ok-node.node = grind arith in
    kept-known c.args.types.now c.args.nodes.now c.args.handle c.in_ok-node.node c.requires kept
