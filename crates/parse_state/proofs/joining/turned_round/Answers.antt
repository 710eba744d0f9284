use Rattle.std.proofs.Common.{arith}
use Rattle.parse_state.proofs.JoinedLists.{turned-few}
use Rattle.parse_state.proofs.joining.turned_round.Goals as goal

pub returns-then-len-lt2 : goal.returns-then-len-lt2
returns-then-len-lt2 c = turned-few c.args.children (omega (arith, c.len.ensures.value, c.if-len-lt2.true))
