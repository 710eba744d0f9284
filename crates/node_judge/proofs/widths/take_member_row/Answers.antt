use Rattle.node_judge.proofs.MemberLemmas.{taken_member}
use Rattle.node_judge.proofs.widths.take_member_row.Goals as goal

pub returns : goal.returns
returns c table meant seen id none =
    taken_member table c.args.row c.args.found.now c.append.new.found meant seen id none c.in_ok-append.ensures
