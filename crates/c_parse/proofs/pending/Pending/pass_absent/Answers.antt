-- The items behind what is passed over wait.
use Rattle.std.proofs.Common.{refl, sym}
use Rattle.c_parse.proofs.Waiting.{parted, pending-passed, waited}
use Rattle.c_parse.proofs.pending.Pending.pass_absent.Goals as goal

pub invariant_of-self : goal.invariant_of-self
invariant_of-self c =
    pending-passed c.self.inside.front _ c.self.inside.rows.items c.absent_in_front-passed.result c.args.next c.absent_in_front-passed.ensures.absent
    (parted c.self.inside.front.items.now c.absent_in_front-passed.result) _ c.self.inside.counted c.self.invariant refl

pub returns : goal.returns
returns c =
    waited c.self.inside.front _ c.self.inside.rows.items c.absent_in_front-passed.result c.args.next c.absent_in_front-passed.ensures.absent
    (parted c.self.inside.front.items.now c.absent_in_front-passed.result) c.args.self.now (sym c.self.view_is)
