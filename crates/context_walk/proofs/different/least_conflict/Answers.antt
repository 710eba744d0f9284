-- The first two neighbours in conflict are at the least token.
use Rattle.std.proofs.Common.{◌-◌, false, get_or, pos, arith}
use Rattle.context_walk.specs.declared.different.Met.{Met}
use Rattle.context_walk.proofs.MetLemmas.{index-in, no_lower, none_at_all}
use Rattle.context_walk.proofs.different.least_conflict.Goals as goal

abbrev nothing : Met
nothing = record { token = 0; moment = false; count = pos 0 }

pub returns-then-is_conflict : goal.returns-then-is_conflict
returns-then-is_conflict c =
    let ms = c.args.met.now in
    let i = c.loop-i.i in
    let conflict = c.is_conflict.ensures.0 c.if-is_conflict.true in (
      (get_or ms (i - 1) nothing, get_or ms i nothing, index-in ms (i - 1) nothing (omega arith), index-in ms i nothing (omega arith), conflict, conflict.0),
      no_lower ms c.requires i c.loop-i.invariant nothing,
    )

pub returns : goal.returns
returns c = none_at_all c.args.met.now c.requires c.loop-i.i c.loop-i.invariant (omega arith)
