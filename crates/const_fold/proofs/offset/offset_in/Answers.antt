-- Where there is no such member, the designators behind it lead nowhere.
use Rattle.std.proofs.Common.{drop, option_map, sym, ap, ◌∙◌}
use Rattle.c_types.specs.Layouts.{told_in}
use Rattle.meaning_constants.specs.Sizes.{spot_along}
use Rattle.const_fold.specs.Offsets.{designators_at, members_of}
use Rattle.const_fold.proofs.OffsetLemmas.{along-none}
use Rattle.const_fold.proofs.offset.offset_in.Goals as goal

pub returns-in_err-spot : goal.returns-in_err-spot
returns-in_err-spot c =
    let told = told_in c.args.types.now in
    let members = members_of c.args.types.now in
    let others = designators_at c.args.unit.now c.args.types.now c.args.nodes.now (drop 1 c.args.node.now.children) in
    c.from_residual.ensures
    ∙ sym (ap (option_map (λ spot. spot.bytes)) (ap (spot_along told members others) (sym c.in_err-spot.ensures.spot) ∙ along-none told members others))
