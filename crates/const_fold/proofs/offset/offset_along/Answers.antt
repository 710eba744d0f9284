-- A step leads from a spot to the next one, or nowhere.
use Rattle.std.proofs.Common.{◌+◌, None, drop, option_map, sym, ap, ◌∙◌}
use Rattle.c_types.specs.Layouts.{told_in}
use Rattle.meaning_constants.specs.Sizes.{designated}
use Rattle.const_fold.specs.Offsets.{designators_at, members_of, spot_seen}
use Rattle.const_fold.proofs.OffsetLemmas.{along-none, walked-on}
use Rattle.const_fold.proofs.offset.offset_along.Goals as goal

pub designators-preserved : goal.designators-preserved
designators-preserved c =
    let table = c.args.types.now in
    let spot = spot_seen table c.designators.spot in
    let leads = c.in_ok-spot.ensures.spot ∙ ap (λ step. designated (told_in table) (members_of table) step spot.bytes spot.of) c.designator_at.ensures in
    record {
      leads =
          walked-on (told_in table) (members_of table) c.args.unit.now table c.args.nodes.now c.args.children.now c.designators.place c.get-child.result
          c.get-child.ensures.value spot _ leads ∙ c.designators.invariant.leads;
      known = c.in_ok-spot.ensures.known;
    }

pub returns-in_err-spot : goal.returns-in_err-spot
returns-in_err-spot c =
    let table = c.args.types.now in
    let spot = spot_seen table c.designators.spot in
    let leads = c.in_err-spot.ensures.spot ∙ ap (λ step. designated (told_in table) (members_of table) step spot.bytes spot.of) c.designator_at.ensures in
    let others = designators_at c.args.unit.now table c.args.nodes.now (drop (c.designators.place + 1) c.args.children.now) in
    c.from_residual.ensures
    ∙ ap (option_map (λ spot. spot.bytes))
    (sym (along-none (told_in table) (members_of table) others)
    ∙ walked-on (told_in table) (members_of table) c.args.unit.now table c.args.nodes.now c.args.children.now c.designators.place c.get-child.result
    c.get-child.ensures.value spot None leads ∙ c.designators.invariant.leads)
