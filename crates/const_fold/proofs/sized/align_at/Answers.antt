-- It is asked as what is loaded from there.
use Rattle.std.proofs.Common.{◌≡◌, [], ◌∷◌, Some, option_map, arith, sym, ap, ◌∙◌}
use Rattle.meaning_constants.specs.Sizes.{asked_align}
use Rattle.c_types.specs.Layouts.{told_in}
use Rattle.c_types.specs.Table.{type_at}
use Rattle.const_fold.specs.Known.{kept_at, part_of}
use Rattle.const_fold.specs.Measured.{measure_of_only}
use Rattle.const_fold.specs.Sized.{loaded_bytes}
use Rattle.const_fold.proofs.SizedLemmas.{align-loaded}
use Rattle.const_fold.proofs.sized.align_at.Goals as goal

pub returns : goal.returns
returns c =
    let table = c.args.types.now in
    let node = c.in_ok-node.node in
    let kept : kept_at c.args.nodes.now c.args.handle ≡ Some node = grind arith in
    c.loaded_bytes.ensures
    ∙ (λ i. loaded_bytes node.value.width (c.outline.ensures i) (c.asked_align-whole.ensures i))
    ∙ align-loaded (told_in table) node.value.width (type_at table node.of)
    ∙ ap (λ found. measure_of_only (asked_align (told_in table)) (option_map (part_of table) found ∷ [])) (sym kept)
