-- The list that is there has grown.
use Rattle.std.proofs.Common.{◌<◌, length, refl, arith}
use Rattle.std.proofs.lemmas.Option.{slice_get_read}
use Rattle.control_cells.proofs.ListLemmas.{rows-pushed}
use Rattle.control_cells.proofs.labels.push_to.Goals as goal

pub returns-in_ok-push-in-Some : goal.returns-in_ok-push-in-Some
returns-in_ok-push-in-Some c =
    let within : c.args.place < length c.args.lists.now.items = grind (arith, c.in-Some.ensures.variant, c.args.lists.now.ok) in
    rows-pushed c.args.lists.now.items c.args.place c.in-Some.list.now c.push.new.self c.args.number
    (slice_get_read c.args.lists.now.items (length c.args.lists.now.items) c.args.place c.in-Some.list.now refl within c.in-Some.ensures.value)
    c.in_ok-push-in-Some.ensures.items
