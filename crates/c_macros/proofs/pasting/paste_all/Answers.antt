use Rattle.std.proofs.Common.{ap, sym, subst}
use Rattle.std.proofs.lemmas.List.{nil_from_length}
use Rattle.std.proofs.lemmas.List.Elements.{All-rest, All-head, All-same}
use Rattle.meaning_macros.specs.Hiding as hiding
use Rattle.c_tokens.specs.Seen.{at_of}
use Rattle.c_macros.specs.Chains.{items_at}
use Rattle.c_macros.specs.Reading.{HasName, HasSet, hiding_by, hidings_by}
use Rattle.c_macros.proofs.GrowthLemmas.{names-grown, names-placed, sets-placed}
use Rattle.c_macros.proofs.PastingLemmas.{Holds-more, Holds-nothing, Stops-more, placed-first}
use Rattle.c_macros.proofs.pasting.paste_all.Goals as goal

pub returns-in_default-clause-pasted : goal.returns-in_default-clause-pasted
returns-in_default-clause-pasted c = λ base left split r reads.
    Holds-nothing r c.args.start base c.args.items.now.items left _ split
    (ap (λ items. hiding.set_at (at_of c.args.place) (hidings_by r items)) (nil_from_length c.args.argument.now c.in_default.ensures.cases))

pub returns-in_ok-push_all-in-Ok-clause-pasted : goal.returns-in_ok-push_all-in-Ok-clause-pasted
returns-in_ok-push_all-in-Ok-clause-pasted c = λ base left split r reads.
    Holds-more r c.args.start base c.paste_item.new.items.items (items_at c.args.place c.in-Some.others.now) c.push_all.new.items.items left (hiding_by r c.put_item.result) _
    (c.in-Ok.ensures.pasted base left split r reads) c.in_ok-push_all-in-Ok.ensures
    (placed-first r c.args.place c.args.argument.now c.in-Some.others.now c.in-Some.first.now c.put_item.result c.in-Some.ensures.cases.0 c.put_item.ensures)

pub returns-in_ok-push_all-in-Ok-clause-known : goal.returns-in_ok-push_all-in-Ok-clause-known
returns-in_ok-push_all-in-Ok-clause-known c =
    names-placed c.paste_item.new.names c.args.place c.paste_item.new.items.items c.in-Some.others.now c.push_all.new.items.items c.in_ok-push_all-in-Ok.ensures c.in-Ok.ensures.known
    (names-grown c.args.names.now c.paste_item.new.names c.paste_item.ensures.keeps c.in-Some.others.now (All-rest (HasName c.args.names.now) c.in-Some.first.now c.in-Some.others.now c.args.argument.now c.in-Some.ensures.cases.0 c.requires.argument))

pub returns-in_ok-push_all-in-Ok-clause-sets : goal.returns-in_ok-push_all-in-Ok-clause-sets
returns-in_ok-push_all-in-Ok-clause-sets c = λ table some items argument.
    sets-placed table c.args.place c.paste_item.new.items.items c.in-Some.others.now c.push_all.new.items.items c.in_ok-push_all-in-Ok.ensures
    (c.in-Ok.ensures.sets table some items
    (subst (HasSet table) (sym c.put_item.ensures)
    (All-head (HasSet table) c.in-Some.first.now c.in-Some.others.now (All-same (HasSet table) _ _ (sym c.in-Some.ensures.cases.0) argument))))
    (All-rest (HasSet table) c.in-Some.first.now c.in-Some.others.now c.args.argument.now c.in-Some.ensures.cases.0 argument)

pub returns-in-Err-clause-pasted : goal.returns-in-Err-clause-pasted
returns-in-Err-clause-pasted c = λ base left split r reads.
    Stops-more _ _ c.in-Err.fault (hidings_by r left) (hiding_by r c.put_item.result) (hidings_by r (items_at c.args.place c.in-Some.others.now)) _
    (placed-first r c.args.place c.args.argument.now c.in-Some.others.now c.in-Some.first.now c.put_item.result c.in-Some.ensures.cases.0 c.put_item.ensures)
    (c.in-Err.ensures.pasted base left split r reads)
