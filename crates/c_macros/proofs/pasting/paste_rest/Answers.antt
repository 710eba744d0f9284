use Rattle.std.proofs.Common.{◌≡◌, ◌<◌, length, ap, ◌∙◌, arith}
use Rattle.std.proofs.lemmas.List.{nil_from_length}
use Rattle.meaning_macros.specs.Hiding as hiding
use Rattle.meaning_macros.specs.Substitution.{comma_before}
use Rattle.c_tokens.specs.Seen.{at_of}
use Rattle.c_macros.specs.Chains.{items_at, led_items}
use Rattle.c_macros.specs.Reading.{hiding_by, hidings_by}
use Rattle.c_macros.proofs.GrowthLemmas.{names-grown, names-placed, sets-placed}
use Rattle.c_macros.proofs.PastingLemmas.{Holds-more, Holds-nothing, Stops-more, comma_stays}
use Rattle.c_macros.proofs.pasting.paste_rest.Goals as goal

pub returns-then-is_empty-clause-pasted : goal.returns-then-is_empty-clause-pasted
returns-then-is_empty-clause-pasted c = λ base left split r reads.
    let none : length c.args.rest.now ≡ 0 = grind (arith, c.if-is_empty.true, c.is_empty.ensures) in
    Holds-nothing r c.args.start base c.args.items.now.items left _ split
    (ap (λ items. comma_before (hiding_by r c.args.comma) (hiding.led c.args.space (hiding.set_at (at_of c.args.place) (hidings_by r items)))) (nil_from_length c.args.rest.now none))

pub returns-in_ok-push_all-in-Ok-clause-pasted : goal.returns-in_ok-push_all-in-Ok-clause-pasted
returns-in_ok-push_all-in-Ok-clause-pasted c = λ base left split r reads.
    let some : 0 < length c.args.rest.now = grind (arith, c.if-is_empty.false, c.is_empty.ensures) in
    Holds-more r c.args.start base c.paste_item.new.items.items (led_items c.args.space (items_at c.args.place c.args.rest.now)) c.lead.new.items.items left (hiding_by r c.args.comma) _
    (c.in-Ok.ensures.pasted base left split r reads)
    (c.lead.ensures.led c.paste_item.new.items.items (items_at c.args.place c.args.rest.now) (record { items = c.in_ok-push_all-in-Ok.ensures; length = c.len-second.ensures ∙ c.paste_item.new.items.ok.0 }))
    (comma_stays r c.args.place c.args.space c.args.rest.now (hiding_by r c.args.comma) some)

pub returns-in_ok-push_all-in-Ok-clause-known : goal.returns-in_ok-push_all-in-Ok-clause-known
returns-in_ok-push_all-in-Ok-clause-known c =
    c.lead.ensures.names c.paste_item.new.names
    (names-placed c.paste_item.new.names c.args.place c.paste_item.new.items.items c.args.rest.now c.push_all.new.items.items c.in_ok-push_all-in-Ok.ensures c.in-Ok.ensures.known
    (names-grown c.args.names.now c.paste_item.new.names c.paste_item.ensures.keeps c.args.rest.now c.requires.rest))

pub returns-in_ok-push_all-in-Ok-clause-sets : goal.returns-in_ok-push_all-in-Ok-clause-sets
returns-in_ok-push_all-in-Ok-clause-sets c = λ table some items comma rest.
    c.lead.ensures.sets table
    (sets-placed table c.args.place c.paste_item.new.items.items c.args.rest.now c.push_all.new.items.items c.in_ok-push_all-in-Ok.ensures (c.in-Ok.ensures.sets table some items comma) rest)

pub returns-in-Err-clause-pasted : goal.returns-in-Err-clause-pasted
returns-in-Err-clause-pasted c = λ base left split r reads.
    let some : 0 < length c.args.rest.now = grind (arith, c.if-is_empty.false, c.is_empty.ensures) in
    Stops-more _ _ c.in-Err.fault (hidings_by r left) (hiding_by r c.args.comma) (hidings_by r (led_items c.args.space (items_at c.args.place c.args.rest.now))) _
    (comma_stays r c.args.place c.args.space c.args.rest.now (hiding_by r c.args.comma) some)
    (c.in-Err.ensures.pasted base left split r reads)
