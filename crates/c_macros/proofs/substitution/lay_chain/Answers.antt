use Rattle.std.proofs.Common.{false, [], length, vec_len, sym, ap, ◌∙◌, arith, length-append}
use Rattle.std.proofs.lemmas.List.{append-nil}
use Rattle.meaning_macros.specs.Bodies as bodies
use Rattle.c_macros.specs.Laid.{items_of}
use Rattle.c_macros.specs.Chains.{IsSplit, led_items}
use Rattle.c_macros.specs.Operands.{operand_by}
use Rattle.c_macros.specs.declared.laid.LaidEnd.{LaidEnd}
use Rattle.c_macros.proofs.BodyPartLemmas.{HoldsParts-more, Refuses-chain, length-led_items, too_many}
use Rattle.c_macros.proofs.substitution.lay_chain.Goals as goal

pub returns-then-len-most-clause-answer : goal.returns-then-len-most-clause-answer
returns-then-len-most-clause-answer c = λ parts lays r reads raws readys has has_ready later.
    let split : IsSplit c.args.laid.now.items.items c.len-start.result (items_of parts) [] = record { items = lays.items ∙ sym (append-nil (items_of parts)); length = c.len-start.ensures ∙ c.args.laid.now.items.ok.0 ∙ ap length lays.items } in
    let holds = c.in-Ok.ensures.found c.len-start.result (items_of parts) split r reads raws readys has has_ready in
    let led = c.lead.ensures.led (items_of parts) holds.left holds.split in
    too_many r c.args.most parts holds.left (bodies.space_of (operand_by r.spelled c.args.first.now.operand)) _ holds.read
    (omega (arith, c.if-len-most.true, c.len.ensures, c.lead.new.items.ok.0, ap length led, length-append (items_of parts) (led_items false holds.left), length-led_items false holds.left)) later

pub returns-in_ok-end_part-in-Ok-clause-answer : goal.returns-in_ok-end_part-in-Ok-clause-answer
returns-in_ok-end_part-in-Ok-clause-answer c = λ parts lays r reads raws readys has has_ready.
    let split : IsSplit c.args.laid.now.items.items c.len-start.result (items_of parts) [] = record { items = lays.items ∙ sym (append-nil (items_of parts)); length = c.len-start.ensures ∙ c.args.laid.now.items.ok.0 ∙ ap length lays.items } in
    let holds = c.in-Ok.ensures.found c.len-start.result (items_of parts) split r reads raws readys has has_ready in
    let led = c.lead.ensures.led (items_of parts) holds.left holds.split in
    let same = ap (λ v. v.items) c.in_ok-end_part-in-Ok.ensures.items in
    let made : LaidEnd = record { space = c.space_of.result; end = vec_len c.lead.new.items } in
    HoldsParts-more r c.args.most c.len-start.result c.args.laid.now c.end_part.new.laid parts _ (bodies.space_of (operand_by r.spelled c.args.first.now.operand)) _ made lays holds (same ∙ led)
    c.in_ok-end_part-in-Ok.ensures.ends
    (λ k. record { space = c.space_of.ensures r.spelled k; end = (c.lead.new.items.ok.0 ∙ ap length (sym same)) k })
    (omega (arith, c.if-len-most.false, c.len.ensures, c.lead.new.items.ok.0, ap length same))

pub returns-in-Err-clause-answer : goal.returns-in-Err-clause-answer
returns-in-Err-clause-answer c = λ parts lays r reads raws readys has has_ready later.
    let split : IsSplit c.args.laid.now.items.items c.len-start.result (items_of parts) [] = record { items = lays.items ∙ sym (append-nil (items_of parts)); length = c.len-start.ensures ∙ c.args.laid.now.items.ok.0 ∙ ap length lays.items } in
    Refuses-chain r c.args.most parts c.in-Err.fault (bodies.space_of (operand_by r.spelled c.args.first.now.operand)) _
    (c.in-Err.ensures.found c.len-start.result (items_of parts) split r reads raws readys has has_ready) later
