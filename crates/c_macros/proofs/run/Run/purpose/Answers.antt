use Rattle.std.proofs.Common.{◌∙◌, sym, ap, not, subst, option_copied, is_some}
use Rattle.meaning_macros.specs.Macros.{predefined_of}
use Rattle.c_macros.specs.Purpose.{Purposed, purpose_of_predefined}
use Rattle.c_macros.specs.declared.definition.Macro.{Macro}
use Rattle.c_macros.proofs.PurposeLemmas.{not-called, use-hidden, use-predefined, use-object, use-called, use-not_called}
use Rattle.c_macros.proofs.run.Run.purpose.Goals as goal

pub returns-then-not-may_be_replaced-clause-purpose : goal.returns-then-not-may_be_replaced-clause-purpose
returns-then-not-may_be_replaced-clause-purpose c = λ r reads below now work floor.
    use-hidden r c.args.table.now c.args.item.now now (sym (c.may_be_replaced.ensures c.args.names.now r reads) ∙ c.if-not-may_be_replaced.true)

pub returns-in_default-clause-purpose : goal.returns-in_default-clause-purpose
returns-in_default-clause-purpose c = λ r reads below now work floor.
    subst (Purposed r c.args.table.now c.args.item.now now)
    (ap (λ text. purpose_of_predefined (predefined_of text)) (reads.spells.texts c.args.item.now.token.name c.requires.name ∙ sym c.spelling.ensures.seen) ∙ sym c.predefined_or_stays.ensures)
    (use-predefined r reads.spells.apart c.args.table.now c.args.item.now now (sym (c.may_be_replaced.ensures c.args.names.now r reads) ∙ c.if-not-may_be_replaced.false)
    (sym c.entry.ensures ∙ ap option_copied c.in_default.is))

pub returns-then-is_none-clause-purpose : goal.returns-then-is_none-clause-purpose
returns-then-is_none-clause-purpose c = λ r reads below now work floor.
    use-object r reads.spells.apart c.args.table.now c.args.item.now now (sym (c.may_be_replaced.ensures c.args.names.now r reads) ∙ c.if-not-may_be_replaced.false)
    c.in-Some.entry.now (sym c.entry.ensures ∙ ap option_copied c.in-Some.is) (ap (λ (m : Macro). is_some m.params) (sym c.definition.ensures) ∙ c.is_none.ensures ∙ ap not c.if-is_none.true)

pub returns-then-opens-clause-purpose : goal.returns-then-opens-clause-purpose
returns-then-opens-clause-purpose c = λ r reads below now work floor.
    use-called r reads.spells.apart c.args.table.now c.args.item.now now (sym (c.may_be_replaced.ensures c.args.names.now r reads) ∙ c.if-not-may_be_replaced.false)
    c.in-Some.entry.now (sym c.entry.ensures ∙ ap option_copied c.in-Some.is) (ap (λ (m : Macro). is_some m.params) (sym c.definition.ensures) ∙ c.is_none.ensures ∙ ap not c.if-is_none.false)
    (sym (c.opens.ensures.opens below now work floor) ∙ c.if-opens.true)

pub returns-clause-purpose : goal.returns-clause-purpose
returns-clause-purpose c = λ r reads below now work floor.
    use-not_called r reads.spells.apart c.args.table.now c.args.item.now now (sym (c.may_be_replaced.ensures c.args.names.now r reads) ∙ c.if-not-may_be_replaced.false)
    c.in-Some.entry.now (sym c.entry.ensures ∙ ap option_copied c.in-Some.is) (ap (λ (m : Macro). is_some m.params) (sym c.definition.ensures) ∙ c.is_none.ensures ∙ ap not c.if-is_none.false)
    (sym (c.opens.ensures.opens below now work floor) ∙ c.if-opens.false)

pub returns-in_default-clause-above : goal.returns-in_default-clause-above
returns-in_default-clause-above c = λ called. absurd (not-called (predefined_of c.spelling.result.now) (sym c.predefined_or_stays.ensures ∙ called))

pub returns-then-opens-clause-above : goal.returns-then-opens-clause-above
returns-then-opens-clause-above c = λ called. c.opens.ensures.above c.if-opens.true
