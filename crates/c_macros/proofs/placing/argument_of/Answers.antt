use Rattle.std.proofs.Common.{◌-◌, take, drop, slice_index, ap, ◌∙◌, arith}
use Rattle.c_macros.proofs.BodyPartLemmas.{argument-at, argument-past, between-within}
use Rattle.c_macros.proofs.placing.argument_of.Goals as goal

pub returns-then-number-arguments-clause-argument : goal.returns-then-number-arguments-clause-argument
returns-then-number-arguments-clause-argument c = λ lists has. argument-past c.args.arguments lists c.args.parameter has c.if-number-arguments.true

pub returns-then-first-end-clause-argument : goal.returns-then-first-end-clause-argument
returns-then-first-end-clause-argument c = λ lists has.
    let found = argument-at c.args.arguments lists c.args.parameter has c.if-number-arguments.false in
    absurd (omega (arith, found.ordered, c.if-first-end.true, c.begin_of-first.ensures))

pub returns-then-end-arguments-clause-argument : goal.returns-then-end-arguments-clause-argument
returns-then-end-arguments-clause-argument c = λ lists has.
    let found = argument-at c.args.arguments lists c.args.parameter has c.if-number-arguments.false in
    absurd (omega (arith, found.within, c.if-end-arguments.true))

pub returns-clause-argument : goal.returns-clause-argument
returns-clause-argument c = λ lists has.
    let found = argument-at c.args.arguments lists c.args.parameter has c.if-number-arguments.false in
    ap (λ n. take (slice_index c.args.arguments.ends.now c.args.parameter - n) (drop n c.args.arguments.items.now)) c.begin_of-first.ensures ∙ found.found

pub returns-clause-within : goal.returns-clause-within
returns-clause-within c = between-within _ _ _
