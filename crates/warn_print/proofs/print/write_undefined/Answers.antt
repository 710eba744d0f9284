-- One failure more stands at the next token.
use Rattle.warn_print.proofs.UnitLemmas.{undefined-next}
use Rattle.warn_print.proofs.print.write_undefined.Goals as goal

pub failures-preserved : goal.failures-preserved
failures-preserved c =
    undefined-next c.args.show.now c.args.classes.now c.failures.failures.now c.in-Some.others.now c.in-Some.failure.now c.failures.tokens.now
    c.first_of-token.result.1.now c.first_of-token.result.0 c.failures.text.items c.write_if_on.new.text.items _ c.in-Some.ensures.cases.0 c.first_of-token.ensures.first
    c.first_of-token.ensures.behind c.in_ok-write_if_on.ensures c.failures.invariant
