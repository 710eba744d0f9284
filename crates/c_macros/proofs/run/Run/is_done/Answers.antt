use Rattle.std.proofs.Common.{◌∙◌, sym, ap, length, arith, length-append}
use Rattle.std.proofs.lemmas.Bool.{eqb-true, leb-true}
use Rattle.c_macros.specs.Waiting.{work_of, backwards}
use Rattle.c_macros.proofs.BorderLemmas.{no_calls, none_now}
use Rattle.c_macros.proofs.run.Run.is_done.Goals as goal

pub returns : goal.returns
returns c = record {
  done = λ short waits made now holds.
      let none = sym (eqb-true _ 0 (sym c.is_empty.ensures ∙ c.if-not-is_empty.false)) ∙ c.args.self.now.calls.ok.0 ∙ ap length holds.calls in
      let no_waits = no_calls waits none in (
        no_waits,
        none_now now (omega (arith, leb-true c.len.result c.args.self.now.floor short, c.len.ensures, c.args.self.now.work.ok.0, ap length holds.work, holds.floor, length-append (work_of waits) (backwards now), ap (λ ws. length (work_of ws)) no_waits)),
      );
}
