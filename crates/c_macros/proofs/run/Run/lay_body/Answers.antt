use Rattle.std.proofs.Common.{◌∙◌}
use Rattle.c_macros.proofs.ClosingLemmas.{keeps-both, noted-laid}
use Rattle.c_macros.proofs.run.Run.lay_body.Goals as goal

pub returns-clause-lays : goal.returns-clause-lays
returns-clause-lays c = λ parts lays below now work floor.
    let on = c.in_ok-lay.ensures.lays parts lays below now work floor in
    record { items = on.items; stand = c.put_space.ensures.stand below on.items on.stand floor; read = on.read }

pub returns-clause-known : goal.returns-clause-known
returns-clause-known c = λ names items work. c.put_space.ensures.known names c.lay.new.sets (c.in_ok-lay.ensures.known names items work)

pub returns-clause-closings : goal.returns-clause-closings
returns-clause-closings c = λ are.
    noted-laid c.args.self.now.work.items c.put_space.new.work.items c.args.self.now.closings.items c.truncate.new.self.items c.len.result
    (keeps-both c.args.self.now.work.items c.lay.new.work.items c.put_space.new.work.items c.in_ok-lay.ensures.below c.put_space.ensures.below)
    (c.len.ensures ∙ c.args.self.now.work.ok.0) c.truncate.ensures.items are
