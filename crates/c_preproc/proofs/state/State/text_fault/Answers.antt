use Rattle.std.proofs.Common.{◌∙◌, sym, true≢false, arith, ◌<◌, ◌≤◌, ◌+◌, length}
use Rattle.c_preproc.specs.Texts.{before_in}
use Rattle.c_preproc.proofs.TextLemmas.{text-beyond, text-stops}
use Rattle.c_preproc.proofs.state.State.text_fault.Goals as goal

pub returns-then-is_beyond-clause-ends : goal.returns-then-is_beyond-clause-ends
returns-then-is_beyond-clause-ends c = λ path s piece next holds stops.
    let many : 2000000 < length c.args.self.now.tokens.items + c.before-2.result = c.is_beyond.ensures.0 c.if-is_beyond.true in
    text-beyond c.args.names.now path c.args.self.now s holds piece c.args.fault next stops (omega (arith, many, c.before-2.ensures))

pub returns-clause-ends : goal.returns-clause-ends
returns-clause-ends c = λ path s piece next holds stops.
    let few : 2000000 < length c.args.self.now.tokens.items + c.before-2.result → ⊥ = λ many. true≢false (sym (c.is_beyond.ensures.1 many) ∙ c.if-is_beyond.false) in
    text-stops c.args.names.now c.args.self.now piece (before_in c.args.fault) c.fault_of.result next (c.fault_of.ensures.stops path s piece holds stops) (omega (arith, few, c.before-2.ensures))
