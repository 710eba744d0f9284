use Rattle.std.proofs.lemmas.Bool.{true≢false}
use Rattle.std.proofs.Common.{length, ap, sym, arith}
use Rattle.c_tokens.specs.Remaining.{first_of}
use Rattle.c_tokens.proofs.CursorLemmas.{ahead-byte, ahead-open, ahead-closed}
use Rattle.c_tokens.proofs.cursor.Cursor.peek.Goals as goal

pub returns-in-Some : goal.returns-in-Some
returns-in-Some c =
    let split = (ahead-byte c.args.self.now _ _ c.in-Some.ensures.cases.0).1 in
    record { first = sym (ap first_of split); some = λ _. omega (arith, ap length split); none = λ none. absurd (true≢false none) }

pub returns-then-self : goal.returns-then-self
returns-then-self c =
    let split = ahead-open c.args.self.now c.in_default.ensures.cases c.if-self.true in
    record { first = sym (ap first_of split); some = λ _. omega (arith, ap length split); none = λ _. c.in_default.ensures.cases }

pub returns-else-self-clause-first : goal.returns-else-self-clause-first
returns-else-self-clause-first c = sym (ap first_of (ahead-closed c.args.self.now c.in_default.ensures.cases c.if-self.false))
