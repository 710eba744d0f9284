-- A limit that was passed before is told.
use Rattle.std.proofs.Common.{option_map, sym, ap, ◌∙◌, arith}
use Rattle.parse_state.specs.Seen.{passed_of}
use Rattle.c_parse.proofs.Noted.{limit_told}
use Rattle.c_parse.proofs.refusing.earlier_limit.Goals as goal

pub returns-then-passed-taken-clause-passed : goal.returns-then-passed-taken-clause-passed
returns-then-passed-taken-clause-passed c = λ otherwise.
    let count = c.taken.ensures in
    let before = c.if-passed-taken.true in
    (c.in-Some.passed.terminal, limit_told _ c.in-Some.passed c.args.state.now.taken otherwise (sym (ap (option_map passed_of) c.in-Some.is) ∙ c.passed.ensures) (omega (arith, count, before)))
