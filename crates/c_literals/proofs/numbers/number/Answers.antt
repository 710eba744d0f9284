use Rattle.std.proofs.Common.{◌≤◌, ◌^◌, ◌*◌, ◌+◌, ap, ◌∙◌, subst, arith}
use Rattle.std.specs.Char.{digit_value}
use Rattle.meaning_literals.specs.Numbers.{radix}
use Rattle.c_literals.specs.Seen.{base_seen}
use Rattle.c_literals.proofs.NumberLemmas.{number_before, number_before-le, number_before-next}
use Rattle.c_literals.proofs.numbers.number.Goals as goal

pub returns-in_err-value : goal.returns-in_err-value
returns-in_err-value c =
    let base = base_seen c.args.base in
    let all = number_before-next base c.digits.value _ _ _ _ c.in-Some.ensures.cases.0 c.digits.invariant in
    let more = number_before-le base (c.digits.value * radix base + digit_value c.in-Some.field-0-0.now) c.in-Some.others.now in
    rw c.from_residual.ensures (subst (λ n. 2 ^ 64 ≤ n) all (omega (arith, c.in_err-value.ensures, more)))

pub digits-preserved : goal.digits-preserved
digits-preserved c =
    let base = base_seen c.args.base in
    ap (λ value. number_before base value c.in-Some.others.now) c.in_ok-value.ensures
    ∙ number_before-next base c.digits.value _ _ _ _ c.in-Some.ensures.cases.0 c.digits.invariant
