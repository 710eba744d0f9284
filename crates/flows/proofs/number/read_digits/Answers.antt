-- One digit more, and the number is too large.
use Rattle.std.proofs.Common.{◌≡◌, true, sym, ◌∙◌, arith}
use Rattle.flows.specs.Reading.{digits_from, is_digit}
use Rattle.flows.proofs.DigitLemmas.{too-many}
use Rattle.flows.proofs.number.read_digits.Goals as goal

pub returns-in_err-number-clause-number : goal.returns-in_err-number-clause-number
returns-in_err-number-clause-number c =
    let digit : is_digit c.in-Some.digit.now ≡ true = sym c.is_ascii_digit.ensures.value ∙ c.if-not-is_ascii_digit.false in
    rw c.from_residual.ensures
    (too-many c.digits.number c.in-Some.digit.now c.digits.rest.now c.in-Some.others.now (digits_from c.args.first c.args.text.now) c.in-Some.ensures.cases.0 digit c.digits.invariant.number
    (omega (arith, c.in_err-number.ensures)))
