use Rattle.std.proofs.Common.{◌≡◌, ◌≤◌, length}
use Rattle.flows.specs.Reading.{digits_from}
use Rattle.flows.proofs.number.read_digits.Given as goal

abbrev pub invariant-digits : goal.invariant-digits
invariant-digits l = record { number : digits_from l.number l.rest ≡ digits_from l.first l.text; shorter : length l.rest ≤ length l.text }

abbrev pub decreases-digits : goal.decreases-digits
decreases-digits l = length l.rest
