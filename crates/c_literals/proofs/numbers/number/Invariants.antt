use Rattle.std.proofs.Common.{◌≡◌, length}
use Rattle.meaning_literals.specs.Numbers.{number}
use Rattle.c_literals.specs.Seen.{base_seen}
use Rattle.c_literals.proofs.NumberLemmas.{number_before}
use Rattle.c_literals.proofs.numbers.number.Given as goal

abbrev pub invariant-digits : goal.invariant-digits
invariant-digits l = number_before (base_seen l.base) l.value l.rest ≡ number (base_seen l.base) l.digits

abbrev pub decreases-digits : goal.decreases-digits
decreases-digits l = length l.rest
