use Rattle.std.proofs.Common.{◌≡◌}
use Rattle.meaning_text.specs.Words.{begins_hexadecimal}
use Rattle.ksparse.proofs.identifier.begins_hexadecimal.Given as goal

abbrev pub invariant-digits : goal.invariant-digits
invariant-digits l = begins_hexadecimal l.wanted l.left ≡ begins_hexadecimal l.count l.text

abbrev pub decreases-digits : goal.decreases-digits
decreases-digits l = l.wanted
