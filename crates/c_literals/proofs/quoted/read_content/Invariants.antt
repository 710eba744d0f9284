use Rattle.std.proofs.Common.{◌≡◌, length}
use Rattle.meaning_literals.specs.Elements.{elements_of}
use Rattle.meaning_literals.specs.Quoted.{bytes_of}
use Rattle.c_literals.proofs.ElementLemmas.{behind_bytes}
use Rattle.c_literals.proofs.quoted.read_content.Given as goal

abbrev pub invariant-elements : goal.invariant-elements
invariant-elements l = behind_bytes l.bytes.items (bytes_of (elements_of l.rest)) ≡ bytes_of (elements_of l.text)

abbrev pub decreases-elements : goal.decreases-elements
decreases-elements l = length l.rest
