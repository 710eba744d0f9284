use Rattle.std.proofs.Common.{◌≡◌, drop}
use Rattle.cases.specs.declared.escapes.State.TheVariants.{Outside}
use Rattle.cases.specs.Escapes.{prepend, unescaped_from}
use Rattle.cases.proofs.escapes.unescaped.Given as goal

abbrev pub invariant-loop-byte : goal.invariant-loop-byte
invariant-loop-byte l = unescaped_from Outside l.text ≡ prepend l.bytes.items (unescaped_from l.state (drop l.byte-index l.text))
