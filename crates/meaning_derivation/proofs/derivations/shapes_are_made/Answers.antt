use Rattle.meaning_derivation.proofs.Shaping.{shapes_are_made}
use Rattle.meaning_derivation.proofs.derivations.shapes_are_made.Goals as goal

pub returns : goal.returns
returns c = shapes_are_made
