use Rattle.std.proofs.Common.{refl}
use Rattle.meaning_unit_nodes.proofs.nodes.worked_examples.Goals as goal

pub returns : goal.returns
returns c = record {
  declaration = refl;
  declarator = refl;
  told = refl;
  second = refl;
  no_name = refl;
  another = refl;
  numbered = refl;
}
