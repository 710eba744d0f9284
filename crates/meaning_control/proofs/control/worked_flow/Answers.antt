use Rattle.std.proofs.Common.{[], ◌∷◌, refl}
use Rattle.meaning_control.proofs.ExampleFlow as example
use Rattle.meaning_control.proofs.control.worked_flow.Goals as goal

pub returns : goal.returns
returns c = record {
  node = (2 ∷ [], refl, ((0 ∷ 1 ∷ [], refl, (([], refl, tt), (([], refl, tt), tt))), tt));
  tables_hold = example.tables_hold;
  flow = example.flow;
}
