use Rattle.c_types.specs.Table.{type_at}
use Rattle.declaration_judge.proofs.AgainLemmas.{equal_by}
use Rattle.declaration_judge.proofs.again.are_equal.Goals as goal

pub returns : goal.returns
returns c = equal_by c.equal.result (type_at c.args.types.now c.args.one) (type_at c.args.types.now c.args.other) c.equal.ensures
