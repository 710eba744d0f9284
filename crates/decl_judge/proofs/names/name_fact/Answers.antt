use Rattle.std.proofs.Common.{ap}
use Rattle.meaning_typing.specs.Declarators.{named_if}
use Rattle.decl_judge.proofs.names.name_fact.Goals as goal

pub returns-in-None-clause-fact : goal.returns-in-None-clause-fact
returns-in-None-clause-fact c = λ table. ap named_if (c.in-None.ensures.named table)
