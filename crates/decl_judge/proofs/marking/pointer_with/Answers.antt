use Rattle.meaning_types.specs.Types.{NoTypes}
use Rattle.decl_judge.proofs.marking.pointer_with.Goals as goal

pub returns-clause-made : goal.returns-clause-made
returns-clause-made c = c.make_level.ensures.made NoTypes
