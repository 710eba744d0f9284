use Rattle.meaning_operands.proofs.SameTypes.{same_types_convert}
use Rattle.meaning_operands.proofs.operands.same_types_convert.Goals as goal

pub returns : goal.returns
returns c = same_types_convert
