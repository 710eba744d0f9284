use Rattle.std.proofs.Common.{refl}
use Rattle.meaning_operands.proofs.Laws.{each_law_is_sound}
use Rattle.meaning_operands.proofs.operands.each_operator_keeps_its_law.Goals as goal

pub returns : goal.returns
returns c = record { testing = refl; integers = refl; sound = each_law_is_sound }
