use Rattle.meaning_nested.proofs.Units.{each_unit_has_one_judgement}
use Rattle.meaning_nested.proofs.nesting.each_unit_has_one_judgement.Goals as goal

pub returns : goal.returns
returns c = each_unit_has_one_judgement
