use Rattle.meaning_nested.proofs.Units.{each_unit_is_nested}
use Rattle.meaning_nested.proofs.nesting.each_unit_is_nested.Goals as goal

pub returns : goal.returns
returns c = each_unit_is_nested
