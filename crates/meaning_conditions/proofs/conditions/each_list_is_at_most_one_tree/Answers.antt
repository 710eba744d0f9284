use Rattle.meaning_conditions.proofs.Valuing.{trees_are_unique}
use Rattle.meaning_conditions.proofs.conditions.each_list_is_at_most_one_tree.Goals as goal

pub returns : goal.returns
returns c = trees_are_unique
