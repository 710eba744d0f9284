use Rattle.meaning_forms.proofs.Deriving.{derived_trees_are_formed, derived_lists_are_formed}
use Rattle.meaning_forms.proofs.forms.derived_trees_are_formed.Goals as goal

pub returns-clause-trees : goal.returns-clause-trees
returns-clause-trees c = derived_trees_are_formed

pub returns-clause-lists : goal.returns-clause-lists
returns-clause-lists c = derived_lists_are_formed
