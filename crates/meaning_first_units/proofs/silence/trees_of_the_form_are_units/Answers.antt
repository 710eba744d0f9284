use Rattle.meaning_first_units.proofs.Trees.{trees_of_the_form_are_units}
use Rattle.meaning_first_units.proofs.silence.trees_of_the_form_are_units.Goals as goal

pub returns : goal.returns
returns c = trees_of_the_form_are_units
