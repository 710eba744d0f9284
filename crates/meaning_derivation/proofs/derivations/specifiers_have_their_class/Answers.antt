use Rattle.meaning_derivation.proofs.Storing.{classes_have_numbers, specifiers_have_their_class}
use Rattle.meaning_derivation.proofs.derivations.specifiers_have_their_class.Goals as goal

pub returns-clause-numbers : goal.returns-clause-numbers
returns-clause-numbers c = classes_have_numbers

pub returns-clause-nodes : goal.returns-clause-nodes
returns-clause-nodes c = specifiers_have_their_class
