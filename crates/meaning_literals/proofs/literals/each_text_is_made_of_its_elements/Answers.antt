use Rattle.meaning_literals.proofs.GrammarLemmas.{IsMadeOf-elements_of, elements_of-unique}
use Rattle.meaning_literals.proofs.literals.each_text_is_made_of_its_elements.Goals as goal

pub returns-clause-exist : goal.returns-clause-exist
returns-clause-exist c = IsMadeOf-elements_of

pub returns-clause-unique : goal.returns-clause-unique
returns-clause-unique c = λ text elements made. elements_of-unique elements text made
