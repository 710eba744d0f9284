use Rattle.meaning_names.proofs.NameLemmas.{first_names_are_told, nameless_is_named_nowhere}
use Rattle.meaning_names.proofs.names.the_first_name_is_told.Goals as goal

pub returns-clause-told : goal.returns-clause-told
returns-clause-told c = first_names_are_told

pub returns-clause-nameless : goal.returns-clause-nameless
returns-clause-nameless c = nameless_is_named_nowhere
