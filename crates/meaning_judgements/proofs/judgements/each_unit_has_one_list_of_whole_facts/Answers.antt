use Rattle.meaning_judgements.proofs.FactLemmas.{whole_facts_are_found, whole_facts_are_unique}
use Rattle.meaning_judgements.proofs.judgements.each_unit_has_one_list_of_whole_facts.Goals as goal

pub returns-clause-unique : goal.returns-clause-unique
returns-clause-unique c = whole_facts_are_unique

pub returns-clause-found : goal.returns-clause-found
returns-clause-found c = whole_facts_are_found
