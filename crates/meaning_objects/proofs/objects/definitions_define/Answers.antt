-- Each law is a lemma.
use Rattle.meaning_objects.proofs.Definitions.{definitions_define, parameters_are_counted}
use Rattle.meaning_objects.proofs.objects.definitions_define.Goals as goal

pub returns-clause-definitions : goal.returns-clause-definitions
returns-clause-definitions c = definitions_define

pub returns-clause-parameters : goal.returns-clause-parameters
returns-clause-parameters c = parameters_are_counted
