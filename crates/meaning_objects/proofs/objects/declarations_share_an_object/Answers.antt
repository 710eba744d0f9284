-- Each law is a lemma.
use Rattle.meaning_objects.proofs.Sharing.{contexts_are_shared, definitions_are_shared, noreturn_is_shared, objects_are_shared, objects_are_their_own, objects_come_first, objects_stay}
use Rattle.meaning_objects.proofs.objects.declarations_share_an_object.Goals as goal

pub returns-clause-shared : goal.returns-clause-shared
returns-clause-shared c = objects_are_shared

pub returns-clause-own : goal.returns-clause-own
returns-clause-own c = objects_are_their_own

pub returns-clause-first : goal.returns-clause-first
returns-clause-first c = objects_come_first

pub returns-clause-stays : goal.returns-clause-stays
returns-clause-stays c = objects_stay

pub returns-clause-definitions : goal.returns-clause-definitions
returns-clause-definitions c = definitions_are_shared

pub returns-clause-contexts : goal.returns-clause-contexts
returns-clause-contexts c = contexts_are_shared

pub returns-clause-noreturn : goal.returns-clause-noreturn
returns-clause-noreturn c = noreturn_is_shared
