-- Each law is a lemma.
use Rattle.meaning_objects.proofs.Callees.{parentheses_are_taken_away, parentheses_dont_count}
use Rattle.meaning_objects.proofs.objects.callees_are_named.Goals as goal

pub returns-clause-found : goal.returns-clause-found
returns-clause-found c = parentheses_are_taken_away

pub returns-clause-same : goal.returns-clause-same
returns-clause-same c = parentheses_dont_count
