use Rattle.meaning_units.proofs.JudgementLemmas.{broken_are_gathered, failures_are_gathered}
use Rattle.meaning_units.proofs.units.units_have_what_their_nodes_have.Goals as goal

pub returns-clause-failures : goal.returns-clause-failures
returns-clause-failures c = failures_are_gathered

pub returns-clause-broken : goal.returns-clause-broken
returns-clause-broken c = broken_are_gathered
