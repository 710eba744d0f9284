use Rattle.meaning_grammar.proofs.Beginning.{beginnings_are_those_of_rows, looks_lead_on, beginnings_are_taken, no_beginning_is_lost}
use Rattle.meaning_grammar.proofs.table.beginnings_are_those_of_rows.Goals as goal

pub returns-clause-table : goal.returns-clause-table
returns-clause-table c = beginnings_are_those_of_rows

pub returns-clause-lead_on : goal.returns-clause-lead_on
returns-clause-lead_on c = looks_lead_on

pub returns-clause-taken : goal.returns-clause-taken
returns-clause-taken c = beginnings_are_taken

pub returns-clause-none_lost : goal.returns-clause-none_lost
returns-clause-none_lost c = no_beginning_is_lost
