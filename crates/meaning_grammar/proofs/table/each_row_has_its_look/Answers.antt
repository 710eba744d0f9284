use Rattle.meaning_grammar.proofs.Apart.{looks_are_apart}
use Rattle.meaning_grammar.proofs.Taking.{rows_have_looks, rows_are_taken, what_is_taken_is_a_row}
use Rattle.meaning_grammar.proofs.table.each_row_has_its_look.Goals as goal

pub returns-clause-rows : goal.returns-clause-rows
returns-clause-rows c = rows_have_looks

pub returns-clause-apart : goal.returns-clause-apart
returns-clause-apart c = looks_are_apart

pub returns-clause-taken : goal.returns-clause-taken
returns-clause-taken c = rows_are_taken

pub returns-clause-only : goal.returns-clause-only
returns-clause-only c = what_is_taken_is_a_row
