use Rattle.meaning_conditions.proofs.Numbering.{told_divisor_is_first, values_divide_by_none}
use Rattle.meaning_conditions.proofs.conditions.the_first_zero_divisor_is_told.Goals as goal

pub returns-clause-first : goal.returns-clause-first
returns-clause-first c = told_divisor_is_first

pub returns-clause-none : goal.returns-clause-none
returns-clause-none c = values_divide_by_none
