use Rattle.meaning_preprocessing.proofs.LinesRead.{lines_have_all_tokens, lines_behind_a_directive}
use Rattle.meaning_preprocessing.proofs.LinesBehind.{lines_behind_the_end}
use Rattle.meaning_preprocessing.proofs.units.lines_are_read_in_order.Goals as goal

pub returns-clause-tokens : goal.returns-clause-tokens
returns-clause-tokens c = lines_have_all_tokens

pub returns-clause-behind : goal.returns-clause-behind
returns-clause-behind c = lines_behind_a_directive

pub returns-clause-at_the_end : goal.returns-clause-at_the_end
returns-clause-at_the_end c = lines_behind_the_end
