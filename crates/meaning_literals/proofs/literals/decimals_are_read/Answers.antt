use Rattle.meaning_literals.proofs.IntegerLemmas.{integer_of-decimal}
use Rattle.meaning_literals.proofs.literals.decimals_are_read.Goals as goal

pub returns : goal.returns
returns c = integer_of-decimal
