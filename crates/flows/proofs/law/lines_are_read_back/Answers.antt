use Rattle.flows.proofs.WrittenLemmas.{read_back}
use Rattle.flows.proofs.law.lines_are_read_back.Goals as goal

pub returns : goal.returns
returns c = read_back
