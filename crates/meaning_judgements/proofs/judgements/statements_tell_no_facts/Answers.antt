use Rattle.meaning_judgements.proofs.RowLemmas.{statements_tell_no_facts}
use Rattle.meaning_judgements.proofs.judgements.statements_tell_no_facts.Goals as goal

pub returns : goal.returns
returns c = statements_tell_no_facts
