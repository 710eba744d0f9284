use Rattle.meaning_statements.proofs.Labels.{gotos_have_one_label}
use Rattle.meaning_statements.proofs.statements.gotos_have_one_label.Goals as goal

pub returns : goal.returns
returns c = gotos_have_one_label
