use Rattle.std.proofs.Common.{◌∙◌}
use Rattle.statement_rows.proofs.named_labels.FunctionLabels.first.Goals as goal

pub returns : goal.returns
returns c = λ labels stands. c.copied.ensures ∙ c.get.ensures.value ∙ stands (c.args.owner, c.args.name)
