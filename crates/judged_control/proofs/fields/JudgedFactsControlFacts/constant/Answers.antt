use Rattle.std.proofs.Common.{ap, ◌∙◌}
use Rattle.meaning_typing.specs.Facts.{fact_at}
use Rattle.node_facts.specs.Facts.{nodes_seen}
use Rattle.meaning_contexts.specs.Units.{constant_known}
use Rattle.judged_control.specs.Judged.{JudgedNodes}
use Rattle.judged_control.proofs.fields.JudgedFactsControlFacts.constant.Goals as goal

pub returns : goal.returns
returns c =
    c.constant_at.ensures
    ∙ ap (λ (judged : JudgedNodes). constant_known (fact_at (nodes_seen judged.types judged.facts) c.args.expression)) c.self.view_is
