use Rattle.std.proofs.Common.{ap, ◌∙◌}
use Rattle.meaning_typing.specs.Evaluation.{is_automatic}
use Rattle.meaning_typing.specs.Facts.{fact_at}
use Rattle.node_facts.specs.Facts.{nodes_seen}
use Rattle.judged_control.specs.Judged.{JudgedNodes}
use Rattle.judged_control.proofs.fields.JudgedFactsControlFacts.is_automatic.Goals as goal

pub returns : goal.returns
returns c =
    c.is_automatic_at.ensures c.self.inside.types.now
    ∙ ap (λ (judged : JudgedNodes). is_automatic (fact_at (nodes_seen judged.types judged.facts) c.args.declarator)) c.self.view_is
