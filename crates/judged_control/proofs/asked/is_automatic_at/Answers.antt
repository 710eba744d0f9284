use Rattle.std.proofs.Common.{ap, ◌∙◌}
use Rattle.meaning_typing.specs.Evaluation.{is_automatic}
use Rattle.decl_judge.proofs.AskedLemmas.{seen_at}
use Rattle.node_facts.specs.Facts.{node_seen}
use Rattle.judged_control.proofs.asked.is_automatic_at.Goals as goal

pub returns : goal.returns
returns c = λ table.
    c.is_automatic.ensures table ∙ ap is_automatic (ap (node_seen table) c.at.ensures ∙ seen_at table c.args.facts.now c.args.declarator)
