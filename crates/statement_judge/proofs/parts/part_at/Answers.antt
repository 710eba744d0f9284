use Rattle.std.proofs.Common.{ap, ◌∙◌}
use Rattle.meaning_typing.specs.Facts.{fact_at}
use Rattle.expr_judge.specs.Parts.{only_expression}
use Rattle.node_facts.specs.Facts.{nodes_seen}
use Rattle.statement_judge.proofs.parts.part_at.Goals as goal

pub returns-clause-seen : goal.returns-clause-seen
returns-clause-seen c =
    c.in_ok-found.ensures.seen ∙ ap (λ part. only_expression (fact_at (nodes_seen c.args.types.now c.args.facts.now) part)) c.child_at-part.ensures
