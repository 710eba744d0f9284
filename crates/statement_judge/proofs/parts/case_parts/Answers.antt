-- Both are looked up at once.
use Rattle.std.proofs.Common.{sym, ap, ◌∙◌}
use Rattle.meaning_statements.specs.StatementRows.{switched_fact}
use Rattle.decl_judge.specs.Units.{nodes_of}
use Rattle.meaning_typing.specs.Facts.{fact_at}
use Rattle.expr_judge.specs.Parts.{only_expression}
use Rattle.node_facts.specs.Facts.{nodes_seen}
use Rattle.statement_judge.proofs.parts.case_parts.Goals as goal

pub returns-in_ok-both-in-Some-clause-label : goal.returns-in_ok-both-in-Some-clause-label
returns-in_ok-both-in-Some-clause-label c =
    c.in_ok-both-in-Some.ensures.first ∙ ap (λ part. only_expression (fact_at (nodes_seen c.args.types.now c.args.facts.now) part)) c.child_at-label.ensures

pub returns-in_ok-both-in-Some-clause-switched : goal.returns-in_ok-both-in-Some-clause-switched
returns-in_ok-both-in-Some-clause-switched c =
    c.in_ok-both-in-Some.ensures.second ∙ ap (λ part. only_expression (fact_at (nodes_seen c.args.types.now c.args.facts.now) part)) c.child_at-value.ensures
    ∙ ap (λ of. only_expression (switched_fact (nodes_of c.args.unit.now) (nodes_seen c.args.types.now c.args.facts.now) of)) (sym c.in-Some.is)

pub returns-in_ok-alone-in-None-clause-label : goal.returns-in_ok-alone-in-None-clause-label
returns-in_ok-alone-in-None-clause-label c =
    c.in_ok-alone-in-None.ensures.seen ∙ ap (λ part. only_expression (fact_at (nodes_seen c.args.types.now c.args.facts.now) part)) c.child_at-label.ensures
