-- The row of the expression is answered, or the least of what it breaks.
use Rattle.std.proofs.Common.{List, option_map, sym, ap, subst, ◌∙◌}
use Rattle.sparse_model.specs.declared.failure.Failure.{Failure}
use Rattle.decl_judge.specs.Units.{nodes_of}
use Rattle.meaning_typing.specs.WholeTyping.{whole_row_at}
use Rattle.expression_rows.specs.Arguments.{Appends}
use Rattle.expression_rows.specs.Rows.{broken_seen}
use Rattle.expr_judge.specs.Rows.{KeptRow}
use Rattle.node_surroundings.specs.Seen.{surroundings_seen}
use Rattle.node_judge.specs.Known.{facts_seen, table_of}
use Rattle.node_judge.proofs.JudgingLemmas.{appended_behind, least_none}
use Rattle.node_judge.proofs.judging.judge_expr.Goals as goal

pub returns-in-Some-clause-refused : goal.returns-in-Some-clause-refused
returns-in-Some-clause-refused c =
    sym (ap (λ (kept : KeptRow). kept.broken) c.in_ok-row.ensures.says.row) ∙ ap (option_map broken_seen) c.in-Some.is

pub returns-in-Some-clause-kept : goal.returns-in-Some-clause-kept
returns-in-Some-clause-kept c = record { known = c.in_ok-row.ensures.keeps; types = c.in_ok-row.ensures.says.keeps }

pub returns-clause-fact : goal.returns-clause-fact
returns-clause-fact c = ap (λ (kept : KeptRow). kept.fact) c.in_ok-row.ensures.says.row

pub returns-clause-ids : goal.returns-clause-ids
returns-clause-ids c = c.in_ok-row.ensures.says.ids

pub returns-clause-failures : goal.returns-clause-failures
returns-clause-failures c =
    let table = table_of c.judge_node.new.known in
    let own = c.judge_node.new.found in
    let meant = (whole_row_at (nodes_of c.args.unit.now) (surroundings_seen c.args.surroundings.now) (facts_seen c.args.known.now) c.args.e).failures in
    appended_behind table c.args.found.now own c.append_all.new.found meant
    (subst (λ (none : List Failure). Appends table none own meant) c.new-failures.ensures c.in_ok-row.ensures.says.failures)
    c.in_ok-append_all-in-None.ensures.ok

pub returns-clause-unbroken : goal.returns-clause-unbroken
returns-clause-unbroken c =
    least_none _ (ap (option_map broken_seen) (sym c.in-None.is) ∙ ap (λ (kept : KeptRow). kept.broken) c.in_ok-row.ensures.says.row)

pub returns-clause-keeps : goal.returns-clause-keeps
returns-clause-keeps c = record { known = c.in_ok-row.ensures.keeps; types = c.in_ok-row.ensures.says.keeps }
