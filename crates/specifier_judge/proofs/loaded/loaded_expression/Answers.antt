use Rattle.std.proofs.Common.{[], None, sym, ap, subst, ◌∙◌}
use Rattle.meaning_typing.specs.Typing.{row_with_constant, with_constant}
use Rattle.expression_rows.specs.Rows.{Told, failures_seen}
use Rattle.node_facts.specs.Facts.{IsKnownNodeFact, node_seen}
use Rattle.expr_judge.proofs.TellingLemmas.{fact-is, fact_known}
use Rattle.specifier_judge.proofs.LoadedLemmas.{asked_of}
use Rattle.specifier_judge.proofs.loaded.loaded_expression.Goals as goal

pub returns-clause-row : goal.returns-clause-row
returns-clause-row c want stands wanted seen =
    let table = c.args.types.now in
    let fact = ap (with_constant None) (sym (ap (node_seen table) c.requires.fact) ∙ ap (λ kept. kept.fact) seen) in
    let loaded = c.judge_loaded-judged.ensures.row want (asked_of (row_with_constant None stands)) wanted
    (λ i. record { fact = fact i; broken = (seen i).broken; failures = failures_seen table (c.none.ensures i); passed = [] }) in
    λ i. record {
      fact = (ap (node_seen table) c.fact_of.ensures ∙ fact-is table c.judge_loaded-judged.result.fact ∙ ap (λ (row : Told). row.fact) loaded) i;
      broken = (loaded i).broken;
      passed = (seen i).passed;
    }

pub returns-clause-known : goal.returns-clause-known
returns-clause-known c =
    let table = c.args.types.now in
    subst (IsKnownNodeFact table) (sym c.fact_of.ensures)
    (fact_known table c.judge_loaded-judged.result.fact c.judge_loaded-judged.ensures.known.fact)
