-- By its switch.
use Rattle.std.proofs.Common.{◌≡◌, ℕ, ◌++◌, Option, sym, subst, ◌∙◌}
use Rattle.meaning_statements.specs.StatementRows.{switch_labels_if}
use Rattle.decl_judge.specs.Units.{nodes_of}
use Rattle.node_facts.specs.Facts.{nodes_seen}
use Rattle.statement_rows.specs.Labels.{StandsForLabels}
use Rattle.statement_judge.proofs.keeping.keep_switch_label.Goals as goal

pub returns-in_ok-keep_in_switch-in-Some-clause-joins : goal.returns-in_ok-keep_in_switch-in-Some-clause-joins
returns-in_ok-keep_in_switch-in-Some-clause-joins c = λ surroundings at read stands.
    let nodes = nodes_of c.args.unit.now in
    let facts = nodes_seen c.args.types.now c.args.facts.now in
    subst (λ (switch : Option ℕ). StandsForLabels c.keep_in_switch.new.labels (switch_labels_if nodes surroundings facts c.args.handle c.args.kind switch ++ read))
    (sym c.in-Some.is) (c.in_ok-keep_in_switch-in-Some.ensures.joins surroundings (at ∙ c.in-Some.is) read stands)
