-- By its kind.
use Rattle.std.proofs.Common.{◌≡◌, ℕ, ◌∷◌, ◌++◌, Some, sym, subst, ◌∙◌}
use Rattle.vocabulary.specs.declared.node_kind.NodeKind.{NodeKind}
use Rattle.meaning_statements.specs.StatementRows.{switch_labels_if}
use Rattle.decl_judge.specs.Units.{nodes_of}
use Rattle.node_facts.specs.Facts.{nodes_seen}
use Rattle.statement_rows.specs.Labels.{StandsForLabels, default_label}
use Rattle.statement_judge.proofs.keeping.keep_in_switch.Goals as goal

pub returns-in_ok-keep_case-in-CaseStatement-clause-joins : goal.returns-in_ok-keep_case-in-CaseStatement-clause-joins
returns-in_ok-keep_case-in-CaseStatement-clause-joins c = λ surroundings at read stands.
    let nodes = nodes_of c.args.unit.now in
    let facts = nodes_seen c.args.types.now c.args.facts.now in
    subst (λ (kind : NodeKind). StandsForLabels c.keep_case.new.labels (switch_labels_if nodes surroundings facts c.args.handle kind (Some c.args.switch) ++ read))
    (sym c.in-CaseStatement.is) (c.in_ok-keep_case-in-CaseStatement.ensures.joins surroundings at read stands)

pub returns-in_ok-add_default-in-DefaultStatement-clause-joins : goal.returns-in_ok-add_default-in-DefaultStatement-clause-joins
returns-in_ok-add_default-in-DefaultStatement-clause-joins c = λ surroundings at read stands.
    let nodes = nodes_of c.args.unit.now in
    let facts = nodes_seen c.args.types.now c.args.facts.now in
    subst (λ (kind : NodeKind). StandsForLabels c.add_default.new.self (switch_labels_if nodes surroundings facts c.args.handle kind (Some c.args.switch) ++ read))
    (sym c.in-DefaultStatement.is)
    (subst (λ (token : ℕ). StandsForLabels c.add_default.new.self (default_label c.args.switch token ∷ read)) c.token_at.ensures
    (c.in_ok-add_default-in-DefaultStatement.ensures.joins read stands))
