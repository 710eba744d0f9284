-- A `case` with a number is one label, and one without is none.
use Rattle.std.proofs.Common.{◌≡◌, ℤ, ◌∷◌, ◌++◌, Some, sym, ap, subst, ◌∙◌, rules, FitsSigned}
use Rattle.std.specs.Int.{w128}
use Rattle.std.proofs.lemmas.Int.{to_z-of_z}
use Rattle.meaning_typing.specs.Typing.{part_token}
use Rattle.meaning_statements.specs.StatementRows.{numbered_label}
use Rattle.decl_judge.specs.Units.{nodes_of}
use Rattle.node_facts.specs.Facts.{nodes_seen}
use Rattle.statement_rows.specs.Labels.{StandsForLabels, case_label}
use Rattle.statement_judge.proofs.KeepingLemmas.{number_is}
use Rattle.statement_judge.proofs.keeping.keep_case.Goals as goal

pub returns-in_ok-add_case-in-Some-clause-joins : goal.returns-in_ok-add_case-in-Some-clause-joins
returns-in_ok-add_case-in-Some-clause-joins c = λ surroundings at read stands.
    let nodes = nodes_of c.args.unit.now in
    let facts = nodes_seen c.args.types.now c.args.facts.now in
    let number =
    number_is nodes surroundings facts c.args.handle c.number_of_label.result (Some c.args.switch) _ _ at c.in_ok-parts.ensures.label c.in_ok-parts.ensures.switched
    c.number_of_label.ensures in
    let fits : FitsSigned w128 c.in-Some.number = search rules in
    subst (λ front. StandsForLabels c.add_case.new.self (front ++ read))
    (λ i. numbered_label c.args.switch (c.part_token.ensures i) (sym (number ∙ c.in-Some.is) i))
    (subst (λ (n : ℤ). StandsForLabels c.add_case.new.self (case_label c.args.switch n c.part_token.result ∷ read)) (to_z-of_z w128 c.in-Some.number fits)
    (c.in_ok-add_case-in-Some.ensures.joins read stands))

pub returns-in-None-clause-joins : goal.returns-in-None-clause-joins
returns-in-None-clause-joins c = λ surroundings at read stands.
    let nodes = nodes_of c.args.unit.now in
    let facts = nodes_seen c.args.types.now c.args.facts.now in
    let number =
    number_is nodes surroundings facts c.args.handle c.number_of_label.result (Some c.args.switch) _ _ at c.in_ok-parts.ensures.label c.in_ok-parts.ensures.switched
    c.number_of_label.ensures in
    subst (λ front. StandsForLabels c.args.labels.now (front ++ read))
    (ap (numbered_label c.args.switch (part_token nodes c.args.handle 0)) (sym (number ∙ c.in-None.is))) stands
