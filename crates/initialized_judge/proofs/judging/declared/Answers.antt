-- What is declared, with the failure of its completed type; or nothing.
use Rattle.std.proofs.Common.{◌≡◌, List, [], sym, ap, subst, ◌∙◌}
use Rattle.meaning_initialized.specs.Rows.{completed_otherwise}
use Rattle.meaning_operands.specs.Failures as meaning
use Rattle.meaning_typing.specs.Facts.{Fact, Declared, fact_at}
use Rattle.c_types.specs.Table.{type_at}
use Rattle.decl_judge.specs.Units.{nodes_of}
use Rattle.decl_judge.proofs.AskedLemmas.{seen_at}
use Rattle.declaration_judge.specs.Kept.{facts_seen}
use Rattle.declaration_judge.proofs.RowLemmas.{appends_one}
use Rattle.expression_rows.specs.Arguments.{Appends}
use Rattle.node_facts.specs.Facts.{declared_seen, node_seen}
use Rattle.node_surroundings.specs.Seen.{surroundings_seen}
use Rattle.initialized_judge.proofs.JudgingLemmas.{appends_none, none_otherwise}
use Rattle.initialized_judge.proofs.ObjectLemmas.{declared_is}
use Rattle.initialized_judge.proofs.judging.declared.Goals as goal

pub returns-in_ok-append-in-Some-clause-failures : goal.returns-in_ok-append-in-Some-clause-failures
returns-in_ok-append-in-Some-clause-failures c =
    let kept = c.args.kept.now in
    let table = kept.types in
    let declaration = c.in-Some.declaration in
    let known : fact_at (facts_seen kept) c.args.declarator ≡ Declared (declared_seen table declaration) =
    sym (seen_at table kept.facts c.args.declarator)
    ∙ ap (node_seen table) (sym c.at.ensures ∙ declared_is c.at.result declaration (sym c.declaration_of.ensures ∙ c.in-Some.is)) in
    subst
    (λ (fact : Fact).
    Appends table c.args.found.now c.append.new.found
    (completed_otherwise (nodes_of c.args.unit.now) (surroundings_seen c.args.surroundings.now) (facts_seen kept) c.args.declarator
    (type_at table c.args.complete) fact))
    (sym known)
    (appends_one table c.args.found.now c.append.new.found c.in_ok-otherwise-in-Some.otherwise _ c.in_ok-append-in-Some.ensures
    c.in_ok-otherwise-in-Some.ensures.listed c.in_ok-otherwise-in-Some.ensures.known)

pub returns-in-None-clause-failures : goal.returns-in-None-clause-failures
returns-in-None-clause-failures c =
    let kept = c.args.kept.now in
    let table = kept.types in
    let nodes = nodes_of c.args.unit.now in
    let surroundings = surroundings_seen c.args.surroundings.now in
    let complete = type_at table c.args.complete in
    let none : completed_otherwise nodes surroundings (facts_seen kept) c.args.declarator complete (fact_at (facts_seen kept) c.args.declarator) ≡ [] =
    ap (completed_otherwise nodes surroundings (facts_seen kept) c.args.declarator complete)
    (sym (seen_at table kept.facts c.args.declarator) ∙ ap (node_seen table) (sym c.at.ensures))
    ∙ none_otherwise table nodes surroundings (facts_seen kept) c.args.declarator complete c.at.result (sym c.declaration_of.ensures ∙ c.in-None.is) in
    subst (λ (meant : List meaning.Failure). Appends table c.args.found.now c.args.found.now meant) (sym none) (appends_none table c.args.found.now)
