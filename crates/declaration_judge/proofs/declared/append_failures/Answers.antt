use Rattle.std.proofs.Common.{ap, ◌++◌, ◌∙◌}
use Rattle.meaning_typing.specs.DeclarationRows.{hiding_declarator_failures, undeclared_failures}
use Rattle.meaning_typing.specs.Typing.{token_at}
use Rattle.meaning_typing.specs.WholeTyping.{differing_failures}
use Rattle.decl_judge.specs.Units.{nodes_of}
use Rattle.node_facts.specs.Facts.{declared_seen}
use Rattle.node_surroundings.specs.Seen.{surrounding_seen, surroundings_seen}
use Rattle.expr_judge.proofs.GrowthLemmas.{appended_both}
use Rattle.declaration_judge.specs.Kept.{facts_seen}
use Rattle.declaration_judge.proofs.LinkedLemmas.{are_linked}
use Rattle.declaration_judge.proofs.RowLemmas.{appends_one}
use Rattle.declaration_judge.proofs.declared.append_failures.Goals as goal

pub undeclared_failure-undeclared-requires-clause-linked : goal.undeclared_failure-undeclared-requires-clause-linked
undeclared_failure-undeclared-requires-clause-linked c = are_linked c.args.kept.now c.requires.kept.whole

pub returns : goal.returns
returns c =
    let nodes = nodes_of c.args.unit.now in
    let surroundings = surroundings_seen c.args.surroundings.now in
    let handle = c.args.handle in
    let kept = c.args.kept.now in
    let table = kept.types in
    let facts = facts_seen kept in
    let stands = surrounding_seen c.args.surrounding in
    let meant = declared_seen table c.args.declaration in
    let first = c.args.found.now in
    let second = c.append.new.found in
    let third = c.append-2.new.found in
    let last = c.append-3.new.found in
    let otherwise = differing_failures nodes surroundings facts handle stands meant in
    let undeclared = undeclared_failures nodes facts (token_at nodes handle) stands meant in
    let hiding = hiding_declarator_failures nodes surroundings facts handle stands meant in
    appended_both table first third last (otherwise ++ undeclared) hiding
    (appended_both table first second third otherwise undeclared
    (appends_one table first second c.in_ok-otherwise.otherwise otherwise c.in_ok-append.ensures c.in_ok-otherwise.ensures.listed
    c.in_ok-otherwise.ensures.known)
    (appends_one table second third c.undeclared_failure-undeclared.result undeclared c.in_ok-append-2.ensures
    (c.undeclared_failure-undeclared.ensures.listed ∙ ap (λ token. undeclared_failures nodes facts token stands meant) c.token_at-token.ensures)
    c.undeclared_failure-undeclared.ensures.known))
    (appends_one table third last c.hiding_declarator_failure-hiding.result hiding c.in_ok-append-3.ensures
    (c.hiding_declarator_failure-hiding.ensures.listed table) (c.hiding_declarator_failure-hiding.ensures.known table))
