use Rattle.std.proofs.Common.{sym, ap, subst, ◌∙◌}
use Rattle.meaning_rules.specs.Rules.{least_broken}
use Rattle.meaning_typing.specs.DeclarationRows.{parameter_node_broken}
use Rattle.meaning_typing.specs.Declarators.{named_if, parameter_fact, parameter_type}
use Rattle.meaning_typing.specs.Rows.{known}
use Rattle.c_types.specs.Layouts.{told_in}
use Rattle.decl_judge.specs.Units.{nodes_of}
use Rattle.node_facts.specs.Facts.{IsKnownNodeFact, nodes_seen}
use Rattle.node_facts.proofs.GrowthLemmas.{nodes_known, nodes_later}
use Rattle.node_surroundings.specs.Seen.{surroundings_seen}
use Rattle.expr_judge.specs.declared.row.NodeRow.{NodeRow}
use Rattle.declaration_judge.proofs.RowLemmas.{says_known, says_more}
use Rattle.declaration_judge.proofs.parameters.parameter.Goals as goal

pub parameter_node_broken-requires-clause-facts : goal.parameter_node_broken-requires-clause-facts
parameter_node_broken-requires-clause-facts c =
    nodes_known c.args.types.now c.parameter_type.new.types c.in_ok-of.ensures.keeps c.args.facts.now c.requires.facts

pub returns-clause-says : goal.returns-clause-says
returns-clause-says c =
    let nodes = nodes_of c.args.unit.now in
    let surroundings = surroundings_seen c.args.surroundings.now in
    let handle = c.args.handle in
    let old = c.args.types.now in
    let new = c.parameter_type.new.types in
    let join = c.in_ok-of.ensures.keeps in
    let facts = nodes_seen old c.args.facts.now in
    let fact = c.named_if.result in
    let id = c.named_if.ensures.known new c.in_ok-of.ensures.known in
    says_more new c.known.result c.and_breaks.result c.in_ok-broken.broken (known (parameter_fact nodes facts handle))
    (parameter_node_broken (told_in old) nodes surroundings facts handle (parameter_type nodes facts handle)) (c.and_breaks.ensures.seen new)
    (c.in_ok-broken.ensures
    ∙ (λ i. least_broken
    (parameter_node_broken (join.layouts i) nodes surroundings (nodes_later old new join c.args.facts.now c.requires.facts i) handle
    (c.in_ok-of.ensures.made i))))
    (says_known new c.known.result fact (parameter_fact nodes facts handle) c.known.ensures
    (c.named_if.ensures.seen new ∙ ap named_if c.in_ok-of.ensures.made) id)
    (c.and_breaks.ensures.known new (subst (λ (row : NodeRow). IsKnownNodeFact new row.fact) (sym c.known.ensures) id))
