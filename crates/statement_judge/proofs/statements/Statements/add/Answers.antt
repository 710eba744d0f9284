-- The node is one of those that were read.
use Rattle.std.proofs.Common.{◌≡◌, ◌+◌, ◌<◌, ◌++◌, List, sym, ap, subst, ◌∙◌}
use Rattle.std.proofs.lemmas.List.{length-map}
use Rattle.meaning_typing.specs.Facts.{Fact}
use Rattle.meaning_typing.specs.Surroundings.{Surrounding}
use Rattle.meaning_statements.specs.Above.{expressions_around, innermost}
use Rattle.meaning_statements.specs.Jumps.{gotos_if, labels_if, owner_of, switch_of}
use Rattle.meaning_statements.specs.StatementRows.{switch_labels_if}
use Rattle.decl_judge.specs.Units.{nodes_of}
use Rattle.node_facts.specs.Facts.{name_seen, node_seen, nodes_seen}
use Rattle.node_facts.proofs.GrowthLemmas.{nodes_later}
use Rattle.node_surroundings.specs.Seen.{surroundings_seen}
use Rattle.node_surroundings.proofs.UnitLemmas.{each_is_part_once}
use Rattle.statement_rows.specs.Labels.{StandsForLabels, StandsForNamed}
use Rattle.statement_judge.specs.declared.enclosing.Enclosing.{Enclosing}
use Rattle.statement_judge.specs.Gotos.{StandsForGotos}
use Rattle.statement_judge.specs.Statements.{IsKeptOf}
use Rattle.statement_judge.proofs.StatementLemmas.{kept_more}
use Rattle.statement_judge.proofs.statements.Statements.add.Goals as goal

pub returns-clause-kept : goal.returns-clause-kept
returns-clause-kept c =
    let unit = c.args.unit.now in
    let nodes = nodes_of unit in
    let surroundings = surroundings_seen c.args.surroundings.now in
    let handle = c.args.handle in
    let old = c.args.types.now in
    let types = c.keep_switch_label.new.types in
    let facts = nodes_seen old c.args.facts.now in
    let kept = c.requires.kept in
    let each = each_is_part_once name_seen unit c.requires.whole c.requires.laid c.each_node_stands_for_one_tree.ensures.order in
    let kind = c.kind_at-kind.ensures in
    let above = c.above-above.ensures nodes surroundings kept.nesting in
    let switch : c.above-above.result.switch ≡ switch_of nodes surroundings handle = ap (λ (a : Enclosing). a.switch) above in
    let inside : c.above-above.result.innermost ≡ innermost (expressions_around nodes surroundings handle) = ap (λ (a : Enclosing). a.innermost) above in
    let owner : c.owner-owner.result ≡ owner_of nodes surroundings handle =
    c.owner-owner.ensures nodes surroundings kept.nesting (sym (ap (λ (s : Surrounding). s.around.function) c.get.ensures.seen)) in
    subst (λ (all : List Fact).
    IsKeptOf nodes surroundings all (handle + 1)
    (record {
      nesting = c.args.self.now.nesting;
      switch_labels = c.keep_switch_label.new.labels;
      labels = c.keep_label.new.labels;
      gotos = c.keep_goto.new.gotos;
    }))
    (sym (nodes_later old types c.in_ok-keep_switch_label.ensures.keeps c.args.facts.now c.requires.ids))
    (kept_more nodes surroundings facts handle (length-map c.args.facts.now (node_seen old) ∙ c.requires.next) c.requires.order
    (λ at child is. each.before handle at child is) c.args.self.now kept c.keep_switch_label.new.labels c.keep_label.new.labels c.keep_goto.new.gotos
    (λ read stands.
    subst (λ front. StandsForLabels c.keep_switch_label.new.labels (front ++ read))
    (λ i. switch_labels_if nodes surroundings facts handle (kind i) (switch i))
    (c.in_ok-keep_switch_label.ensures.joins surroundings (sym switch) read stands))
    (λ read stands.
    subst (λ front. StandsForNamed c.keep_label.new.labels (front ++ read))
    (λ i. labels_if nodes surroundings handle (kind i) (owner i))
    (c.in_ok-keep_label.ensures surroundings (sym inside) read stands))
    (λ read stands.
    subst (λ front. StandsForGotos (expressions_around nodes surroundings) c.keep_goto.new.gotos (front ++ read))
    (λ i. gotos_if nodes surroundings handle (kind i) (owner i))
    (c.in_ok-keep_goto.ensures surroundings read stands)))
