-- Of a declarator, since the node is no compound literal.
use Rattle.std.proofs.Common.{◌≢◌, List, OnOk, sym, ap, subst, ◌∙◌}
use Rattle.std.proofs.lemmas.Result.{IfOk-weaker}
use Rattle.vocabulary.specs.declared.node_kind.NodeKind.TheVariants as kinds
use Rattle.meaning_initialized.specs.Initialized.{declarator_before}
use Rattle.meaning_initialized.specs.Rows.{completed_otherwise, declared_complete}
use Rattle.meaning_operands.specs.Failures as meaning
use Rattle.meaning_typing.specs.Facts.{fact_at}
use Rattle.meaning_typing.specs.Units.{kind_at}
use Rattle.c_types.specs.Table.{type_at}
use Rattle.decl_judge.specs.Units.{nodes_of}
use Rattle.declaration_judge.specs.Kept.{facts_seen}
use Rattle.expression_rows.specs.Arguments.{Appends}
use Rattle.node_surroundings.specs.Seen.{surroundings_seen}
use Rattle.initialized_judge.proofs.RowLemmas.{fact_declared, failures_declared}
use Rattle.initialized_judge.proofs.judging.completed.Goals as goal

pub returns-in_default : goal.returns-in_default
returns-in_default c =
    let nodes = nodes_of c.args.unit.now in
    let surroundings = surroundings_seen c.args.surroundings.now in
    let handle = c.args.handle in
    let table = c.args.kept.now.types in
    let known = facts_seen c.args.kept.now in
    let complete = type_at table c.args.complete in
    let found = c.declarator_before-declarator.ensures ∙ ap (declarator_before nodes) c.requires.stands in
    let other : kind_at nodes handle ≢ kinds.CompoundLiteral = λ is. c.in_default.not-CompoundLiteral (c.kind_at.ensures ∙ is) in
    record {
      fact =
          IfOk-weaker c.declared.result _ _
          (λ fact is.
          is ∙ ap (λ h. declared_complete complete (fact_at known h)) found
          ∙ sym (fact_declared nodes surroundings known handle c.args.is_static complete (kind_at nodes handle) other))
          c.declared.ensures.fact;
      known = c.declared.ensures.known;
      failures =
          subst (λ (meant : List meaning.Failure). OnOk c.declared.result (Appends table c.args.found.now c.declared.new.found meant))
          (ap (λ h. completed_otherwise nodes surroundings known h complete (fact_at known h)) found
          ∙ sym (failures_declared nodes surroundings known handle c.args.is_static complete (kind_at nodes handle) other))
          c.declared.ensures.failures;
    }
