-- Rows one after the other: that of a node, that of its statement, and its access.
use Rattle.std.proofs.Common.{◌≡◌, ◌≢◌, ℕ, ◌++◌, List, option_map, refl, sym, ap, ap₂, subst, ◌∙◌}
use Rattle.vocabulary.specs.declared.node_kind.NodeKind.{NodeKind}
use Rattle.vocabulary.specs.declared.node_kind.NodeKind.TheVariants as kinds
use Rattle.sparse_model.specs.declared.failure.Failure.{Failure}
use Rattle.meaning_judgements.specs.UnitRows.{row_by_statement, unit_row_at, with_statement}
use Rattle.meaning_rules.specs.Rules.{lesser}
use Rattle.meaning_statements.specs.StatementRows.{statement_row_at}
use Rattle.meaning_typing.specs.Facts.{Fact}
use Rattle.meaning_layout.specs.Sizes.{Told}
use Rattle.meaning_initialized.specs.Initialized.{Initialized, NoObject, initialized_by}
use Rattle.meaning_initialized.specs.Rows.{IsInitializingRow, IsRowOf}
use Rattle.meaning_typing.specs.MemberRows.{aggregates_before}
use Rattle.meaning_typing.specs.Rows.{Row, nothing}
use Rattle.meaning_units.specs.UnitRows.{IsUnitRow, row_by_initializer}
use Rattle.meaning_typing.specs.Surroundings.{Surrounding, surrounding_at}
use Rattle.meaning_typing.specs.Typing.{access_failures, token_at}
use Rattle.meaning_typing.specs.Units.{UnitNodes, kind_at}
use Rattle.meaning_typing.specs.WholeTyping.{whole_row_at}
use Rattle.c_types.specs.Table.{TypeTable}
use Rattle.node_facts.specs.Facts.{IsKnownNodeFact, node_seen}
use Rattle.node_facts.proofs.GrowthLemmas.{joins_on, node_known, node_later}
use Rattle.expression_rows.specs.Arguments.{Appends}
use Rattle.expression_rows.specs.Rows.{broken_seen}
use Rattle.expr_judge.specs.declared.row.NodeRow.{NodeRow}
use Rattle.expr_judge.specs.Rows.{KeptRow, Tells}
use Rattle.expr_judge.proofs.GrowthLemmas.{appended_both, appended_later}
use Rattle.type_judge.specs.Rows.{accessed, row_with_statement}
use Rattle.type_judge.proofs.LeastLemmas.{least_both}

-- By kinds

besides : (kind : NodeKind) (row statement : Row) → kind ≢ kinds.ReturnStatement → with_statement row statement ≡ row_by_statement kind row statement
besides kinds.ReturnStatement row statement other = absurd (other refl)
besides kind row statement other = refl

no_initializer : (kind : NodeKind) (row : Row) → kind ≢ kinds.CompoundLiteral → kind ≢ kinds.Initializer → row ≡ row_by_initializer kind row nothing
no_initializer kinds.CompoundLiteral row literal other = absurd (literal refl)
no_initializer kinds.Initializer row literal other = absurd (other refl)
no_initializer kind row literal other = refl

no_object : (told : Told) (nodes : UnitNodes) (surroundings : List Surrounding) (facts : List Fact) (handle : ℕ) (kind : NodeKind)
    → kind ≢ kinds.CompoundLiteral → kind ≢ kinds.Initializer → NoObject ≡ initialized_by told nodes surroundings facts handle kind
no_object told nodes surroundings facts handle kinds.CompoundLiteral literal other = absurd (literal refl)
no_object told nodes surroundings facts handle kinds.Initializer literal other = absurd (other refl)
no_object told nodes surroundings facts handle kind literal other = refl

module _ (nodes : UnitNodes) (surroundings : List Surrounding) (earlier : List Fact) (handle : ℕ) where
  abbrev told : Told
  told = (aggregates_before nodes surroundings earlier).told

  abbrev own : Row
  own = unit_row_at nodes surroundings earlier handle

  -- of a node that initializes nothing
  unit_only : kind_at nodes handle ≢ kinds.CompoundLiteral → kind_at nodes handle ≢ kinds.Initializer → IsUnitRow nodes surroundings earlier handle own
  unit_only literal other = (
    nothing,
    subst (λ (what : Initialized). IsRowOf told nodes surroundings earlier handle what nothing)
        (no_object told nodes surroundings earlier handle (kind_at nodes handle) literal other) refl,
    no_initializer (kind_at nodes handle) own literal other,
  )

  -- of `return` the row of the statement is that of the node
  pub return_alone : (kind : NodeKind) → kind_at nodes handle ≡ kind → kind ≡ kinds.ReturnStatement
      → IsUnitRow nodes surroundings earlier handle (statement_row_at nodes surroundings earlier handle)
  return_alone kind same is =
      let this = same ∙ is in
      subst (IsUnitRow nodes surroundings earlier handle)
      (ap (λ (k : NodeKind). row_by_statement k (whole_row_at nodes surroundings earlier handle) (statement_row_at nodes surroundings earlier handle)) this)
      (unit_only (λ that. return_is_none (sym this ∙ that)) (λ that. return_is_no_other (sym this ∙ that)))
    where
      return_is_none : kinds.ReturnStatement ≡ kinds.CompoundLiteral → ⊥
      return_is_none that = absurd (cc that)

      return_is_no_other : kinds.ReturnStatement ≡ kinds.Initializer → ⊥
      return_is_no_other that = absurd (cc that)

  -- of another node both are
  pub both_rows : (kind : NodeKind) → kind_at nodes handle ≡ kind → kind ≢ kinds.ReturnStatement → kind ≢ kinds.CompoundLiteral → kind ≢ kinds.Initializer
      → IsUnitRow nodes surroundings earlier handle (row_with_statement nodes surroundings earlier handle)
  both_rows kind same other literal initializer =
      subst (IsUnitRow nodes surroundings earlier handle)
      (sym
      (besides kind (whole_row_at nodes surroundings earlier handle) (statement_row_at nodes surroundings earlier handle) other
      ∙ ap (λ (k : NodeKind). row_by_statement k (whole_row_at nodes surroundings earlier handle) (statement_row_at nodes surroundings earlier handle))
      (sym same)))
      (unit_only (λ that. literal (sym same ∙ that)) (λ that. initializer (sym same ∙ that)))

  -- of a node that initializes something it is told by that
  pub literal_row : (kind : NodeKind) → kind_at nodes handle ≡ kind → kind ≡ kinds.CompoundLiteral → (row : Row)
      → IsInitializingRow told nodes surroundings earlier handle row → IsUnitRow nodes surroundings earlier handle row
  literal_row kind same is row initializes = (row, initializes, ap (λ (k : NodeKind). row_by_initializer k own row) (sym (same ∙ is)))

  pub initializer_row : (kind : NodeKind) → kind_at nodes handle ≡ kind → kind ≡ kinds.Initializer → (row : Row)
      → IsInitializingRow told nodes surroundings earlier handle row → IsUnitRow nodes surroundings earlier handle row
  initializer_row kind same is row initializes = (row, initializes, ap (λ (k : NodeKind). row_by_initializer k own row) (sym (same ∙ is)))

-- A row, and what a statement breaks and which rules fail there besides
module _ (first second third : TypeTable) (before between after : List Failure) (row statement both : NodeRow) (meant also : Row)
    (tells : Tells first second before between row meant) (adds : Tells second third between after statement also) where
  pub tells_both :
      both.fact ≡ row.fact
      → option_map broken_seen both.broken ≡ lesser (option_map broken_seen row.broken) (option_map broken_seen statement.broken)
      → both.passed ≡ row.passed → Tells first third before after both (with_statement meant also)
  tells_both same least passed =
      let fact : node_seen third both.fact ≡ meant.fact =
      ap (node_seen third) same ∙ node_later second third adds.keeps row.fact tells.ids ∙ ap (λ (r : KeptRow). r.fact) tells.row in
      let broken = least ∙ ap₂ lesser (ap (λ (r : KeptRow). r.broken) tells.row) (ap (λ (r : KeptRow). r.broken) adds.row)
      ∙ sym (least_both meant.broken also.broken) in
      let limit = passed ∙ ap (λ (r : KeptRow). r.passed) tells.row in
      record {
        row = λ i. record { fact = fact i; broken = broken i; passed = limit i };
        ids = subst (IsKnownNodeFact third) (sym same) (node_known second third adds.keeps row.fact tells.ids);
        failures =
            appended_both third before between after meant.failures also.failures
            (appended_later second third adds.keeps before between meant.failures tells.failures) adds.failures;
        keeps = joins_on first second third tells.keeps adds.keeps;
      }

-- and the failure of its access
module _ (nodes : UnitNodes) (surroundings : List Surrounding) (handle : ℕ) (old new : TypeTable) (before between after : List Failure) (row : NodeRow) (meant : Row)
    (tells : Tells old new before between row meant) where
  pub tells_accessed :
      Appends new between after (access_failures (token_at nodes handle) (surrounding_at surroundings handle) (node_seen new row.fact))
      → Tells old new before after row (accessed nodes surroundings handle meant)
  tells_accessed accesses =
      let own = meant.failures in
      let fact : node_seen new row.fact ≡ meant.fact = ap (λ (r : KeptRow). r.fact) tells.row in
      record {
        row = tells.row;
        ids = tells.ids;
        failures =
            subst
            (λ (f : Fact). Appends new before after (own ++ access_failures (token_at nodes handle) (surrounding_at surroundings handle) f)) fact
            (appended_both new before between after own _ tells.failures accesses);
        keeps = tells.keeps;
      }
