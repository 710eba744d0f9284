-- Rows of expressions and statements that were taken over.
use Rattle.std.proofs.Common.{◌≡◌, List, [], ◌++◌, Result, Ok, Err, IfOk, OnOk, sym, subst, append-nil}
use Rattle.sparse_model.specs.declared.failure.Failure.{Failure}
use Rattle.meaning_typing.specs.Rows.{Row}
use Rattle.c_types.specs.Table.{TypeTable}
use Rattle.node_facts.specs.Growing.{TypesJoin}
use Rattle.expression_rows.specs.declared.row.Row as expr
use Rattle.expression_rows.specs.Arguments.{Appends, without_failures}
use Rattle.expression_rows.specs.Rows.{IsKnownRow, told}
use Rattle.expression_rows.specs.Rows as rows
use Rattle.expr_judge.specs.declared.row.NodeRow.{NodeRow}
use Rattle.expr_judge.specs.Rows.{Tells, listed_failures, node_row}
use Rattle.expr_judge.proofs.GrowthLemmas.{appended_both}
use Rattle.expr_judge.proofs.TellingLemmas.{tells_row}

module _ (old new : TypeTable) (join : TypesJoin old new) (before after : List Failure) (row : expr.Row) (meant : Row) (known : IsKnownRow new row) where
  pub row_taken : {E : Type 0} (result : Result NodeRow E) → IfOk result (λ taken. taken ≡ node_row row)
      → OnOk result (after ≡ before ++ listed_failures row.failures) → rows.row_seen new row ≡ told meant
      → IfOk result (λ taken. Tells old new before after taken meant)
  row_taken (Ok taken) same appended is =
      subst (λ (judged : NodeRow). Tells old new before after judged meant) (sym same) (tells_row old new row meant is known before after appended join)
  row_taken (Err fault) same appended is = tt

  -- a row of which the failures were appended before
  pub row_taken_behind : {E : Type 0} (result : Result NodeRow E) (between : List Failure) → Appends new before between meant.failures
      → IfOk result (λ taken. taken ≡ node_row row) → OnOk result (after ≡ between ++ listed_failures row.failures)
      → rows.row_seen new row ≡ told (without_failures meant) → IfOk result (λ taken. Tells old new before after taken meant)
  row_taken_behind (Ok taken) between found same appended is =
      let none = tells_row old new row (without_failures meant) is known between after appended join in
      subst (λ (judged : NodeRow). Tells old new before after judged meant) (sym same)
      (record {
        row = none.row;
        ids = none.ids;
        failures = subst (Appends new before after) (append-nil meant.failures) (appended_both new before between after meant.failures [] found none.failures);
        keeps = join;
      })
  row_taken_behind (Err fault) between found same appended is = tt
