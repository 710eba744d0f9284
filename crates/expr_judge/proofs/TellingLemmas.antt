-- What is told of a row, as it is kept.
use Rattle.std.proofs.Common.{◌≡◌, List, [], ◌++◌, All, Option, Some, None, IfSome, Result, Ok, Err, IfOk, OnOk, map, refl, sym, ap, ap₂, subst, ◌∙◌, append-nil}
use Rattle.std.proofs.lemmas.List.{map-append}
use Rattle.std.proofs.lemmas.Result.{IfOk-weaker}
use Rattle.std.proofs.lemmas.List.Elements.{All-append, All-cons, All-nil}
use Rattle.sparse_model.specs.declared.failure.Failure.{Failure}
use Rattle.meaning_typing.specs.Rows.{Row}
use Rattle.expression_rows.specs.Rules.{least_token}
use Rattle.c_types.specs.Table.{TypeTable}
use Rattle.node_facts.specs.declared.expression.ExpressionFact.{ExpressionFact}
use Rattle.node_facts.specs.Facts.{IsKnownNodeFact, node_seen}
use Rattle.node_facts.specs.Growing.{TypesJoin}
use Rattle.expression_rows.specs.declared.row.Row as expr
use Rattle.expression_rows.specs.Arguments.{listed_failure}
use Rattle.expression_rows.specs.Facts.{IsKnownPart, part_seen}
use Rattle.expression_rows.specs.Rows.{IsKnownFailure, IsKnownRow, Told, failure_listed, failure_seen, told}
use Rattle.expression_rows.specs.Rows as rows
use Rattle.expr_judge.specs.declared.row.NodeRow.{NodeRow}
use Rattle.expr_judge.specs.Rows.{SaysOnly, Tells, fact_of_part, listed_failures, node_row, row_kept, row_seen}

pub fact-is : (table : TypeTable) (part : Option ExpressionFact) → node_seen table (fact_of_part part) ≡ part_seen table part
fact-is table None = refl
fact-is table (Some expression) = refl

pub fact_known : (table : TypeTable) (part : Option ExpressionFact) → IsKnownPart table part → IsKnownNodeFact table (fact_of_part part)
fact_known table None known = tt
fact_known table (Some expression) known = known

pub one_listed : (table : TypeTable) (failure : Option Failure) → map (failure_seen table) (listed_failure failure) ≡ failure_listed table failure
one_listed table None = refl
one_listed table (Some failure) = refl

pub one_known : (table : TypeTable) (failure : Option Failure) → IfSome failure (IsKnownFailure table) → All (IsKnownFailure table) (listed_failure failure)
one_known table None known = All-nil (IsKnownFailure table)
one_known table (Some failure) known = All-cons (IsKnownFailure table) failure [] known (All-nil (IsKnownFailure table))

module _ (old new : TypeTable) (row : expr.Row) (meant : Row) (is : rows.row_seen new row ≡ told meant) (known : IsKnownRow new row) where
  abbrev table : TypeTable
  table = new

  row-kept : row_seen table (node_row row) ≡ row_kept meant
  row-kept = λ i. record { fact = (fact-is table row.fact ∙ ap (λ (t : Told). t.fact) is) i; broken = (is i).broken; passed = least_token (is i).passed }

  -- a row whose failures are appended
  pub tells_row : (before after : List Failure) → after ≡ before ++ listed_failures row.failures → TypesJoin old new
      → Tells old new before after (node_row row) meant
  tells_row before after appended join =
      record {
        row = row-kept;
        ids = fact_known table row.fact known.fact;
        failures = (
          listed_failures row.failures,
          appended,
          map-append (failure_seen table) (listed_failure row.failures.first) (listed_failure row.failures.second)
              ∙ ap₂ (λ a b. a ++ b) (one_listed table row.failures.first) (one_listed table row.failures.second)
              ∙ ap (λ (t : Told). t.failures) is,
          All-append (IsKnownFailure table) (listed_failure row.failures.first) (listed_failure row.failures.second)
              (one_known table row.failures.first known.first) (one_known table row.failures.second known.second),
        );
        keeps = join;
      }

-- a row by which no rule fails
pub tells_only : (old new : TypeTable) (found : List Failure) (row : NodeRow) (meant : Row) → SaysOnly new row meant → TypesJoin old new
    → Tells old new found found row meant
tells_only old new found row meant says join =
    record {
      row = says.row;
      ids = says.ids;
      failures = ([], sym (append-nil found), sym says.silent, All-nil (IsKnownFailure new));
      keeps = join;
    }

-- Answers that may be want of memory

module _ {E : Type 0} (old new : TypeTable) (result : Result NodeRow E) (meant other : Row) (same : meant ≡ other) where
  -- a row that is another one's too
  pub told_as : (before after : List Failure) → IfOk result (λ row. Tells old new before after row meant) → IfOk result (λ row. Tells old new before after row other)
  told_as before after tells =
      IfOk-weaker result (λ row. Tells old new before after row meant) (λ row. Tells old new before after row other)
      (λ row it. subst (Tells old new before after row) same it) tells

  pub told_only : (found : List Failure) → IfOk result (λ row. SaysOnly new row meant) → OnOk result (TypesJoin old new)
      → IfOk result (λ row. Tells old new found found row other)
  told_only found says join = told_as found found (by result says join)
    where
      by : (answer : Result NodeRow E) → IfOk answer (λ row. SaysOnly new row meant) → OnOk answer (TypesJoin old new)
          → IfOk answer (λ row. Tells old new found found row meant)
      by (Ok row) says join = tells_only old new found row meant says join
      by (Err fault) says join = tt
