-- Rows that break at most one constraint, and say nothing else.
use Rattle.std.proofs.Common.{◌≡◌, List, [], Option, None, Result, IfOk, option_map, refl, sym, ap, subst, ◌∙◌}
use Rattle.std.proofs.lemmas.Result.{IfOk-weaker}
use Rattle.meaning_operands.specs.Failures.{Broken}
use Rattle.meaning_rules.specs.Rules.{least_broken}
use Rattle.meaning_typing.specs.Facts.{Unknown}
use Rattle.meaning_typing.specs.Rows as meaning
use Rattle.meaning_typing.specs.Rows.{breaks, nothing}
use Rattle.c_types.specs.Table.{TypeTable}
use Rattle.expression_rows.specs.declared.row.Broken as code
use Rattle.expression_rows.specs.declared.row.Row.{Row}
use Rattle.expression_rows.specs.Rows.{IsKnownRow, Told, broken_row, broken_seen, no_failures, row_seen}
use Rattle.node_facts.proofs.GrowthLemmas.{joins_none}
use Rattle.statement_judge.specs.Rows.{Says}

abbrev told_broken : Option Broken → Told
told_broken broken = record { fact = Unknown; broken = broken; failures = []; passed = [] }

pub says_broken : (table : TypeTable) (said : Row) (broken : Option code.Broken) (meant : List Broken) → said ≡ broken_row broken no_failures
    → option_map broken_seen broken ≡ least_broken meant → Says table table said (breaks meant)
says_broken table said broken meant is least = record {
  row = ap (row_seen table) is ∙ ap told_broken least;
  known = subst (IsKnownRow table) (sym is) (record { fact = tt; first = tt; second = tt });
  keeps = joins_none table;
}

pub says_nothing : (table : TypeTable) (said : Row) → said ≡ broken_row None no_failures → Says table table said nothing
says_nothing table said is = says_broken table said None [] is refl

-- the same of a row that is meant otherwise
pub says_same : {E : Type 0} (old new : TypeTable) (result : Result Row E) (meant other : meaning.Row) → meant ≡ other
    → IfOk result (λ row. Says old new row meant) → IfOk result (λ row. Says old new row other)
says_same old new result meant other same it =
    IfOk-weaker result (λ row. Says old new row meant) (λ row. Says old new row other) (λ row one. subst (Says old new row) same one) it
