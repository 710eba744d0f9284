-- The row of what is loaded, by the row that an expression has by itself.
use Rattle.std.proofs.Common.{◌≡◌, ◌≢◌, ℕ, List, [], ◌++◌, refl, sym, ap, ◌∙◌, append-nil}
use Rattle.sparse_model.specs.declared.failure.Failure.{Failure}
use Rattle.meaning_layout.specs.Sizes.{Told}
use Rattle.meaning_operands.specs.Failures.{Broken}
use Rattle.meaning_typing.specs.Facts.{Fact}
use Rattle.meaning_typing.specs.Rows.{Row}
use Rattle.meaning_typing.specs.Surroundings.{Want, ForValue}
use Rattle.meaning_typing.specs.Wholes.{and_breaks, incomplete_at, loaded_broken, row_loaded}
use Rattle.meaning_rules.specs.Rules.{least_broken, least_token}
use Rattle.c_types.specs.Layouts.{told_in}
use Rattle.c_types.specs.Table.{TypeTable}
use Rattle.node_facts.specs.declared.expression.ExpressionFact.{ExpressionFact}
use Rattle.node_facts.specs.declared.fact.NodeFact.{NodeFact}
use Rattle.node_facts.specs.declared.fact.NodeFact.TheVariants as facts
use Rattle.node_facts.specs.Facts.{IsKnownNodeFact, node_seen}
use Rattle.expr_judge.specs.declared.row.NodeRow.{NodeRow}
use Rattle.expr_judge.specs.Rows.{Tells, row_kept, row_seen}
use Rattle.member_rows.specs.Aggregates.{aggregates_in}
use Rattle.member_rows.proofs.AggregateLemmas.{told_is}

-- what a load asks of a row
abbrev pub asked_of : Row → Row
asked_of row = record { fact = row.fact; broken = row.broken; failures = []; passed = [] }

wanted_or_not : (told : Told) (token : ℕ) (want : Want) (fact : Fact) → incomplete_at told token fact ≡ [] → loaded_broken told token want fact ≡ []
wanted_or_not told token ForValue fact none = none
wanted_or_not told token want fact none = refl

-- of what is no expression nothing is loaded
module _ (table : TypeTable) (told : Told) (token : ℕ) (want : Want) where
  none_loaded : (fact : NodeFact) → ((expression : ExpressionFact) → fact ≢ facts.Expression expression) → loaded_broken told token want (node_seen table fact) ≡ []
  none_loaded facts.Unknown other = wanted_or_not told token want _ refl
  none_loaded (facts.Expression expression) other = absurd (other expression refl)
  none_loaded (facts.Specified specifiers) other = wanted_or_not told token want _ refl
  none_loaded (facts.Declared declaration) other = wanted_or_not told token want _ refl
  none_loaded (facts.NamedType of) other = wanted_or_not told token want _ refl

  none_more : (row : Row) (broken : List Broken) → broken ≡ [] → row_kept row ≡ row_kept (and_breaks row broken)
  none_more row broken none =
      (λ i. record { fact = row.fact; broken = least_broken (sym (append-nil row.broken) i); passed = least_token row.passed })
      ∙ ap (λ more. row_kept (and_breaks row more)) (sym none)

  pub stays : (fact : NodeFact) (row : Row) → ((expression : ExpressionFact) → fact ≢ facts.Expression expression) → node_seen table fact ≡ row.fact
      → row_kept row ≡ row_kept (row_loaded told token want row)
  stays fact row other is =
      none_more row (loaded_broken told token want row.fact) (ap (loaded_broken told token want) (sym is) ∙ none_loaded fact other)

-- a row whose failures were appended before
pub tells_loaded :
    (old new : TypeTable) (before after : List Failure) (said judged : NodeRow) (meant : Row) (token : ℕ) (want : Want)
    → Tells old new before after said meant → row_seen new judged ≡ row_kept (row_loaded (told_in new) token want meant) → IsKnownNodeFact new judged.fact
    → Tells old new before after judged (row_loaded (aggregates_in old).told token want meant)
tells_loaded old new before after said judged meant token want tells is known =
    record {
      row = is ∙ ap (λ (told : Told). row_kept (row_loaded told token want meant)) (tells.keeps.layouts ∙ sym (told_is old));
      ids = known;
      failures = tells.failures;
      keeps = tells.keeps;
    }
