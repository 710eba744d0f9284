-- Rows of nodes that have no constant, as they are loaded.
use Rattle.std.proofs.Common.{◌≡◌, ◌≢◌, ℕ, List, [], ◌++◌, None, refl, sym, ap, subst, ◌∙◌, append-nil}
use Rattle.sparse_model.specs.declared.failure.Failure.{Failure}
use Rattle.meaning_layout.specs.Sizes.{Told}
use Rattle.meaning_operands.specs.Failures.{Broken}
use Rattle.meaning_typing.specs.Facts.{Fact}
use Rattle.meaning_typing.specs.Rows.{Row}
use Rattle.meaning_typing.specs.Surroundings.{Want, ForValue}
use Rattle.meaning_typing.specs.Typing.{row_with_constant, with_constant}
use Rattle.meaning_typing.specs.Wholes.{and_breaks, incomplete_at, loaded_broken, row_loaded}
use Rattle.meaning_rules.specs.Rules.{least_broken, least_token}
use Rattle.c_types.specs.Layouts.{told_in}
use Rattle.c_types.specs.Table.{TypeTable}
use Rattle.node_facts.specs.declared.expression.ExpressionFact.{ExpressionFact}
use Rattle.node_facts.specs.declared.fact.NodeFact.{NodeFact}
use Rattle.node_facts.specs.declared.fact.NodeFact.TheVariants as facts
use Rattle.node_facts.specs.Facts.{IsKnownNodeFact, node_seen}
use Rattle.expr_judge.specs.declared.row.NodeRow.{NodeRow}
use Rattle.expr_judge.specs.Rows.{Tells, row_kept, row_seen}

-- what a load asks of a row
abbrev pub asked_of : Row → Row
asked_of row = record { fact = row.fact; broken = row.broken; failures = []; passed = [] }

wanted_or_not : (told : Told) (token : ℕ) (want : Want) (fact : Fact) → incomplete_at told token fact ≡ [] → loaded_broken told token want fact ≡ []
wanted_or_not told token ForValue fact none = none
wanted_or_not told token want fact none = refl

none_more : (row : Row) (broken : List Broken) → broken ≡ [] → row_kept row ≡ row_kept (and_breaks row broken)
none_more row broken none =
    (λ i. record { fact = row.fact; broken = least_broken (sym (append-nil row.broken) i); passed = least_token row.passed })
    ∙ ap (λ more. row_kept (and_breaks row more)) (sym none)

-- only an expression has a constant, and is loaded
module _ (table : TypeTable) (told : Told) (token : ℕ) (want : Want) where
  no_constant : (fact : NodeFact) → ((expression : ExpressionFact) → fact ≢ facts.Expression expression)
      → with_constant None (node_seen table fact) ≡ node_seen table fact
  no_constant facts.Unknown other = refl
  no_constant (facts.Expression expression) other = absurd (other expression refl)
  no_constant (facts.Specified specifiers) other = refl
  no_constant (facts.Declared declaration) other = refl
  no_constant (facts.NamedType of) other = refl

  none_loaded : (fact : NodeFact) → ((expression : ExpressionFact) → fact ≢ facts.Expression expression) → loaded_broken told token want (node_seen table fact) ≡ []
  none_loaded facts.Unknown other = wanted_or_not told token want _ refl
  none_loaded (facts.Expression expression) other = absurd (other expression refl)
  none_loaded (facts.Specified specifiers) other = wanted_or_not told token want _ refl
  none_loaded (facts.Declared declaration) other = wanted_or_not told token want _ refl
  none_loaded (facts.NamedType of) other = wanted_or_not told token want _ refl

  pub stays_so : (row : NodeRow) (stands : Row) → ((expression : ExpressionFact) → row.fact ≢ facts.Expression expression)
      → row_seen table row ≡ row_kept stands → row_seen table row ≡ row_kept (row_loaded told token want (row_with_constant None stands))
  stays_so row stands other seen =
      let is : node_seen table row.fact ≡ stands.fact = ap (λ kept. kept.fact) seen in
      let plain : stands.fact ≡ with_constant None stands.fact =
      subst (λ (fact : Fact). fact ≡ with_constant None fact) is (sym (no_constant row.fact other)) in
      seen
      ∙ ap (λ (fact : Fact). row_kept (record stands { fact = fact })) plain
      ∙ none_more (row_with_constant None stands) (loaded_broken told token want (with_constant None stands.fact))
      (ap (loaded_broken told token want) (sym (is ∙ plain)) ∙ none_loaded row.fact other)

-- a row whose failures were appended before
pub tells_loaded :
    (old new : TypeTable) (before after : List Failure) (said judged : NodeRow) (own : Row) (told : Told) (token : ℕ) (want : Want) → told ≡ told_in old
    → Tells old new before after said own → row_seen new judged ≡ row_kept (row_loaded (told_in new) token want (row_with_constant None own))
    → IsKnownNodeFact new judged.fact → Tells old new before after judged (row_loaded told token want (row_with_constant None own))
tells_loaded old new before after said judged own told token want same tells is known =
    record {
      row = is ∙ ap (λ (sizes : Told). row_kept (row_loaded sizes token want (row_with_constant None own))) (tells.keeps.layouts ∙ sym same);
      ids = known;
      failures = tells.failures;
      keeps = tells.keeps;
    }
