-- The row of what is known, unless something is broken.
use Rattle.std.proofs.Common.{◌≡◌, List, [], Option, Some, None, option_map, refl, ap, ◌∙◌}
use Rattle.sparse_model.specs.declared.failure.Failure as kept
use Rattle.meaning_operands.specs.Failures as meaning
use Rattle.meaning_rules.specs.Rules.{least_broken}
use Rattle.meaning_typing.specs.Rows.{nothing, unless_broken}
use Rattle.c_types.specs.Table.{TypeTable}
use Rattle.node_facts.specs.declared.fact.NodeFact.{NodeFact}
use Rattle.node_facts.specs.Facts.{node_seen}
use Rattle.expression_rows.specs.declared.row.Broken.{Broken}
use Rattle.expression_rows.specs.Parts.{unless}
use Rattle.expression_rows.specs.Rows.{broken_seen, failure_listed, told}
use Rattle.expression_rows.proofs.LeastLemmas.{unless_told}
use Rattle.member_declarations.specs.Seen.{row_seen, row_unless}

module _ (table : TypeTable) where
  seen_unless : (broken : Option Broken) (fact : NodeFact) (failure : Option kept.Failure)
      → row_seen table (row_unless broken fact failure)
      ≡ record {
        fact = unless (option_map broken_seen broken) (node_seen table fact);
        broken = option_map broken_seen broken;
        failures = failure_listed table failure;
        passed = [];
      }
  seen_unless None fact failure = refl
  seen_unless (Some broken) fact failure = refl

  pub row_told : (broken : Option Broken) (fact : NodeFact) (failure : Option kept.Failure) (list : List meaning.Broken) (failures : List meaning.Failure)
      → option_map broken_seen broken ≡ least_broken list → failure_listed table failure ≡ failures
      → row_seen table (row_unless broken fact failure)
      ≡ told (record nothing { fact = unless_broken list (node_seen table fact); broken = list; failures = failures })
  row_told broken fact failure list failures broken_is failures_are =
      seen_unless broken fact failure
      ∙ (λ i. record {
        fact = (ap (λ least. unless least (node_seen table fact)) broken_is ∙ unless_told list (node_seen table fact)) i;
        broken = broken_is i;
        failures = failures_are i;
        passed = [];
      })
