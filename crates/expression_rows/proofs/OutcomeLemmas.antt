-- Rows whose type is made at the end.
use Rattle.std.proofs.Common.{◌≡◌, Option, Some, None, IfSome, option_map, refl, ap, ◌∙◌, ◌++◌, ◌∷◌, [], List, append-nil}
use Rattle.sparse_model.specs.declared.failure.Failure.{Failure}
use Rattle.sparse_model.specs.declared.ids.TypeId.{TypeId}
use Rattle.c_types.specs.Table.{TypeTable, IsTypeId, type_at}
use Rattle.meaning_operands.specs.Failures as meaning
use Rattle.meaning_rules.specs.Rules.{least_broken}
use Rattle.meaning_typing.specs.Facts.{Expression, ExpressionFact}
use Rattle.meaning_typing.specs.Rows.{gives}
use Rattle.node_facts.specs.Growing.{TypesJoin}
use Rattle.expression_rows.specs.declared.outcome.Given.{Given}
use Rattle.expression_rows.specs.declared.row.Broken.{Broken}
use Rattle.expression_rows.specs.declared.row.RowFailures.{RowFailures}
use Rattle.expression_rows.specs.Outcomes.{given_seen, gives_outcome, outcome_seen}
use Rattle.expression_rows.specs.Parts.{unless}
use Rattle.expression_rows.specs.Rows.{IsKnownFailure, broken_seen, failure_listed, failure_seen, failures_seen, only_failure, told}
use Rattle.expression_rows.proofs.GrowthLemmas.{id_later, type_later}
use Rattle.expression_rows.proofs.LeastLemmas.{unless_told}

module _ (old new : TypeTable) (join : TypesJoin old new) where
  option_later : (id : Option TypeId) → IfSome id (IsTypeId old) → option_map (type_at new) id ≡ option_map (type_at old) id
  option_later None known = refl
  option_later (Some id) known = ap Some (type_later old new join id known)

  option_known : (id : Option TypeId) → IfSome id (IsTypeId old) → IfSome id (IsTypeId new)
  option_known None known = known
  option_known (Some id) known = id_later old new join id known

  listed_later : (failure : Option Failure) → IfSome failure (IsKnownFailure old) → failure_listed new failure ≡ failure_listed old failure
  listed_later None known = refl
  listed_later (Some failure) known = λ i.
      (record (failure_seen old failure) { first = option_later failure.first known.0 i; second = option_later failure.second known.1 i }) ∷ []

  pub failures_later : (failures : RowFailures) → IfSome failures.first (IsKnownFailure old) → IfSome failures.second (IsKnownFailure old)
      → failures_seen new failures ≡ failures_seen old failures
  failures_later failures first second = λ i. listed_later failures.first first i ++ listed_later failures.second second i

  pub failure_known : (failure : Option Failure) → IfSome failure (IsKnownFailure old) → IfSome failure (IsKnownFailure new)
  failure_known None known = known
  failure_known (Some failure) known = (option_known failure.first known.0, option_known failure.second known.1)

-- What is given and broken is told of a row
pub gives_told : (table : TypeTable) (given : Given) (broken : Option Broken) (failures : RowFailures)
    (expression : ExpressionFact) (meant : List meaning.Broken) (failing : List meaning.Failure)
    → given_seen table given ≡ expression → option_map broken_seen broken ≡ least_broken meant → failures_seen table failures ≡ failing
    → outcome_seen table (gives_outcome given broken failures) ≡ told (gives expression meant failing)
gives_told table given broken failures expression meant failing same least fails =
    (λ i. record { fact = unless (least i) (Expression (same i)); broken = least i; failures = fails i; passed = [] })
    ∙ (λ i. record { fact = unless_told meant (Expression expression) i; broken = least_broken meant; failures = failing; passed = [] })

-- one failure, if it fails
pub only_told : (table : TypeTable) (failure : Option Failure) (failing : List meaning.Failure)
    → failure_listed table failure ≡ failing → failures_seen table (only_failure failure) ≡ failing
only_told table failure failing is = append-nil (failure_listed table failure) ∙ is
