-- Failures that were found over a table are the same over one that extends it, where bodies may be told too.
use Rattle.std.proofs.Common.{◌≡◌, List, [], ◌∷◌, Option, Some, None, option_map, IfSome, refl, ap, ap₂, ◌∙◌}
use Rattle.std.proofs.lemmas.List.Elements.{All-cons, All-head, All-nil, All-tail}
use Rattle.sparse_model.specs.declared.failure.Failure.{Failure}
use Rattle.sparse_model.specs.declared.ids.TypeId.{TypeId}
use Rattle.meaning_types.specs.Types.{TypeTree}
use Rattle.meaning_operands.specs.Failures as meaning
use Rattle.c_types.specs.Table.{TypeTable, Extends, IsTypeId, type_at}
use Rattle.node_facts.specs.Facts.{name_seen}
use Rattle.linked_names.proofs.GrowthLemmas.{id-later, type-later}
use Rattle.expression_rows.specs.Arguments.{Appends}
use Rattle.expression_rows.specs.Rows.{IsKnownFailure, failure_seen}
use Rattle.expr_judge.specs.Found.{AreKnownFailures, found_seen}

module _ (old new : TypeTable) (extends : Extends old new) where
  types_later : (id : Option TypeId) → IfSome id (IsTypeId old) → option_map (type_at new) id ≡ option_map (type_at old) id
  types_later None known = refl
  types_later (Some id) known = ap Some (type-later old new extends id known)

  ids_later : (id : Option TypeId) → IfSome id (IsTypeId old) → IfSome id (IsTypeId new)
  ids_later None known = known
  ids_later (Some id) known = id-later old new extends id known

  failure_later : (failure : Failure) → IsKnownFailure old failure → failure_seen new failure ≡ failure_seen old failure
  failure_later failure known = ap₂ with_types (types_later failure.first known.0) (types_later failure.second known.1)
    where
      with_types : Option TypeTree → Option TypeTree → meaning.Failure
      with_types first second =
          record {
            token = failure.token;
            rule = failure.rule;
            part = failure.part;
            first = first;
            second = second;
            name = name_seen failure.name;
            number = failure.number;
            wanted = failure.wanted;
          }

  pub failures_later : (failures : List Failure) → AreKnownFailures old failures → found_seen new failures ≡ found_seen old failures
  failures_later [] known = refl
  failures_later (failure ∷ others) known =
      (λ i. failure_later failure (All-head (IsKnownFailure old) failure others known) i
      ∷ failures_later others (All-tail (IsKnownFailure old) failure others known) i)

  pub failures_known : (failures : List Failure) → AreKnownFailures old failures → AreKnownFailures new failures
  failures_known [] known = All-nil (IsKnownFailure new)
  failures_known (failure ∷ others) known =
      let this = All-head (IsKnownFailure old) failure others known in
      All-cons (IsKnownFailure new) failure others (ids_later failure.first this.0, ids_later failure.second this.1)
      (failures_known others (All-tail (IsKnownFailure old) failure others known))

  -- and those that were appended to a list stay so
  pub appended_later : (before after : List Failure) (failures : List meaning.Failure) → Appends old before after failures → Appends new before after failures
  appended_later before after failures appends =
      (appends.0, appends.1, failures_later appends.0 appends.3 ∙ appends.2, failures_known appends.0 appends.3)
