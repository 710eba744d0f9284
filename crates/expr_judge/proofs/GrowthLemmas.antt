-- Failures that were found over a table are the same over one that types joined.
use Rattle.std.proofs.Common.{◌≡◌, List, [], ◌∷◌, ◌++◌, Option, Some, None, option_map, IfSome, refl, sym, ap, ap₂, subst, ◌∙◌}
use Rattle.std.proofs.lemmas.List.{append_assoc, map-append}
use Rattle.std.proofs.lemmas.List.Elements.{All-append, All-cons, All-head, All-nil, All-tail}
use Rattle.sparse_model.specs.declared.failure.Failure.{Failure}
use Rattle.sparse_model.specs.declared.ids.TypeId.{TypeId}
use Rattle.meaning_types.specs.Types.{TypeTree}
use Rattle.meaning_operands.specs.Failures as meaning
use Rattle.c_types.specs.Table.{TypeTable, IsTypeId, type_at}
use Rattle.node_facts.specs.Facts.{name_seen}
use Rattle.node_facts.specs.Growing.{TypesJoin}
use Rattle.node_facts.proofs.GrowthLemmas.{id_later, type_later}
use Rattle.expression_rows.specs.Arguments.{Appends}
use Rattle.expression_rows.specs.Rows.{IsKnownFailure, failure_seen}
use Rattle.expr_judge.specs.Found.{AreKnownFailures, found_seen}

module _ (old new : TypeTable) (join : TypesJoin old new) where
  pub types_later : (id : Option TypeId) → IfSome id (IsTypeId old) → option_map (type_at new) id ≡ option_map (type_at old) id
  types_later None known = refl
  types_later (Some id) known = ap Some (type_later old new join id known)

  ids_later : (id : Option TypeId) → IfSome id (IsTypeId old) → IfSome id (IsTypeId new)
  ids_later None known = known
  ids_later (Some id) known = id_later old new join id known

  failure_later : (failure : Failure) → IsKnownFailure old failure → failure_seen new failure ≡ failure_seen old failure
  failure_later failure known = ap₂ with_types (types_later failure.first known.0) (types_later failure.second known.1)
    where
      with_types : Option TypeTree → Option TypeTree → meaning.Failure
      with_types first second =
          record {
            token = failure.token;
            rule = failure.rule;
            part = failure.part;
            first = first;
            second = second;
            name = name_seen failure.name;
            number = failure.number;
            wanted = failure.wanted;
          }

  pub failures_later : (failures : List Failure) → AreKnownFailures old failures → found_seen new failures ≡ found_seen old failures
  failures_later [] known = refl
  failures_later (failure ∷ others) known =
      (λ i. failure_later failure (All-head (IsKnownFailure old) failure others known) i
      ∷ failures_later others (All-tail (IsKnownFailure old) failure others known) i)

  pub failures_known : (failures : List Failure) → AreKnownFailures old failures → AreKnownFailures new failures
  failures_known [] known = All-nil (IsKnownFailure new)
  failures_known (failure ∷ others) known =
      let this = All-head (IsKnownFailure old) failure others known in
      All-cons (IsKnownFailure new) failure others (ids_later failure.first this.0, ids_later failure.second this.1)
      (failures_known others (All-tail (IsKnownFailure old) failure others known))

  -- Failures that were appended to a list stay, where types join the table behind
  pub appended_later : (before after : List Failure) (failures : List meaning.Failure) → Appends old before after failures → Appends new before after failures
  appended_later before after failures appends =
      (appends.0, appends.1, failures_later appends.0 appends.3 ∙ appends.2, failures_known appends.0 appends.3)

-- one after the other
pub appended_both :
    (table : TypeTable) (first second third : List Failure) (failures others : List meaning.Failure)
    → Appends table first second failures → Appends table second third others → Appends table first third (failures ++ others)
appended_both table first second third failures others front back = (
  front.0 ++ back.0,
  back.1 ∙ ap (λ l. l ++ back.0) front.1 ∙ append_assoc first front.0 back.0,
  map-append (failure_seen table) front.0 back.0 ∙ ap₂ (λ a b. a ++ b) front.2 back.2,
  All-append (IsKnownFailure table) front.0 back.0 front.3 back.3,
)

-- behind those that were found
pub appended_seen :
    (table : TypeTable) (old new : List Failure) (failures : List meaning.Failure) → Appends table old new failures
    → found_seen table new ≡ found_seen table old ++ failures
appended_seen table old new failures appends =
    ap (found_seen table) appends.1 ∙ map-append (failure_seen table) old appends.0 ∙ ap (λ l. found_seen table old ++ l) appends.2

pub appended_known :
    (table : TypeTable) (old new : List Failure) (failures : List meaning.Failure) → Appends table old new failures
    → AreKnownFailures table old → AreKnownFailures table new
appended_known table old new failures appends known =
    subst (AreKnownFailures table) (sym appends.1) (All-append (IsKnownFailure table) old appends.0 known appends.3)

-- failures that were appended to none, and then to others
pub appended_behind : (table : TypeTable) (before own after : List Failure) (failures : List meaning.Failure) → Appends table [] own failures → after ≡ before ++ own
    → Appends table before after failures
appended_behind table before own after failures appends is = (appends.0, is ∙ ap (λ l. before ++ l) appends.1, appends.2, appends.3)
