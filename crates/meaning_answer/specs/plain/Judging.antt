-- The plain program beside the judgement of a unit: its rows are found one by one. It goes so deep into an initializer at most, and where
-- one is deeper there is no answer.
use Rattle.std.specs.Prelude.{ℕ, zero, suc, List, [], ◌∷◌, ◌++◌, length, Option, Some, None, option_map}
use Rattle.std.specs.Option.{option_and_then}
use Rattle.std.specs.declared.cmp.Ordering.{Ordering}
use Rattle.std.specs.declared.cmp.Ordering.TheVariants.{Less, Equal, Greater}
use Rattle.meaning_operands.specs.Failures.{Failure}
use Rattle.meaning_warnings.specs.Listing.{order_of}
use Rattle.meaning_typing.specs.Facts.{Fact}
use Rattle.meaning_typing.specs.MemberRows.{aggregates_before}
use Rattle.meaning_typing.specs.Rows.{Row}
use Rattle.meaning_typing.specs.Surroundings.{Surrounding}
use Rattle.meaning_typing.specs.Units.{UnitNodes, kind_at}
use Rattle.meaning_rules.specs.Rules.{Judgement, Holds, first_refusal, least_broken, least_token}
use Rattle.meaning_judgements.specs.UnitRows.{unit_row_at}
use Rattle.meaning_initialized.specs.Plain.{row_found}
use Rattle.meaning_units.specs.UnitRows.{row_by_initializer}
use Rattle.meaning_units.specs.WholeRows.{facts_of}
use Rattle.meaning_units.specs.WholeRules.{broken_in, failures_in, passed_in}

-- The listing

-- the list for this order
abbrev pub by_order : Ordering → (less equal greater : List Failure) → List Failure
by_order Less less equal greater = less
by_order Equal less equal greater = equal
by_order Greater less equal greater = greater

-- a failure joins those in order, in the place of the one that is the same
abbrev pub placed : Failure → List Failure → List Failure
placed failure [] = failure ∷ []
placed failure (other ∷ failures) =
    by_order (order_of failure other) (failure ∷ other ∷ failures) (failure ∷ failures) (other ∷ placed failure failures)

abbrev pub in_order : List Failure → List Failure
in_order [] = []
in_order (failure ∷ failures) = placed failure (in_order failures)

-- Rows

module _ (depth : ℕ) (nodes : UnitNodes) (surroundings : List Surrounding) where
  -- of a node, over what is known of those before it
  abbrev pub unit_row_found : (earlier : List Fact) → (handle : ℕ) → Option Row
  unit_row_found earlier handle =
      option_map (row_by_initializer (kind_at nodes handle) (unit_row_at nodes surroundings earlier handle))
      (row_found depth (aggregates_before nodes surroundings earlier).told nodes surroundings earlier handle)

  -- these, and that of the next node
  abbrev pub with_next : List Row → Option (List Row)
  with_next rows = option_map (λ row. rows ++ row ∷ []) (unit_row_found (facts_of rows) (length rows))

  -- those of the first so many nodes
  abbrev pub first_rows : (count : ℕ) → Option (List Row)
  first_rows zero = Some []
  first_rows (suc count) = option_and_then with_next (first_rows count)

-- The judgement

abbrev pub judged_by : UnitNodes → List Surrounding → List Row → (refusal : Option Judgement) → Judgement
judged_by nodes surroundings rows (Some refusal) = refusal
judged_by nodes surroundings rows None = Holds (in_order (failures_in nodes surroundings rows))

abbrev pub judged : UnitNodes → List Surrounding → List Row → Judgement
judged nodes surroundings rows =
    judged_by nodes surroundings rows (first_refusal (least_broken (broken_in nodes rows)) (least_token (passed_in nodes rows)))

abbrev pub judgement_found : (depth : ℕ) → UnitNodes → List Surrounding → Option Judgement
judgement_found depth nodes surroundings = option_map (judged nodes surroundings) (first_rows depth nodes surroundings (length nodes))
