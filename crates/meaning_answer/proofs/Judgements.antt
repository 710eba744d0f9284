-- The judgement that the plain program finds is that of the unit.
use Rattle.std.proofs.Common.{◌≡◌, ℕ, zero, suc, ◌<◌, ◌≤◌, List, [], ◌∷◌, ◌++◌, length, Option, Some, None, option_map, Ordering, Less, Equal, Greater, refl, sym, ap, subst, ◌∙◌, arith, length-append}
use Rattle.std.specs.Option.{option_and_then}
use Rattle.std.proofs.lemmas.Option.{none-some, same_Some}
use Rattle.meaning_operands.specs.Failures.{Failure}
use Rattle.meaning_warnings.specs.Listing.{IsListing, order_of}
use Rattle.meaning_warnings.proofs.Listings as listings
use Rattle.meaning_typing.specs.Facts.{Fact}
use Rattle.meaning_typing.specs.MemberRows.{aggregates_before}
use Rattle.meaning_typing.specs.Rows.{Row}
use Rattle.meaning_typing.specs.Surroundings.{Surrounding, AreSurroundings}
use Rattle.meaning_typing.specs.Units.{UnitNodes, kind_at}
use Rattle.meaning_rules.specs.Rules.{Judgement, first_refusal, least_broken, least_token}
use Rattle.meaning_initialized.specs.Plain.{row_found}
use Rattle.meaning_initialized.proofs.Uniqueness.{found_rows_are_rows}
use Rattle.meaning_judgements.specs.UnitRows.{unit_row_at}
use Rattle.meaning_units.specs.UnitRows.{IsUnitRow, row_by_initializer}
use Rattle.meaning_units.specs.WholeRows.{AreFirstRows, AreRows, facts_of}
use Rattle.meaning_units.specs.WholeRules.{IsJudged, IsJudgement, holds, refused, broken_in, failures_in, passed_in}
use Rattle.meaning_units.proofs.RowLemmas.{first_more, first_none}
use Rattle.meaning_answer.specs.plain.Judging.{by_order, placed, in_order, unit_row_found, with_next, first_rows, judged_by, judged, judgement_found}

-- The listing

same-by : (order : Ordering) (less equal greater other : List Failure) → greater ≡ other
    → by_order order less equal greater ≡ listings.by_order order less equal other
same-by Less less equal greater other same = refl
same-by Equal less equal greater other same = refl
same-by Greater less equal greater other same = same

same-placed : (failure : Failure) (failures : List Failure) → placed failure failures ≡ listings.placed failure failures
same-placed failure [] = refl
same-placed failure (other ∷ failures) =
    same-by (order_of failure other) _ _ _ _ (ap (λ behind. other ∷ behind) (same-placed failure failures))

same-order : (failures : List Failure) → in_order failures ≡ listings.in_order failures
same-order [] = refl
same-order (failure ∷ failures) = same-placed failure (in_order failures) ∙ ap (listings.placed failure) (same-order failures)

lists : (found : List Failure) → IsListing found (in_order found)
lists found = subst (IsListing found) (sym (same-order found)) (listings.lists found)

-- Rows

module _ (depth : ℕ) (nodes : UnitNodes) (surroundings : List Surrounding) where
  row-by : (earlier : List Fact) (handle : ℕ) (row : Row) (found : Option Row)
      → row_found depth (aggregates_before nodes surroundings earlier).told nodes surroundings earlier handle ≡ found
      → option_map (row_by_initializer (kind_at nodes handle) (unit_row_at nodes surroundings earlier handle)) found ≡ Some row
      → IsUnitRow nodes surroundings earlier handle row
  row-by earlier handle row None none is = absurd (none-some row is)
  row-by earlier handle row (Some initializing) some is = (
    initializing,
    found_rows_are_rows depth (aggregates_before nodes surroundings earlier).told nodes surroundings earlier handle initializing some,
    sym (same_Some _ _ is),
  )

  row-is : (earlier : List Fact) (handle : ℕ) (row : Row) → unit_row_found depth nodes surroundings earlier handle ≡ Some row
      → IsUnitRow nodes surroundings earlier handle row
  row-is earlier handle row is = row-by earlier handle row _ refl is

  -- these are the rows of the first so many nodes
  abbrev AreFirst : ℕ → List Row → Type 0
  AreFirst count rows = AreFirstRows nodes surroundings rows × (length rows ≡ count)

  next-by : (count : ℕ) (rows more : List Row) (found : Option Row) → count < length nodes → AreFirst count rows
      → unit_row_found depth nodes surroundings (facts_of rows) (length rows) ≡ found
      → option_map (λ (row : Row). rows ++ row ∷ []) found ≡ Some more → AreFirst (suc count) more
  next-by count rows more None within are none is = absurd (none-some more is)
  next-by count rows more (Some row) within are some is =
      let first = first_more nodes surroundings rows row are.0 (omega (arith, within, are.1)) (row-is (facts_of rows) (length rows) row some) in
      subst (AreFirst (suc count)) (same_Some _ _ is) (first, omega (arith, length-append rows (row ∷ []), are.1))

  rows-by : (count : ℕ) (more : List Row) (found : Option (List Row)) → count < length nodes
      → ((rows : List Row) → found ≡ Some rows → AreFirst count rows)
      → option_and_then (with_next depth nodes surroundings) found ≡ Some more → AreFirst (suc count) more
  rows-by count more None within are is = absurd (none-some more is)
  rows-by count more (Some rows) within are is = next-by count rows more _ within (are rows refl) refl is

  first-rows : (count : ℕ) (rows : List Row) → count ≤ length nodes → first_rows depth nodes surroundings count ≡ Some rows → AreFirst count rows
  first-rows zero rows within is = subst (AreFirst 0) (same_Some _ _ is) (first_none nodes surroundings, refl)
  first-rows (suc count) rows within is =
      rows-by count rows (first_rows depth nodes surroundings count) (omega (arith, within))
      (λ before are. first-rows count before (omega (arith, within)) are) is

  all-rows : (rows : List Row) → first_rows depth nodes surroundings (length nodes) ≡ Some rows → AreRows nodes surroundings rows
  all-rows rows is =
      let are = first-rows (length nodes) rows (omega arith) is in
      record { all = are.1; first = are.0 }

-- Judgements

judged-by : (nodes : UnitNodes) (surroundings : List Surrounding) (rows : List Row) (refusal : Option Judgement)
    → first_refusal (least_broken (broken_in nodes rows)) (least_token (passed_in nodes rows)) ≡ refusal
    → IsJudged nodes surroundings rows (judged_by nodes surroundings rows refusal)
judged-by nodes surroundings rows None none = holds _ none (lists (failures_in nodes surroundings rows))
judged-by nodes surroundings rows (Some judgement) some = refused judgement some

judgement-by : (depth : ℕ) (nodes : UnitNodes) (surroundings : List Surrounding) (judgement : Judgement) (found : Option (List Row))
    → AreSurroundings nodes surroundings → first_rows depth nodes surroundings (length nodes) ≡ found
    → option_map (judged nodes surroundings) found ≡ Some judgement → IsJudgement nodes judgement
judgement-by depth nodes surroundings judgement None are none is = absurd (none-some judgement is)
judgement-by depth nodes surroundings judgement (Some rows) are some is =
    subst (IsJudgement nodes) (same_Some _ _ is)
    (surroundings, rows, are, all-rows depth nodes surroundings rows some, judged-by nodes surroundings rows _ refl)

pub found_is_judgement : (depth : ℕ) (nodes : UnitNodes) (surroundings : List Surrounding) (judgement : Judgement)
    → AreSurroundings nodes surroundings → judgement_found depth nodes surroundings ≡ Some judgement → IsJudgement nodes judgement
found_is_judgement depth nodes surroundings judgement are is = judgement-by depth nodes surroundings judgement _ are refl is
