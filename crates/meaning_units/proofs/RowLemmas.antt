-- In the same surroundings a unit has at most one list of rows; and one more row joins those of the first nodes.
use Rattle.std.proofs.Common.{◌≡◌, ℕ, zero, suc, ◌+◌, ◌<◌, ◌≤◌, List, [], ◌∷◌, ◌++◌, length, take, refl, sym, ap, subst, ◌∙◌, ◌⊎◌, inl, inr, arith, length-append}
use Rattle.std.proofs.lemmas.List.{take_all, take_more_same, take-append-le}
use Rattle.std.proofs.lemmas.Option.{get_or_from_slice_get}
use Rattle.meaning_typing.proofs.Lists.{stays_at, put_at}
use Rattle.meaning_typing.specs.Facts.{Fact}
use Rattle.meaning_typing.specs.MemberRows.{aggregates_before}
use Rattle.meaning_typing.specs.Rows.{Row, nothing}
use Rattle.meaning_typing.specs.Surroundings.{Surrounding}
use Rattle.meaning_typing.specs.Units.{UnitNodes, kind_at}
use Rattle.meaning_initialized.proofs.Uniqueness as initialized
use Rattle.meaning_judgements.specs.UnitRows.{unit_row_at}
use Rattle.meaning_units.specs.UnitRows.{IsUnitRow, row_by_initializer}
use Rattle.meaning_units.specs.WholeRows.{AreFirstRows, AreRows, IsRowAt, facts_of, row_at}
use Rattle.meaning_units.specs.Laws.{AreAllNested, RowsAreUnique, RowsExist}

module _ (nodes : UnitNodes) (surroundings : List Surrounding) where
  -- One row

  pub row_is_unique : (earlier : List Fact) (handle : ℕ) (row other : Row)
      → IsUnitRow nodes surroundings earlier handle row → IsUnitRow nodes surroundings earlier handle other → row ≡ other
  row_is_unique earlier handle row other is so =
      is.2
      ∙ ap (row_by_initializer (kind_at nodes handle) (unit_row_at nodes surroundings earlier handle))
      (initialized.rows_are_unique (aggregates_before nodes surroundings earlier).told nodes surroundings earlier handle is.0 so.0 is.1 so.1)
      ∙ sym so.2

  -- Two lists

  row_is : (rows : List Row) (handle : ℕ) (at : IsRowAt nodes surroundings rows handle) → row_at rows handle ≡ at.0
  row_is rows handle at = get_or_from_slice_get rows handle at.0 nothing at.1

  same-fronts : (rows others : List Row) → AreRows nodes surroundings rows → AreRows nodes surroundings others
      → (count : ℕ) → count ≤ length nodes → take count rows ≡ take count others
  same-fronts rows others are also zero within = refl
  same-fronts rows others are also (suc count) within =
      let before = same-fronts rows others are also count (omega (arith, within)) in
      let next : suc count ≡ count + 1 = omega arith in
      let here = are.first.each count (omega (arith, within, are.all)) in
      let there = also.first.each count (omega (arith, within, also.all)) in
      let moved : IsUnitRow nodes surroundings (facts_of (take count others)) count here.0 =
      subst (λ (front : List Row). IsUnitRow nodes surroundings (facts_of front) count here.0) before here.2 in
      ap (λ n. take n rows) next
      ∙ take_more_same rows others count nothing (omega (arith, within, are.all)) (omega (arith, within, also.all)) before
      (row_is rows count here
      ∙ row_is_unique (facts_of (take count others)) count here.0 there.0 moved there.2
      ∙ sym (row_is others count there))
      ∙ ap (λ n. take n others) (sym next)

  -- One row more

  earlier-or-last : (count all : ℕ) → count < suc all → (count < all) ⊎ (count ≡ all)
  earlier-or-last count all within = grind arith

  module _ (rows : List Row) (row : Row) where
    longer : length (rows ++ row ∷ []) ≡ suc (length rows)
    longer = omega (arith, length-append rows (row ∷ []))

    pub front_of : (handle : ℕ) → handle ≤ length rows → take handle (rows ++ row ∷ []) ≡ take handle rows
    front_of handle within = take-append-le handle rows (row ∷ []) within

    pub front_all : take (length rows) (rows ++ row ∷ []) ≡ rows
    front_all = front_of (length rows) (omega arith) ∙ take_all (length rows) rows (omega arith)

    earlier-at : (handle : ℕ) → handle < length rows → IsRowAt nodes surroundings rows handle → IsRowAt nodes surroundings (rows ++ row ∷ []) handle
    earlier-at handle within at = (
      at.0,
      stays_at rows (row ∷ []) handle within ∙ at.1,
      subst (λ (front : List Row). IsUnitRow nodes surroundings (facts_of front) handle at.0) (sym (front_of handle (omega (arith, within)))) at.2,
    )

    last-at : IsUnitRow nodes surroundings (facts_of rows) (length rows) row → IsRowAt nodes surroundings (rows ++ row ∷ []) (length rows)
    last-at is = (
      row,
      put_at rows row,
      subst (λ (front : List Row). IsUnitRow nodes surroundings (facts_of front) (length rows) row) (sym front_all) is,
    )

    pub first_more : AreFirstRows nodes surroundings rows → length rows < length nodes
        → IsUnitRow nodes surroundings (facts_of rows) (length rows) row → AreFirstRows nodes surroundings (rows ++ row ∷ [])
    first_more are within is =
        record {
          few = omega (arith, within, longer);
          each = λ handle among.
              elim (earlier-or-last handle (length rows) (omega (arith, among, longer))) [
                | inl earlier ↦ earlier-at handle earlier (are.each handle earlier)
                | inr last ↦ subst (IsRowAt nodes surroundings (rows ++ row ∷ [])) (sym last) (last-at is)
              ];
        }

  pub first_none : AreFirstRows nodes surroundings []
  first_none = record { few = omega arith; each = λ handle within. absurd (omega (arith, within)) }

  -- As many as there are nodes

  next_row : AreAllNested nodes surroundings → (rows : List Row) → AreFirstRows nodes surroundings rows
      → (row : Row) × IsUnitRow nodes surroundings (facts_of rows) (length rows) row
  next_row nested rows are =
      let facts = facts_of rows in
      let low = nested rows are in
      let found = initialized.rows_exist (aggregates_before nodes surroundings facts).told nodes surroundings facts low.0 low.1 (length rows) in
      (_, (found.0, found.1, refl))

  found_rows : AreAllNested nodes surroundings → (count : ℕ) → count ≤ length nodes
      → (rows : List Row) × AreFirstRows nodes surroundings rows × (length rows ≡ count)
  found_rows nested zero within = ([], first_none, refl)
  found_rows nested (suc count) within =
      let before = found_rows nested count (omega (arith, within)) in
      let row = next_row nested before.0 before.1 in
      (before.0 ++ row.0 ∷ [], first_more before.0 row.0 before.1 (omega (arith, within, before.2)) row.1, omega (arith, longer before.0 row.0, before.2))

pub rows_are_unique : RowsAreUnique
rows_are_unique nodes surroundings rows others are also =
    sym (take_all (length nodes) rows (omega (arith, are.all)))
    ∙ same-fronts nodes surroundings rows others are also (length nodes) (omega arith)
    ∙ take_all (length nodes) others (omega (arith, also.all))

pub rows_exist : RowsExist
rows_exist nodes surroundings nested =
    let found = found_rows nodes surroundings nested (length nodes) (omega arith) in
    (found.0, record { all = found.2; first = found.1 })
