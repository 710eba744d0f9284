-- Rows that are found by their shapes, or aren't there.
use Rattle.std.proofs.Common.{◌≡◌, ◌≢◌, ℕ, zero, suc, ◌<◌, ◌^◌, Bool, true, false, List, [], ◌∷◌, ◌++◌, Option, Some, None, length, map, slice_get, get_or, is_some, refl, sym, ap, ◌∙◌, subst, arith}
use Rattle.std.specs.List.{position}
use Rattle.std.proofs.lemmas.Bool.{false≢true, true≢false}
use Rattle.std.proofs.lemmas.List.Quantifiers.{position-Some}
use Rattle.std.specs.Prelude.{◌↔◌, IsTrue, cond, option_map, nat_eq}
use Rattle.std.specs.Option.{IfSome}
use Rattle.std.proofs.lemmas.Bool.{eqb-true}
use Rattle.std.proofs.lemmas.Bool.Decides.{Decides-eqb}
use Rattle.std.proofs.lemmas.Option.{same_Some, slice_get_within}
use Rattle.meaning_types.specs.Types.{TypeTree, bare}
use Rattle.meaning_types.specs.Equality.{are_same}
use Rattle.meaning_types.proofs.Equality.{are_same-Decides}
use Rattle.c_types.specs.declared.form.Form.{Form}
use Rattle.c_types.specs.declared.form.Form.TheVariants as forms
use Rattle.c_types.specs.Forms.{target_in}
use Rattle.c_types.specs.Table.{pointed_at}
use Rattle.c_types.proofs.Forms.{same_number}
use Rattle.std.specs.Map.{lookup}
use Rattle.c_types.specs.declared.form.Shape.{Shape}
use Rattle.c_types.specs.declared.form.Reduced.{Reduced}
use Rattle.c_types.specs.declared.elements.Elements.{Elements}
use Rattle.c_types.specs.Elements.{AreElements}
use Rattle.c_types.specs.Rows.{Row, form_seen, type_numbered, type_seen, types_of, IsInside, AreRows, Grows, MayJoin, JoinsRight}
use Rattle.c_types.proofs.RowLemmas.{AreRows-push, stands-push, numbered-row, length-types_of}

-- the row at the place of the first shape that passes
module _ (test : Shape → Bool) where
  found_row : (rows : List Row) (index : ℕ) → position test (map (λ row. row.0) rows) ≡ Some index → (row : Row) × (slice_get rows index ≡ Some row) × (test row.0 ≡ true)
  found_row [] index is = absurd (cc is)
  found_row (row ∷ rows) index is =
      let passes = position-Some test (map (λ r. r.0) (row ∷ rows)) index row.0 is in
      at (row ∷ rows) index row passes.0 passes.1
    where
      at : (all : List Row) (i : ℕ) (d : Row) → i < length (map (λ r. r.0) all) → test (get_or (map (λ r. r.0) all) i d.0) ≡ true → (one : Row) × (slice_get all i ≡ Some one) × (test one.0 ≡ true)
      at [] i d within passed = absurd (omega arith)
      at (one ∷ all) zero d within passed = (one, refl, passed)
      at (one ∷ all) (suc i) d within passed = at all i d (omega arith) passed

  -- what is looked up behind a row that doesn't pass
  behind_row : (row : Row) (rows : List Row) (passed : Bool) → test row.0 ≡ passed → false ≡ is_some (lookup test (row ∷ rows)) → (test row.0 ≡ false) × (false ≡ is_some (lookup test rows))
  behind_row row rows true e none = absurd (false≢true (none ∙ ap (λ t. is_some (cond t (Some row.1) (lookup test rows))) e))
  behind_row row rows false e none = (e, none ∙ ap (λ t. is_some (cond t (Some row.1) (lookup test rows))) e)

  -- no row passes where none is looked up
  absent_rows : (rows : List Row) → false ≡ is_some (lookup test rows) → (number : ℕ) (row : Row) → slice_get rows number ≡ Some row → test row.0 ≡ false
  absent_rows [] none number row found = absurd (cc found)
  absent_rows (one ∷ rows) none zero row found = sym (ap (λ r. test r.0) (same_Some _ _ found)) ∙ (behind_row one rows (test one.0) refl none).0
  absent_rows (one ∷ rows) none (suc number) row found = absent_rows rows (behind_row one rows (test one.0) refl none).1 number row found

-- what is not there is none
pub none_from : {X : Type 0} (found : Option X) → false ≡ is_some found → found ≡ None
none_from None h = refl
none_from (Some x) h = absurd (false≢true h)

-- the type of a shape that is found stands at its place
pub find-stands : (rows : List Row) → AreRows rows → (shape : Shape) (test : Shape → Bool) → ((other : Shape) → test other ≡ true → shape ≡ other) → (index : ℕ)
    → position test (map (λ row. row.0) rows) ≡ Some index → slice_get (types_of rows) index ≡ Some (type_seen (types_of rows) shape)
find-stands rows are shape test same index is =
    let found = found_row test rows index is in
    (are.each index found.0 found.1).stands ∙ ap (λ s. Some (type_seen (types_of rows) s)) (sym (same found.0.0 found.2))

-- a shape that isn't found joins
pub joined : (rows new : List Row) → AreRows rows → (shape : Shape) (reduced : Reduced) (elements : Elements) → MayJoin rows shape → JoinsRight rows shape reduced
    → AreElements (form_seen (types_of rows) shape.form) elements → (test : Shape → Bool) → test shape ≡ true → false ≡ is_some (lookup test rows) → length rows < 2 ^ 30 → new ≡ rows ++ (shape, record { bare = reduced.bare; plain = reduced.plain; elements = elements }) ∷ []
    → AreRows new × Grows rows new × (slice_get (types_of new) (length rows) ≡ Some (type_seen (types_of rows) shape))
joined rows new are shape reduced elements may right made test passes none room is =
    let absent : (number : ℕ) (row : Row) → slice_get rows number ≡ Some row → row.0 ≢ shape =
    λ number row found same. true≢false (sym passes ∙ ap test (sym same) ∙ absent_rows test rows none number row found)
    in (
      subst AreRows (sym is) (AreRows-push rows are shape reduced elements may right made absent room),
      ((shape, record { bare = reduced.bare; plain = reduced.plain; elements = elements }) ∷ [], is),
      ap (λ all. slice_get (types_of all) (length rows)) is ∙ stands-push rows are shape reduced elements may right made absent,
    )

-- a number of a form is told by its type
target-seen : (types : List TypeTree) (shape : Shape) → option_map (type_numbered types) (target_in shape.form) ≡ pointed_at (type_seen types shape)
target-seen types shape = by shape.form
  where
    by : (form : Form) → option_map (type_numbered types) (target_in form) ≡ pointed_at (type_seen types (record shape { form = form }))
    by (forms.Pointer target) = refl
    by form = refl

target-inside : (types : List TypeTree) (form : Form) → IsInside types form → IfSome (target_in form) (λ target. target < length types)
target-inside types (forms.Pointer target) inside = inside
target-inside types form inside = tt

module _ (rows : List Row) (are : AreRows rows) (number : ℕ) (row : Row) (found : slice_get rows number ≡ Some row) where
  pub target-told : option_map (type_numbered (types_of rows)) (target_in row.0.form) ≡ pointed_at (type_numbered (types_of rows) number)
  target-told = target-seen (types_of rows) row.0 ∙ ap pointed_at (sym (numbered-row rows are number row found))

  pub target-stands : IfSome (target_in row.0.form) (λ target. target < length (types_of rows))
  target-stands = target-inside (types_of rows) row.0.form (are.each number row found).inside

-- two tests that pass for each other are one
pub one_test : (s t : Bool) → (s ≡ true → t ≡ true) → (t ≡ true → s ≡ true) → s ≡ t
one_test true t to from = sym (to refl)
one_test false true to from = from refl
one_test false false to from = refl

-- types are the same where what is left of them has one number
pub same-told : (rows : List Row) → AreRows rows → (a b x y : ℕ) → x < length (types_of rows) → y < length (types_of rows)
    → type_numbered (types_of rows) x ≡ bare (type_numbered (types_of rows) a) → type_numbered (types_of rows) y ≡ bare (type_numbered (types_of rows) b)
    → nat_eq x y ≡ are_same (type_numbered (types_of rows) a) (type_numbered (types_of rows) b)
same-told rows are a b x y first second is_first is_second =
    let types : List TypeTree = types_of rows in
    let decides = are_same-Decides (type_numbered types a) (type_numbered types b) in
    one_test (nat_eq x y) (are_same (type_numbered types a) (type_numbered types b))
    (λ h. decides.1 (sym is_first ∙ ap (type_numbered types) (eqb-true x y h) ∙ is_second))
    (λ h. (Decides-eqb x y).1 (same_number types are.apart x y first second (is_first ∙ decides.0 h ∙ sym is_second)))

-- types are equal where they have one number
pub equal-told : (rows : List Row) → AreRows rows → (a b : ℕ) → a < length (types_of rows) → b < length (types_of rows)
    → IsTrue (nat_eq a b) ↔ (type_numbered (types_of rows) a ≡ type_numbered (types_of rows) b)
equal-told rows are a b first second = (
  λ h. ap (type_numbered (types_of rows)) (eqb-true a b h),
  λ same. (Decides-eqb a b).1 (same_number (types_of rows) are.apart a b first second same),
)

-- no rows are right
pub AreRows-none : AreRows []
AreRows-none =
    record {
      each = λ number row found. absurd (cc found);
      apart = λ i j type_ first second. absurd (none_stands i type_ first);
      few = omega arith;
    }
  where
    none_stands : (i : ℕ) (type_ : TypeTree) → slice_get (types_of []) i ≡ Some type_ → ⊥
    none_stands i type_ found = absurd (omega (arith, slice_get_within (types_of []) i type_ found, length-types_of []))
