-- What a row tells of the form and the flags of its type, and two rows of two types.
use Rattle.std.proofs.Common.{◌≡◌, ℕ, ◌<◌, List, Some, length, nat_eq, slice_get, refl, sym, ap, ◌∙◌}
use Rattle.std.proofs.lemmas.Bool.{eqb-true}
use Rattle.std.proofs.lemmas.Bool.Decides.{Decides-eqb}
use Rattle.meaning_types.specs.Types.{Qualifiers, Flags, TypeTree, Typed, VoidTree, IntegerTree, RestrictedTree, PointerTree, ArrayTree, FunctionTree, AggregateTree, bare, flags_of, without_flags}
use Rattle.meaning_types.specs.Equality.{are_same}
use Rattle.meaning_types.proofs.Equality.{are_same-Decides}
use Rattle.meaning_types.proofs.Levels.{bare-without_flags}
use Rattle.c_types.specs.declared.form.Form.{Form}
use Rattle.c_types.specs.declared.form.Form.TheVariants as forms
use Rattle.meaning_operands.specs.Operands.{identity_of}
use Rattle.c_types.specs.Operands.{identity_seen}
use Rattle.c_types.specs.Outlines.{flags_in_shape, outline_in, outline_of, restrict_in}
use Rattle.c_types.specs.Rows.{Row, type_numbered, form_seen, types_of, AreRows}
use Rattle.c_types.proofs.Forms.{same_number}
use Rattle.c_types.proofs.Finding.{one_test}
use Rattle.c_types.proofs.RowLemmas.{numbered-row}

-- by the cases of a form
outline-seen : (types : List TypeTree) (qualifiers : Qualifiers) (flags : Flags) (form : Form) → outline_in form ≡ outline_of (Typed (form_seen types form) qualifiers flags)
outline-seen types qualifiers flags form = cases form
  where
    cases : (form : Form) → outline_in form ≡ outline_of (Typed (form_seen types form) qualifiers flags)
    cases forms.Void = refl
    cases (forms.Integer kind) = refl
    cases (forms.Restricted kind token) = refl
    cases (forms.Pointer target) = refl
    cases (forms.Array element count) = refl
    cases (forms.OpenArray element) = refl
    cases (forms.Function result variadic) = refl
    cases (forms.Parameter first rest) = refl
    cases (forms.Aggregate token is_union) = refl

-- an identity is told by what a type is
pub identity_told : (type_ : TypeTree) → identity_seen (restrict_in (outline_of type_)) ≡ identity_of type_
identity_told (Typed VoidTree _ _) = refl
identity_told (Typed (IntegerTree kind) _ _) = refl
identity_told (Typed (RestrictedTree kind identity) _ _) = refl
identity_told (Typed (PointerTree target) _ _) = refl
identity_told (Typed (ArrayTree element length) _ _) = refl
identity_told (Typed (FunctionTree result parameters variadic) _ _) = refl
identity_told (Typed (AggregateTree number is_union) _ _) = refl

module _ (rows : List Row) (are : AreRows rows) (number : ℕ) (row : Row) (found : slice_get rows number ≡ Some row) where
  pub outline-told : outline_in row.0.form ≡ outline_of (type_numbered (types_of rows) number)
  outline-told = outline-seen (types_of rows) _ _ row.0.form ∙ ap outline_of (sym (numbered-row rows are number row found))

  pub flags-told : flags_of (type_numbered (types_of rows) number) ≡ flags_in_shape row.0
  flags-told = ap flags_of (numbered-row rows are number row found)

-- types are the same without flags where what is left of them has one number
pub plain-told : (rows : List Row) → AreRows rows → (a b x y : ℕ) → x < length (types_of rows) → y < length (types_of rows)
    → type_numbered (types_of rows) x ≡ without_flags (bare (type_numbered (types_of rows) a)) → type_numbered (types_of rows) y ≡ without_flags (bare (type_numbered (types_of rows) b))
    → nat_eq x y ≡ are_same (without_flags (type_numbered (types_of rows) a)) (without_flags (type_numbered (types_of rows) b))
plain-told rows are a b x y first second is_first is_second =
    let types : List TypeTree = types_of rows in
    let t = type_numbered types a in
    let u = type_numbered types b in
    let decides = are_same-Decides (without_flags t) (without_flags u) in
    one_test (nat_eq x y) (are_same (without_flags t) (without_flags u))
    (λ h. decides.1 (bare-without_flags t ∙ sym is_first ∙ ap (type_numbered types) (eqb-true x y h) ∙ is_second ∙ sym (bare-without_flags u)))
    (λ h. (Decides-eqb x y).1 (same_number types are.apart x y first second (is_first ∙ sym (bare-without_flags t) ∙ decides.0 h ∙ bare-without_flags u ∙ sym is_second)))
