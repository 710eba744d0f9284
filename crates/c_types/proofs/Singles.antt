-- Types of single forms, as they are made.
use Rattle.std.proofs.Common.{◌≡◌, ℕ, ◌<◌, Bool, true, false, List, Option, Some, None, length, slice_get, get_or, refl, sym, ap, ◌∙◌, subst, arith}
use Rattle.std.proofs.lemmas.Bool.{false≢true}
use Rattle.std.proofs.lemmas.Option.{slice_get-get_or}
use Rattle.meaning_types.specs.Types.{Qualifiers, Flags, TypeTree, Typed, no_qualifiers, no_flags}
use Rattle.meaning_types.specs.Marks.{IsNormal, marked}
use Rattle.c_types.specs.declared.form.Marks.{Marks}
use Rattle.c_types.specs.declared.form.Form.{Form}
use Rattle.c_types.specs.declared.elements.Innermost.TheVariants as innermost
use Rattle.c_types.specs.declared.form.Form.TheVariants as forms
use Rattle.c_types.specs.declared.form.Shape.{Shape}
use Rattle.c_types.specs.Forms.{array_form, may_be_marked}
use Rattle.c_types.specs.Rows.{Row, type_numbered, form_seen, no_marks, type_seen, types_of, qualifiers_in, flags_in, IsInside, AreRows, MayJoin}
use Rattle.c_types.proofs.RowLemmas.{length-types_of, numbered-row}
use Rattle.c_types.proofs.Arrays.{marked-form}

-- the shape of a form with these marks, and of one without
abbrev pub marked_shape : Form → Marks → Shape
marked_shape form marks = record { form = form; marks = marks }

abbrev pub bare_shape : Form → Shape
bare_shape form = record { form = form; marks = no_marks }

module _ (rows : List Row) (are : AreRows rows) where
  -- each type is normal
  pub normal-numbered : (number : ℕ) → number < length (types_of rows) → IsNormal (type_numbered (types_of rows) number)
  normal-numbered number below =
      let row : Row = get_or rows number (bare_shape forms.Void, record { bare = 0; plain = 0; elements = record { token = 0; most_low = 0; most_high = 0; is_empty = false; of = innermost.Sizeless } }) in
      let found : slice_get rows number ≡ Some row = slice_get-get_or rows number (bare_shape forms.Void, record { bare = 0; plain = 0; elements = record { token = 0; most_low = 0; most_high = 0; is_empty = false; of = innermost.Sizeless } }) (omega (arith, below, length-types_of rows)) in
      subst IsNormal (sym (numbered-row rows are number row found)) (are.each number row found).normal

  pub form-normal : (form : Form) (qualifiers : Qualifiers) (flags : Flags) → IsInside (types_of rows) form → may_be_marked form ≡ true → IsNormal (Typed (form_seen (types_of rows) form) qualifiers flags)
  form-normal (forms.Pointer target) qualifiers flags inside may = normal-numbered target inside
  form-normal (forms.Array element count) qualifiers flags inside may = absurd (false≢true may)
  form-normal (forms.OpenArray element) qualifiers flags inside may = absurd (false≢true may)
  form-normal (forms.Function result variadic) qualifiers flags inside may = absurd (false≢true may)
  form-normal (forms.Parameter first rest) qualifiers flags inside may = absurd (false≢true may)
  form-normal form qualifiers flags inside may = tt

  -- a form that may have marks joins with them
  pub marked-may : (form : Form) (marks : Marks) (shape : Shape) → shape ≡ marked_shape form marks → IsInside (types_of rows) form → may_be_marked form ≡ true → MayJoin rows shape
  marked-may form marks shape is inside may =
      subst (MayJoin rows) (sym is) (record { inside = inside; normal = form-normal form (qualifiers_in marks) (flags_in marks) inside may })

  -- so does an array
  pub array-may : (element : ℕ) (count : Option ℕ) (form : Form) (shape : Shape) → form ≡ array_form element count → shape ≡ bare_shape form → element < length (types_of rows) → MayJoin rows shape
  array-may element count form shape is_form is below =
      subst (MayJoin rows) (sym (is ∙ ap bare_shape is_form)) (by count)
    where
      by : (number : Option ℕ) → MayJoin rows (bare_shape (array_form element number))
      by None = record { inside = below; normal = (refl, refl, normal-numbered element below) }
      by (Some n) = record { inside = below; normal = (refl, refl, normal-numbered element below) }

  -- and a function
  pub function-may : (answer : ℕ) (variadic : Bool) (shape : Shape) → shape ≡ bare_shape (forms.Function answer variadic) → answer < length (types_of rows) → MayJoin rows shape
  function-may answer variadic shape is below =
      subst (MayJoin rows) (sym is) (record { inside = below; normal = (refl, refl, normal-numbered answer below, tt) })

-- the types that they have
pub marked-type : (types : List TypeTree) (form : Form) (marks : Marks) (shape : Shape) → shape ≡ marked_shape form marks → may_be_marked form ≡ true
    → type_seen types shape ≡ marked (qualifiers_in marks) (flags_in marks) (Typed (form_seen types form) no_qualifiers no_flags)
marked-type types form marks shape is may = ap (type_seen types) is ∙ marked-form types form marks may
