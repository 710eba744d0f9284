-- Types to which nothing is added, and forms that have marks of their own.
use Rattle.std.proofs.Common.{◌≡◌, Bool, true, false, ◌||◌, List, refl, sym, ap}
use Rattle.std.proofs.lemmas.Bool.{false≢true}
use Rattle.meaning_types.specs.Types.{Space, NoSpace, NumberedSpace, NamedSpace, Qualifiers, Flags, TypeTree, Typed, BaseTree, ArrayTree, FunctionTree, no_qualifiers, no_flags}
use Rattle.meaning_types.specs.Marks.{both, with_flags, later_space, marked}
use Rattle.c_types.specs.declared.form.Marks.{Marks}
use Rattle.c_types.specs.declared.form.Form.{Form}
use Rattle.c_types.specs.declared.form.Form.TheVariants as forms
use Rattle.c_types.specs.Forms.{may_be_marked}
use Rattle.c_types.specs.Rows.{space_in, space_seen, words_in, form_seen, qualifiers_in, flags_in}

or_false : (a : Bool) → a || false ≡ a
or_false true = refl
or_false false = refl

both-none : (own : Qualifiers) → both own no_qualifiers ≡ own
both-none own = λ i. record { is_const = or_false own.is_const i; is_volatile = or_false own.is_volatile i }

with_flags-none : (own : Flags) → with_flags own no_flags ≡ own
with_flags-none own = λ i. record { noderef = or_false own.noderef i; space = own.space }

-- nothing is added
mutual
  pub marked-none : (type_ : TypeTree) → marked no_qualifiers no_flags type_ ≡ type_
  marked-none (Typed base qualifiers flags) = marked_base-none qualifiers flags base

  marked_base-none : (qualifiers : Qualifiers) (flags : Flags) (base : BaseTree) → marked no_qualifiers no_flags (Typed base qualifiers flags) ≡ Typed base qualifiers flags
  marked_base-none qualifiers flags (ArrayTree element length) = ap (λ t. Typed (ArrayTree t length) qualifiers flags) (marked-none element)
  marked_base-none qualifiers flags (FunctionTree result parameters variadic) = refl
  marked_base-none qualifiers flags base = λ i. Typed base (both-none qualifiers i) (with_flags-none flags i)

later-none : (space : Space) → later_space NoSpace space ≡ space
later-none NoSpace = refl
later-none (NumberedSpace number) = refl
later-none (NamedSpace name) = refl

-- the marks of a form that may have some
pub marked-form : (types : List TypeTree) (form : Form) (marks : Marks) → may_be_marked form ≡ true
    → Typed (form_seen types form) (qualifiers_in marks) (flags_in marks) ≡ marked (qualifiers_in marks) (flags_in marks) (Typed (form_seen types form) no_qualifiers no_flags)
marked-form types (forms.Array element count) marks may = absurd (false≢true may)
marked-form types (forms.OpenArray element) marks may = absurd (false≢true may)
marked-form types (forms.Function result variadic) marks may = absurd (false≢true may)
marked-form types (forms.Parameter first rest) marks may = absurd (false≢true may)
marked-form types form marks may =
    ap (λ space. Typed (form_seen types form) (qualifiers_in marks) (record { noderef = (words_in marks).noderef; space = space })) (sym (later-none (space_seen (space_in marks))))
