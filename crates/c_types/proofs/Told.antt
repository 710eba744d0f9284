-- What a row tells of its type.
use Rattle.std.proofs.Common.{◌≡◌, ℕ, ◌<◌, Bool, List, Some, None, IsSome, length, slice_get, refl, sym, ap, ◌∙◌, subst}
use Rattle.std.proofs.lemmas.Option.{none-some, same_Some}
use Rattle.meaning_types.specs.Types.{Qualifiers, Flags, TypeTree, Typed, FunctionTree, TypeTrees, NoTypes, no_qualifiers, no_flags}
use Rattle.meaning_types.specs.Marks.{IsNormal}
use Rattle.c_types.specs.declared.form.Form.{Form}
use Rattle.c_types.specs.declared.form.Form.TheVariants as forms
use Rattle.c_types.specs.declared.shapes.OuterBase.{OuterBase}
use Rattle.c_types.specs.Forms.{function_in, kind_in, outer_in, parameter_in}
use Rattle.c_types.specs.Rows.{Row, base_of, is_variadic, parameter_types, result_of, type_numbered, flags_in, form_seen, qualifiers_in, space_in, space_seen, type_seen, words_in, types_of, AreRows, IsEarlier, IsFunction, IsInside}
use Rattle.c_types.specs.Levels.{BeginsWith}
use Rattle.sparse_model.specs.declared.space.Space.{Space}
use Rattle.c_types.specs.declared.form.MarkWords.{MarkWords}
use Rattle.c_types.specs.Table.{IsOuterOver, base_of_outer, count_in, count_of, integer_kind, space_of, type_of_outer}
use Rattle.c_types.proofs.RowLemmas.{numbered-row}

-- By the cases of a form

module _ (types : List TypeTree) (qualifiers : Qualifiers) (flags : Flags) where
  kind-seen : (form : Form) → kind_in form ≡ integer_kind (Typed (form_seen types form) qualifiers flags)
  kind-seen (forms.Integer kind) = refl
  kind-seen (forms.Restricted kind token) = refl
  kind-seen form = refl

  none-seen : (form : Form) → parameter_in form ≡ None → parameter_types (Typed (form_seen types form) qualifiers flags) ≡ NoTypes
  none-seen (forms.Parameter first rest) none = absurd (none-some (first, rest) (sym none))
  none-seen (forms.Function result variadic) none = refl
  none-seen form none = refl

  outer-seen : (form : Form) (base : OuterBase) (parameters : TypeTrees) → outer_in form ≡ Some base → base_of_outer types parameters base ≡ form_seen types form
  outer-seen (forms.Function result variadic) base parameters is = absurd (none-some base is)
  outer-seen (forms.Parameter first rest) base parameters is = absurd (none-some base is)
  outer-seen form base parameters is = ap (base_of_outer types parameters) (sym (same_Some _ _ is))

  outer-count : (form : Form) (base : OuterBase) → outer_in form ≡ Some base → count_in base ≡ count_of (parameter_types (Typed (form_seen types form) qualifiers flags))
  outer-count (forms.Function result variadic) base is = absurd (none-some base is)
  outer-count (forms.Parameter first rest) base is = absurd (none-some base is)
  outer-count form base is = ap count_in (sym (same_Some _ _ is))

  outer-inside : (form : Form) (base : OuterBase) → IsInside types form → outer_in form ≡ Some base → IsOuterOver types base
  outer-inside (forms.Function result variadic) base inside is = absurd (none-some base is)
  outer-inside (forms.Parameter first rest) base inside is = absurd (none-some base is)
  outer-inside (forms.Pointer target) base inside is = subst (IsOuterOver types) (same_Some _ _ is) inside
  outer-inside (forms.Array element count) base inside is = subst (IsOuterOver types) (same_Some _ _ is) inside
  outer-inside (forms.OpenArray element) base inside is = subst (IsOuterOver types) (same_Some _ _ is) inside
  outer-inside form base inside is = subst (IsOuterOver types) (same_Some _ _ is) tt

  function-normal : (form : Form) → outer_in form ≡ None → IsNormal (Typed (form_seen types form) qualifiers flags) → IsFunction (Typed (form_seen types form) qualifiers flags)
  function-normal (forms.Function result variadic) none normal = λ i. Typed (form_seen types (forms.Function result variadic)) (normal.0 i) (normal.1 i)
  function-normal (forms.Parameter first rest) none normal = λ i. Typed (form_seen types (forms.Parameter first rest)) (normal.0 i) (normal.1 i)
  function-normal forms.Void none normal = absurd (none-some _ (sym none))
  function-normal (forms.Integer kind) none normal = absurd (none-some _ (sym none))
  function-normal (forms.Restricted kind token) none normal = absurd (none-some _ (sym none))
  function-normal (forms.Pointer target) none normal = absurd (none-some _ (sym none))
  function-normal (forms.Array element count) none normal = absurd (none-some _ (sym none))
  function-normal (forms.OpenArray element) none normal = absurd (none-some _ (sym none))
  function-normal (forms.Aggregate token is_union) none normal = absurd (none-some _ (sym none))

-- a function without parameters is one by its form
function-plain : (types : List TypeTree) (form : Form) (result : TypeTree) (parameters : TypeTrees) (variadic : Bool) → form_seen types form ≡ FunctionTree result parameters variadic
    → parameter_types (Typed (form_seen types form) no_qualifiers no_flags) ≡ NoTypes → IsSome (function_in form)
function-plain types (forms.Function answer variadic) result parameters more is none = refl
function-plain types (forms.Parameter first rest) result parameters more is none = absurd (cc none)
function-plain types form result parameters more is none = absurd (cc is)

parameter-form : (form : Form) (first rest : ℕ) → parameter_in form ≡ Some (first, rest) → form ≡ forms.Parameter first rest
parameter-form (forms.Parameter f r) first rest is =
    let both = same_Some _ _ is in
    λ i. forms.Parameter (both i).0 (both i).1
parameter-form form first rest is = absurd (none-some (first, rest) is)

function-form : (form : Form) (answer : ℕ) (variadic : Bool) → function_in form ≡ Some (answer, variadic) → form ≡ forms.Function answer variadic
function-form (forms.Function a v) answer variadic is =
    let both = same_Some _ _ is in
    λ i. forms.Function (both i).0 (both i).1
function-form form answer variadic is = absurd (none-some (answer, variadic) is)

-- qualifiers and flags say nothing of parameters
same_parameters : (type_ : TypeTree) → parameter_types type_ ≡ parameter_types (Typed (base_of type_) no_qualifiers no_flags)
same_parameters (Typed (FunctionTree result parameters variadic) qualifiers flags) = refl
same_parameters (Typed base qualifiers flags) = refl

-- By a row

module _ (rows : List Row) (are : AreRows rows) (number : ℕ) (row : Row) (found : slice_get rows number ≡ Some row) where
  abbrev types : List TypeTree
  types = types_of rows

  abbrev whole : TypeTree
  whole = type_numbered types number

  same : whole ≡ type_seen types row.0
  same = numbered-row rows are number row found

  pub kind-told : kind_in row.0.form ≡ integer_kind whole
  kind-told = kind-seen types _ _ row.0.form ∙ ap integer_kind (sym same)

  pub begins : (first rest : ℕ) → parameter_in row.0.form ≡ Some (first, rest) → BeginsWith types number first rest
  begins first rest is =
      let form = parameter-form row.0.form first rest is in
      let inside = subst (IsInside types) form (are.each number row found).inside in
      let seen = same ∙ ap (λ f. type_seen types (record row.0 { form = f })) form in
      record {
        first_known = inside.0;
        rest_known = inside.1;
        earlier = (subst (IsEarlier number) form (are.each number row found).earlier).1;
        function = inside.2;
        result = ap result_of seen;
        parameters = ap parameter_types seen;
        variadic = ap is_variadic seen;
      }

  pub none-begins : parameter_in row.0.form ≡ None → parameter_types whole ≡ NoTypes
  none-begins none = ap parameter_types same ∙ none-seen types _ _ row.0.form none

  pub function-is_plain : IsFunction whole → parameter_types whole ≡ NoTypes → IsSome (function_in row.0.form)
  function-is_plain is none =
      function-plain types row.0.form (result_of whole) (parameter_types whole) (is_variadic whole) (ap base_of (sym same ∙ is))
      (sym (same_parameters (type_seen types row.0)) ∙ ap parameter_types (sym same) ∙ none)

  pub function-result : (answer : ℕ) (variadic : Bool) → function_in row.0.form ≡ Some (answer, variadic) → result_of whole ≡ type_numbered types answer
  function-result answer variadic is = ap result_of (same ∙ ap (λ f. type_seen types (record row.0 { form = f })) (function-form row.0.form answer variadic is))

  pub function-variadic : (answer : ℕ) (variadic : Bool) → function_in row.0.form ≡ Some (answer, variadic) → is_variadic whole ≡ variadic
  function-variadic answer variadic is = ap is_variadic (same ∙ ap (λ f. type_seen types (record row.0 { form = f })) (function-form row.0.form answer variadic is))

  pub function-inside : (answer : ℕ) (variadic : Bool) → function_in row.0.form ≡ Some (answer, variadic) → answer < length types
  function-inside answer variadic is = subst (IsInside types) (function-form row.0.form answer variadic is) (are.each number row found).inside

  pub outer-base : (base : OuterBase) → outer_in row.0.form ≡ Some base → base_of_outer types (parameter_types whole) base ≡ base_of whole
  outer-base base is = outer-seen types no_qualifiers no_flags row.0.form base (parameter_types whole) is ∙ ap base_of (sym same)

  pub outer-counted : (base : OuterBase) → outer_in row.0.form ≡ Some base → count_in base ≡ count_of (parameter_types whole)
  outer-counted base is = outer-count types _ _ row.0.form base is ∙ ap (λ t. count_of (parameter_types t)) (sym same)

  pub outer-known : (base : OuterBase) → outer_in row.0.form ≡ Some base → IsOuterOver types base
  outer-known base is = outer-inside types no_qualifiers no_flags row.0.form base (are.each number row found).inside is

  pub outer-function : outer_in row.0.form ≡ None → IsFunction whole
  outer-function none = subst IsFunction (sym same) (function-normal types _ _ row.0.form none (are.each number row found).normal)

-- the whole type by its outermost level
module _ (rows : List Row) (are : AreRows rows) (number : ℕ) (row : Row) (found : slice_get rows number ≡ Some row) where
  pub outer-whole : (base : OuterBase) (words : MarkWords) (space : Space) → base_of_outer (types_of rows) (parameter_types (type_numbered (types_of rows) number)) base ≡ base_of (type_numbered (types_of rows) number)
      → words ≡ words_in row.0.marks → space_of space ≡ space_seen (space_in row.0.marks)
      → type_of_outer (types_of rows) (parameter_types (type_numbered (types_of rows) number))
      (record { base = base; is_const = words.is_const; is_volatile = words.is_volatile; noderef = words.noderef; space = space })
      ≡ type_numbered (types_of rows) number
  outer-whole base words space is_base is_words is_space =
      let same = numbered-row rows are number row found in
      (λ i. Typed (is_base i) (record { is_const = (is_words i).is_const; is_volatile = (is_words i).is_volatile }) (record { noderef = (is_words i).noderef; space = is_space i }))
      ∙ ap (λ t. Typed (base_of t) (qualifiers_in row.0.marks) (flags_in row.0.marks)) same
      ∙ sym same
