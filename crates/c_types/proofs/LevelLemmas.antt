-- The levels of an array, and what is added to them.
use Rattle.std.proofs.Common.{◌≡◌, ℕ, ◌<◌, ◌||◌, true, false, List, [], ◌∷◌, ◌++◌, Some, None, length, slice_get, refl, sym, ap, ◌∙◌, subst}
use Rattle.std.proofs.lemmas.Bool.{false≢true, true≢false}
use Rattle.std.proofs.lemmas.Option.{none-some, same_Some}
use Rattle.meaning_types.specs.Types.{Qualifiers, Flags, TypeTree, Typed, ArrayTree}
use Rattle.meaning_types.specs.Marks.{IsNormal, both, with_flags, later_space, marked}
use Rattle.c_types.specs.declared.form.Form.{Form}
use Rattle.c_types.specs.declared.form.Form.TheVariants as forms
use Rattle.c_types.specs.declared.form.Shape.{Shape}
use Rattle.c_types.specs.declared.form.Marks.{Marks}
use Rattle.c_types.specs.Forms.{element_in, may_be_marked, with_element}
use Rattle.c_types.specs.Rows.{Row, type_numbered, space_in, space_seen, words_in, form_seen, type_seen, types_of, qualifiers_in, flags_in, IsInside, IsEarlier, AreRows, MayJoin}
use Rattle.c_types.specs.Levels.{IsLevel, IsChain, over_element}
use Rattle.c_types.proofs.RowLemmas.{numbered-row}
use Rattle.c_types.proofs.Singles.{normal-numbered, form-normal}

-- Chains

pub IsChain-push : (rows : List Row) (whole : ℕ) (arrays : List ℕ) (inner element : ℕ) → IsChain rows whole arrays inner → IsLevel rows inner element
    → IsChain rows whole (arrays ++ inner ∷ []) element
IsChain-push rows whole [] inner element chain level = (chain, (element, level, refl))
IsChain-push rows whole (array ∷ arrays) inner element chain level =
    (chain.0, (chain.1.0, chain.1.1, IsChain-push rows chain.1.0 arrays inner element chain.1.2 level))

pub IsChain-pop : (rows : List Row) (whole : ℕ) (arrays : List ℕ) (array inner : ℕ) → IsChain rows whole (arrays ++ array ∷ []) inner
    → IsChain rows whole arrays array × IsLevel rows array inner
IsChain-pop rows whole [] array inner chain = (chain.0, subst (IsLevel rows array) chain.1.2 chain.1.1)
IsChain-pop rows whole (one ∷ arrays) array inner chain =
    let later = IsChain-pop rows chain.1.0 arrays array inner chain.1.2 in
    ((chain.0, (chain.1.0, chain.1.1, later.0)), later.1)

-- Elements

module _ (types : List TypeTree) (qualifiers own : Qualifiers) (flags others : Flags) where
  -- what is added to an array is added to its element
  pub level-seen : (form : Form) (element : ℕ) → element_in form ≡ Some element
      → over_element (Typed (form_seen types form) own others) (marked qualifiers flags (type_numbered types element))
      ≡ marked qualifiers flags (Typed (form_seen types form) own others)
  level-seen (forms.Array e n) element is = ap (λ k. Typed (ArrayTree (marked qualifiers flags (type_numbered types k)) (Some n)) own others) (sym (same_Some e element is))
  level-seen (forms.OpenArray e) element is = ap (λ k. Typed (ArrayTree (marked qualifiers flags (type_numbered types k)) None) own others) (sym (same_Some e element is))
  level-seen form element is = absurd (none-some element is)

  -- to a function nothing is added
  pub function-seen : (form : Form) → element_in form ≡ None → may_be_marked form ≡ false
      → Typed (form_seen types form) own others ≡ marked qualifiers flags (Typed (form_seen types form) own others)
  function-seen (forms.Function answer variadic) none may = refl
  function-seen (forms.Parameter first rest) none may = refl
  function-seen (forms.Array e n) none may = absurd (none-some e (sym none))
  function-seen (forms.OpenArray e) none may = absurd (none-some e (sym none))
  function-seen form none may = absurd (true≢false may)

  -- to what is neither all of it is
  pub single-seen : (form : Form) → may_be_marked form ≡ true
      → Typed (form_seen types form) (both own qualifiers) (with_flags others flags) ≡ marked qualifiers flags (Typed (form_seen types form) own others)
  single-seen (forms.Array e n) may = absurd (false≢true may)
  single-seen (forms.OpenArray e) may = absurd (false≢true may)
  single-seen (forms.Function answer variadic) may = absurd (false≢true may)
  single-seen (forms.Parameter first rest) may = absurd (false≢true may)
  single-seen form may = refl

-- the array with another element
replaced-seen : (types : List TypeTree) (own : Qualifiers) (others : Flags) (form : Form) (element : ℕ)
    → Typed (form_seen types (with_element form element)) own others ≡ over_element (Typed (form_seen types form) own others) (type_numbered types element)
replaced-seen types own others (forms.Array e n) element = refl
replaced-seen types own others (forms.OpenArray e) element = refl
replaced-seen types own others form element = refl

replaced-inside : (types : List TypeTree) (form : Form) (element : ℕ) → element < length types → IsInside types form → IsInside types (with_element form element)
replaced-inside types (forms.Array e n) element known inside = known
replaced-inside types (forms.OpenArray e) element known inside = known
replaced-inside types form element known inside = inside

replaced-normal : (types : List TypeTree) (own : Qualifiers) (others : Flags) (form : Form) (element : ℕ) → IsNormal (type_numbered types element)
    → IsNormal (Typed (form_seen types form) own others) → IsNormal (Typed (form_seen types (with_element form element)) own others)
replaced-normal types own others (forms.Array e n) element inner normal = (normal.0, normal.1, inner)
replaced-normal types own others (forms.OpenArray e) element inner normal = (normal.0, normal.1, inner)
replaced-normal types own others form element inner normal = normal

module _ (rows : List Row) (are : AreRows rows) (number : ℕ) (row : Row) (found : slice_get rows number ≡ Some row) where
  abbrev types : List TypeTree
  types = types_of rows

  -- the element of the row's array
  pub element-earlier : (element : ℕ) → element_in row.0.form ≡ Some element → element < number
  element-earlier element is = by row.0.form (are.each number row found).earlier is
    where
      by : (form : Form) → IsEarlier number form → element_in form ≡ Some element → element < number
      by (forms.Array e n) earlier same = subst (λ k. k < number) (same_Some _ _ same) earlier
      by (forms.OpenArray e) earlier same = subst (λ k. k < number) (same_Some _ _ same) earlier
      by form earlier same = absurd (none-some element same)

  -- it joins with another element
  module _ (element : ℕ) (known : element < length types) (shape : Shape) (is : shape ≡ record row.0 { form = with_element row.0.form element }) where
    pub replaced-may : MayJoin rows shape
    replaced-may =
        subst (MayJoin rows) (sym is)
        (record {
          inside = replaced-inside types row.0.form element known (are.each number row found).inside;
          normal = replaced-normal types _ _ row.0.form element (normal-numbered rows are element known) (are.each number row found).normal;
        })

    pub replaced-type : type_seen types shape ≡ over_element (type_numbered types number) (type_numbered types element)
    replaced-type =
        ap (type_seen types) is ∙ replaced-seen types _ _ row.0.form element
        ∙ ap (λ t. over_element t (type_numbered types element)) (sym (numbered-row rows are number row found))

  -- what is no array joins with what is added to it
  module _ (marks : Marks) (shape : Shape) (form : shape.form ≡ row.0.form) (is_const : (words_in shape.marks).is_const ≡ (words_in row.0.marks).is_const || (words_in marks).is_const)
      (is_volatile : (words_in shape.marks).is_volatile ≡ (words_in row.0.marks).is_volatile || (words_in marks).is_volatile)
      (noderef : (words_in shape.marks).noderef ≡ (words_in row.0.marks).noderef || (words_in marks).noderef)
      (space : space_seen (space_in shape.marks) ≡ later_space (space_seen (space_in row.0.marks)) (space_seen (space_in marks))) (may : may_be_marked row.0.form ≡ true) where
    marked-seen : type_seen types shape ≡ marked (qualifiers_in marks) (flags_in marks) (type_seen types row.0)
    marked-seen =
        (λ i. Typed (form_seen types (form i)) (record { is_const = is_const i; is_volatile = is_volatile i }) (record { noderef = noderef i; space = space i }))
        ∙ single-seen types (qualifiers_in marks) _ (flags_in marks) _ row.0.form may

    pub single-may : MayJoin rows shape
    single-may =
        record {
          inside = subst (IsInside types) (sym form) (are.each number row found).inside;
          normal = form-normal rows are shape.form _ _ (subst (IsInside types) (sym form) (are.each number row found).inside) (ap may_be_marked form ∙ may);
        }

    pub single-type : type_seen types shape ≡ marked (qualifiers_in marks) (flags_in marks) (type_numbered types number)
    single-type = marked-seen ∙ ap (marked (qualifiers_in marks) (flags_in marks)) (sym (numbered-row rows are number row found))

  -- a function stays
  pub function-stays : (marks : Marks) → element_in row.0.form ≡ None → may_be_marked row.0.form ≡ false
      → slice_get types number ≡ Some (marked (qualifiers_in marks) (flags_in marks) (type_numbered types number))
  function-stays marks none may =
      (are.each number row found).stands
      ∙ ap Some (function-seen types (qualifiers_in marks) _ (flags_in marks) _ row.0.form none may ∙ ap (marked (qualifiers_in marks) (flags_in marks)) (sym (numbered-row rows are number row found)))

-- an array over its marked element is the marked array
pub level-marked : (rows : List Row) → AreRows rows → (marks : Marks) (array element : ℕ) → IsLevel rows array element
    → over_element (type_numbered (types_of rows) array) (marked (qualifiers_in marks) (flags_in marks) (type_numbered (types_of rows) element))
    ≡ marked (qualifiers_in marks) (flags_in marks) (type_numbered (types_of rows) array)
level-marked rows are marks array element level =
    let whole = numbered-row rows are array level.0 level.1 in
    ap (λ t. over_element t (marked (qualifiers_in marks) (flags_in marks) (type_numbered (types_of rows) element))) whole
    ∙ level-seen (types_of rows) (qualifiers_in marks) _ (flags_in marks) _ level.0.0.form element level.2
    ∙ ap (marked (qualifiers_in marks) (flags_in marks)) (sym whole)
