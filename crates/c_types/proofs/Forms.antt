-- Shapes over types: equal types have equal shapes, and a shape stays what it is where the types grow.
use Rattle.std.proofs.Common.{◌≡◌, ℕ, ◌<◌, List, ◌++◌, Some, None, length, slice_get, unwrap_or, refl, sym, ap, ◌∙◌, subst, arith, length-append}
use Rattle.std.proofs.lemmas.Option.{slice_get-get_or, unwrap_or-slice_get}
use Rattle.meaning_types.specs.Types.{Qualifiers, Flags, TypeTree, Typed, PointerTree, ArrayTree, FunctionTree, NoTypes, MoreTypes, no_qualifiers, no_flags, bare, bare_base, bare_types, without_flags, base_without_flags, types_without_flags}
use Rattle.c_types.specs.declared.form.MarkWords.{MarkWords}
use Rattle.c_types.specs.declared.form.Marks.{Marks}
use Rattle.c_types.specs.declared.form.Marks.TheVariants as marked
use Rattle.c_types.specs.declared.form.Form.{Form}
use Rattle.c_types.specs.declared.form.Form.TheVariants as forms
use Rattle.c_types.specs.declared.form.Shape.{Shape}
use Rattle.c_types.specs.Rows.{no_type, type_numbered, base_of, result_of, parameter_types, is_variadic, IsFunction, flags_in, qualifiers_in, space_in, space_seen, words_in, form_seen, type_seen, IsInside, IsEarlier, StandOnce}
use Rattle.c_types.proofs.Lists.{slice_get-append}

-- Numbers

-- a type stands at each number below the count
pub numbered-stands : (types : List TypeTree) (number : ℕ) → number < length types → slice_get types number ≡ Some (type_numbered types number)
numbered-stands types number below = slice_get-get_or types number no_type below ∙ ap Some (sym (unwrap_or-slice_get types number no_type))

-- what stands at a number is its type
pub numbered-is : (types : List TypeTree) (number : ℕ) (type_ : TypeTree) → slice_get types number ≡ Some type_ → type_numbered types number ≡ type_
numbered-is types number type_ stands = ap (λ found. unwrap_or found no_type) stands

-- equal types have one number
pub same_number : (types : List TypeTree) → StandOnce types → (i j : ℕ) → i < length types → j < length types → type_numbered types i ≡ type_numbered types j → i ≡ j
same_number types apart i j low high same =
    apart i j (type_numbered types i) (numbered-stands types i low) (numbered-stands types j high ∙ ap Some (sym same))

-- Equal types have equal shapes

same_words : (a b : MarkWords) → a.is_const ≡ b.is_const → a.is_volatile ≡ b.is_volatile → a.noderef ≡ b.noderef → a ≡ b
same_words a b is_const is_volatile noderef = λ i. record { is_const = is_const i; is_volatile = is_volatile i; noderef = noderef i }

-- marks are what is seen of them
same_marks : (a b : Marks) → qualifiers_in a ≡ qualifiers_in b → flags_in a ≡ flags_in b → a ≡ b
same_marks a b qualifiers flags =
    by a b (same_words (words_in a) (words_in b) (ap (λ (q : Qualifiers). q.is_const) qualifiers) (ap (λ (q : Qualifiers). q.is_volatile) qualifiers) (ap (λ (f : Flags). f.noderef) flags))
    (ap (λ (f : Flags). f.space) flags)
  where
    by : (a b : Marks) → words_in a ≡ words_in b → space_seen (space_in a) ≡ space_seen (space_in b) → a ≡ b
    by (marked.WithoutSpace v) (marked.WithoutSpace w) words space = ap marked.WithoutSpace words
    by (marked.Numbered v m) (marked.Numbered w n) words space =
        let number : m ≡ n = cc space in
        λ i. marked.Numbered (words i) (number i)
    by (marked.Named v x) (marked.Named w y) words space =
        let name : x ≡ y = cc space in
        λ i. marked.Named (words i) (name i)
    by a b words space = absurd (cc space)

same_form : (types : List TypeTree) → StandOnce types → (f g : Form) → IsInside types f → IsInside types g → form_seen types f ≡ form_seen types g → f ≡ g
same_form types apart forms.Void forms.Void inside other e = refl
same_form types apart (forms.Integer k) (forms.Integer l) inside other e = ap forms.Integer (cc e)
same_form types apart (forms.Restricted k x) (forms.Restricted l y) inside other e =
    let kind : k ≡ l = cc e in
    let identity : x ≡ y = cc e in
    λ i. forms.Restricted (kind i) (identity i)
same_form types apart (forms.Pointer t) (forms.Pointer u) inside other e = ap forms.Pointer (same_number types apart t u inside other (cc e))
same_form types apart (forms.Array t m) (forms.Array u n) inside other e =
    let element : t ≡ u = same_number types apart t u inside other (cc e) in
    let count : m ≡ n = cc e in
    λ i. forms.Array (element i) (count i)
same_form types apart (forms.OpenArray t) (forms.OpenArray u) inside other e = ap forms.OpenArray (same_number types apart t u inside other (cc e))
same_form types apart (forms.Function t v) (forms.Function u w) inside other e =
    let result : t ≡ u = same_number types apart t u inside other (cc e) in
    let variadic : v ≡ w = cc e in
    λ i. forms.Function (result i) (variadic i)
same_form types apart (forms.Parameter t r) (forms.Parameter u s) inside other e =
    let first : t ≡ u = same_number types apart t u inside.0 other.0 (cc e) in
    let results : result_of (type_numbered types r) ≡ result_of (type_numbered types s) = cc e in
    let parameters : parameter_types (type_numbered types r) ≡ parameter_types (type_numbered types s) = cc e in
    let variadic : is_variadic (type_numbered types r) ≡ is_variadic (type_numbered types s) = cc e in
    let functions : type_numbered types r ≡ type_numbered types s =
    inside.2 ∙ (λ i. Typed (FunctionTree (results i) (parameters i) (variadic i)) no_qualifiers no_flags) ∙ sym other.2
    in
    let rest : r ≡ s = same_number types apart r s inside.1 other.1 functions in
    λ i. forms.Parameter (first i) (rest i)
same_form types apart (forms.Aggregate m v) (forms.Aggregate n w) inside other e =
    let number : m ≡ n = cc e in
    let is_union : v ≡ w = cc e in
    λ i. forms.Aggregate (number i) (is_union i)
same_form types apart f g inside other e = absurd (cc e)

abbrev qualifiers_of : TypeTree → Qualifiers
qualifiers_of (Typed base qualifiers flags) = qualifiers

abbrev flags_of : TypeTree → Flags
flags_of (Typed base qualifiers flags) = flags

pub same_shape : (types : List TypeTree) → StandOnce types → (a b : Shape) → IsInside types a.form → IsInside types b.form → type_seen types a ≡ type_seen types b → a ≡ b
same_shape types apart a b inside other e =
    let form : a.form ≡ b.form = same_form types apart a.form b.form inside other (ap base_of e) in
    let marks : a.marks ≡ b.marks = same_marks a.marks b.marks (ap qualifiers_of e) (ap flags_of e) in
    λ i. record { form = form i; marks = marks i }

-- Types that grow

-- old numbers keep their types
pub numbered-kept : (types more : List TypeTree) (number : ℕ) → number < length types → type_numbered (types ++ more) number ≡ type_numbered types number
numbered-kept types more number below = ap (λ found. unwrap_or found no_type) (slice_get-append types more number below)

pub base-kept : (types more : List TypeTree) (form : Form) → IsInside types form → form_seen (types ++ more) form ≡ form_seen types form
base-kept types more forms.Void inside = refl
base-kept types more (forms.Integer kind) inside = refl
base-kept types more (forms.Restricted kind identity) inside = refl
base-kept types more (forms.Pointer target) inside = ap PointerTree (numbered-kept types more target inside)
base-kept types more (forms.Array element count) inside = ap (λ t. ArrayTree t (Some count)) (numbered-kept types more element inside)
base-kept types more (forms.OpenArray element) inside = ap (λ t. ArrayTree t None) (numbered-kept types more element inside)
base-kept types more (forms.Function result variadic) inside = ap (λ t. FunctionTree t NoTypes variadic) (numbered-kept types more result inside)
base-kept types more (forms.Parameter first rest) inside =
    let one = numbered-kept types more first inside.0 in
    let others = numbered-kept types more rest inside.1 in
    λ i. FunctionTree (result_of (others i)) (MoreTypes (one i) (parameter_types (others i))) (is_variadic (others i))
base-kept types more (forms.Aggregate number is_union) inside = refl

pub inside-kept : (types more : List TypeTree) (form : Form) → IsInside types form → IsInside (types ++ more) form
inside-kept types more forms.Void inside = tt
inside-kept types more (forms.Integer kind) inside = tt
inside-kept types more (forms.Restricted kind identity) inside = tt
inside-kept types more (forms.Pointer target) inside = omega (arith, inside, length-append types more)
inside-kept types more (forms.Array element count) inside = omega (arith, inside, length-append types more)
inside-kept types more (forms.OpenArray element) inside = omega (arith, inside, length-append types more)
inside-kept types more (forms.Function result variadic) inside = omega (arith, inside, length-append types more)
inside-kept types more (forms.Parameter first rest) inside = (
  omega (arith, inside.0, length-append types more),
  omega (arith, inside.1, length-append types more),
  subst IsFunction (sym (numbered-kept types more rest inside.1)) inside.2,
)
inside-kept types more (forms.Aggregate number is_union) inside = tt

-- what is inside stands earlier than the next type
pub earlier-next : (types : List TypeTree) (number : ℕ) (form : Form) → length types ≡ number → IsInside types form → IsEarlier number form
earlier-next types number forms.Void long inside = tt
earlier-next types number (forms.Integer kind) long inside = tt
earlier-next types number (forms.Restricted kind identity) long inside = tt
earlier-next types number (forms.Pointer target) long inside = omega (arith, inside, long)
earlier-next types number (forms.Array element count) long inside = omega (arith, inside, long)
earlier-next types number (forms.OpenArray element) long inside = omega (arith, inside, long)
earlier-next types number (forms.Function result variadic) long inside = omega (arith, inside, long)
earlier-next types number (forms.Parameter first rest) long inside = (omega (arith, inside.0, long), omega (arith, inside.1, long))
earlier-next types number (forms.Aggregate token is_union) long inside = tt

-- a shape's type stays
pub seen-kept : (types more : List TypeTree) (shape : Shape) → IsInside types shape.form → type_seen (types ++ more) shape ≡ type_seen types shape
seen-kept types more shape inside =
    ap (λ base. Typed base (qualifiers_in shape.marks) (flags_in shape.marks))
    (base-kept types more shape.form inside)

-- What is left of a function

pub IsFunction-bare : (type_ : TypeTree) → IsFunction type_ → IsFunction (bare type_)
IsFunction-bare type_ is = subst (λ t. IsFunction (bare t)) (sym is) refl

pub IsFunction-unflagged : (type_ : TypeTree) → IsFunction type_ → IsFunction (without_flags type_)
IsFunction-unflagged type_ is = subst (λ t. IsFunction (without_flags t)) (sym is) refl
