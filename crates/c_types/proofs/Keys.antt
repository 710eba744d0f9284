-- Shapes and markings that compare alike are one.
use Rattle.std.proofs.Common.{◌≡◌, ℕ, Bool, true, false, refl, ap}
use mathlib.Core.Bool.{beq}
use Rattle.std.proofs.lemmas.Bool.{and_parts, and_from, eqb-true, false≢true}
use Rattle.std.proofs.lemmas.Bool.Decides.{Decides-eqb}
use Rattle.vocabulary.specs.declared.int_kind.IntKind.{IntKind}
use Rattle.vocabulary.specs.declared.int_kind.IntKind.TheVariants as kinds
use Rattle.vocabulary.specs.contracts.int_kind.IntKindPartialEq.TheImpl as kind_keys
use Rattle.c_types.specs.declared.form.Form.{Form}
use Rattle.c_types.specs.declared.form.Form.TheVariants as forms
use Rattle.c_types.specs.declared.form.Shape.{Shape}
use Rattle.c_types.specs.declared.form.MarkWords.{MarkWords}
use Rattle.c_types.specs.declared.form.Marks.{Marks}
use Rattle.c_types.specs.declared.form.Marks.TheVariants as marked
use Rattle.c_types.specs.declared.form.Marking.{Marking}
use Rattle.c_types.specs.contracts.form.MarkWordsPartialEq.TheImpl as words_keys
use Rattle.c_types.specs.contracts.form.FormPartialEq.TheImpl as form_keys
use Rattle.c_types.specs.contracts.form.ShapePartialEq.TheImpl as shape_keys
use Rattle.c_types.specs.contracts.form.MarksPartialEq.TheImpl as marks_keys
use Rattle.c_types.specs.contracts.form.MarkingPartialEq.TheImpl as marking_keys

-- the derived comparison
abbrev pub shape_eq : Shape → Shape → Bool
shape_eq = shape_keys.eq-value.it

abbrev pub marking_eq : Marking → Marking → Bool
marking_eq = marking_keys.eq-value.it

same_bool : (a b : Bool) → beq a b ≡ true → a ≡ b
same_bool true true h = refl
same_bool false false h = refl
same_bool true false h = absurd (false≢true h)
same_bool false true h = absurd (false≢true h)

bool_again : (a : Bool) → beq a a ≡ true
bool_again true = refl
bool_again false = refl

number_again : (n : ℕ) → Rattle.std.proofs.Common.nat_eq n n ≡ true
number_again n = (Decides-eqb n n).1 refl

same_kind : (a b : IntKind) → kind_keys.eq-value.it a b ≡ true → a ≡ b
same_kind kinds.Bool kinds.Bool h = refl
same_kind kinds.Char kinds.Char h = refl
same_kind kinds.SChar kinds.SChar h = refl
same_kind kinds.UChar kinds.UChar h = refl
same_kind kinds.Short kinds.Short h = refl
same_kind kinds.UShort kinds.UShort h = refl
same_kind kinds.Int kinds.Int h = refl
same_kind kinds.UInt kinds.UInt h = refl
same_kind kinds.Long kinds.Long h = refl
same_kind kinds.ULong kinds.ULong h = refl
same_kind kinds.LLong kinds.LLong h = refl
same_kind kinds.ULLong kinds.ULLong h = refl
same_kind a b h = absurd (false≢true h)

kind_again : (a : IntKind) → kind_keys.eq-value.it a a ≡ true
kind_again kinds.Bool = refl
kind_again other = refl

same_words : (a b : MarkWords) → words_keys.eq-value.it a b ≡ true → a ≡ b
same_words a b h =
    let is_const = same_bool a.is_const b.is_const (and_parts _ _ h).0 in
    let more = and_parts _ _ (and_parts _ _ h).1 in
    let is_volatile = same_bool a.is_volatile b.is_volatile more.0 in
    let noderef = same_bool a.noderef b.noderef more.1 in
    λ i. record { is_const = is_const i; is_volatile = is_volatile i; noderef = noderef i }

words_again : (a : MarkWords) → words_keys.eq-value.it a a ≡ true
words_again a = and_from _ _ (bool_again a.is_const) (and_from _ _ (bool_again a.is_volatile) (bool_again a.noderef))

same_marks : (a b : Marks) → marks_keys.eq-value.it a b ≡ true → a ≡ b
same_marks (marked.WithoutSpace v) (marked.WithoutSpace w) h = ap marked.WithoutSpace (same_words v w h)
same_marks (marked.Numbered v m) (marked.Numbered w n) h =
    let words = same_words v w (and_parts _ _ h).0 in
    let number = eqb-true m n (and_parts _ _ h).1 in
    λ i. marked.Numbered (words i) (number i)
same_marks (marked.Named v m) (marked.Named w n) h =
    let words = same_words v w (and_parts _ _ h).0 in
    let name = eqb-true m n (and_parts _ _ h).1 in
    λ i. marked.Named (words i) (name i)
same_marks a b h = absurd (false≢true h)

marks_again : (a : Marks) → marks_keys.eq-value.it a a ≡ true
marks_again (marked.WithoutSpace v) = words_again v
marks_again (marked.Numbered v m) = and_from _ _ (words_again v) (number_again m)
marks_again (marked.Named v m) = and_from _ _ (words_again v) (number_again m)

same_form_key : (a b : Form) → form_keys.eq-value.it a b ≡ true → a ≡ b
same_form_key forms.Void forms.Void h = refl
same_form_key (forms.Integer k) (forms.Integer l) h = ap forms.Integer (same_kind k l h)
same_form_key (forms.Restricted k x) (forms.Restricted l y) h =
    let kind = same_kind k l (and_parts _ _ h).0 in
    let identity = eqb-true x y (and_parts _ _ h).1 in
    λ i. forms.Restricted (kind i) (identity i)
same_form_key (forms.Pointer t) (forms.Pointer u) h = ap forms.Pointer (eqb-true t u h)
same_form_key (forms.Array t m) (forms.Array u n) h =
    let element = eqb-true t u (and_parts _ _ h).0 in
    let count = eqb-true m n (and_parts _ _ h).1 in
    λ i. forms.Array (element i) (count i)
same_form_key (forms.OpenArray t) (forms.OpenArray u) h = ap forms.OpenArray (eqb-true t u h)
same_form_key (forms.Function t v) (forms.Function u w) h =
    let result = eqb-true t u (and_parts _ _ h).0 in
    let variadic = same_bool v w (and_parts _ _ h).1 in
    λ i. forms.Function (result i) (variadic i)
same_form_key (forms.Parameter t r) (forms.Parameter u s) h =
    let first = eqb-true t u (and_parts _ _ h).0 in
    let rest = eqb-true r s (and_parts _ _ h).1 in
    λ i. forms.Parameter (first i) (rest i)
same_form_key (forms.Aggregate m v) (forms.Aggregate n w) h =
    let number = eqb-true m n (and_parts _ _ h).0 in
    let is_union = same_bool v w (and_parts _ _ h).1 in
    λ i. forms.Aggregate (number i) (is_union i)
same_form_key a b h = absurd (false≢true h)

form_again : (a : Form) → form_keys.eq-value.it a a ≡ true
form_again forms.Void = refl
form_again (forms.Integer k) = kind_again k
form_again (forms.Restricted k x) = and_from _ _ (kind_again k) (number_again x)
form_again (forms.Pointer t) = number_again t
form_again (forms.Array t n) = and_from _ _ (number_again t) (number_again n)
form_again (forms.OpenArray t) = number_again t
form_again (forms.Function t v) = and_from _ _ (number_again t) (bool_again v)
form_again (forms.Parameter t r) = and_from _ _ (number_again t) (number_again r)
form_again (forms.Aggregate n v) = and_from _ _ (number_again n) (bool_again v)

pub same_key : (a b : Shape) → shape_eq a b ≡ true → a ≡ b
same_key a b h =
    let form = same_form_key a.form b.form (and_parts _ _ h).0 in
    let marks = same_marks a.marks b.marks (and_parts _ _ h).1 in
    λ i. record { form = form i; marks = marks i }

pub key_again : (a : Shape) → shape_eq a a ≡ true
key_again a = and_from _ _ (form_again a.form) (marks_again a.marks)

pub same_marking : (a b : Marking) → marking_eq a b ≡ true → a ≡ b
same_marking a b h =
    let number = eqb-true a.number b.number (and_parts _ _ h).0 in
    let marks = same_marks a.marks b.marks (and_parts _ _ h).1 in
    λ i. record { number = number i; marks = marks i }
