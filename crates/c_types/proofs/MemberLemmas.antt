-- What members take.
use Rattle.std.proofs.Common.{◌≡◌, ℕ, ◌*◌, ◌<◌, ◌^◌, Bool, true, false, cond, nat_le, List, [], ◌∷◌, ◌++◌, All, IfOk, IfSome, Option, Some, None, Result, Ok, Err, map, refl, sym, ap, ◌∙◌, subst, arith, append-nil, append_assoc, replicate, length, slice_get, option_map}
use Rattle.std.proofs.lemmas.Bool.{leb-true}
use Rattle.std.proofs.lemmas.List.{map-append}
use Rattle.std.proofs.lemmas.List.Elements.{All-head, All-tail}
use Rattle.std.proofs.lemmas.Option.{none-some, same_Some}
use Rattle.std.specs.Option.{ok_or}
use Rattle.vocabulary.specs.declared.int_kind.IntKind.{IntKind}
use Rattle.vocabulary.specs.declared.int_kind.IntKind.TheVariants as kinds
use Rattle.meaning_types.specs.Types.{TypeTree, Typed, BaseTree, VoidTree, IntegerTree, RestrictedTree, PointerTree, ArrayTree, FunctionTree, AggregateTree}
use Rattle.meaning_layout.specs.Bodies.{LayoutMember}
use Rattle.meaning_layout.specs.Layouts.{Layout, LayoutFault, TooLarge, most_bytes}
use Rattle.meaning_layout.specs.Sizes.{Extent, Told, array_extent, bytes_of, extent_of, extent_of_base, member_extent, told_extent}
use Rattle.meaning_layout.specs.Layouts.{layout_of}
use Rattle.meaning_layout.specs.Telling.{member_before, field_width}
use Rattle.body_layout.specs.declared.member.PlacedMember.{PlacedMember}
use Rattle.body_layout.specs.declared.structure.BodyLayout.{BodyLayout}
use Rattle.body_layout.specs.declared.union.Extent as code
use Rattle.body_layout.specs.Seen.{IsNarrow, IsPlaced, layout_seen, member_seen, structure_body, union_body, union_seen}
use Rattle.body_layout.proofs.NarrowLemmas.{structure-narrow, union-narrow}
use Rattle.c_types.specs.declared.bodies.Member.{Member}
use Rattle.c_types.specs.declared.form.Form.{Form}
use Rattle.c_types.specs.declared.form.Form.TheVariants as forms
use Rattle.c_types.specs.declared.form.Shape.{Shape}
use Rattle.c_types.specs.declared.layouts.AggregateLayout.{AggregateLayout}
use Rattle.c_types.specs.declared.layouts.LayoutFault as told_faults
use Rattle.c_types.specs.declared.layouts.LayoutFault.TheVariants as faults
use Rattle.c_types.specs.Forms.{open_element_in}
use Rattle.c_types.specs.Layouts.{AreNarrow, IsNarrowLayout, layout_kept, open_element_of, placed_before, structure_kept, union_kept}
use Rattle.c_types.specs.Rows.{AreRows, IsInside, Row, type_numbered, type_seen, types_of}
use Rattle.c_types.specs.Table.{integer_kind}
use Rattle.c_types.proofs.RowLemmas.{numbered-row}

-- Sizes and alignments that an object may have

abbrev IsNarrowIfOk : Result Extent LayoutFault → Type 0
IsNarrowIfOk made = IfOk made (λ extent. IsNarrow extent.size extent.align)

narrow_kind : (kind : IntKind) → IsNarrow (bytes_of kind) (bytes_of kind)
narrow_kind kinds.Bool = record { few = omega arith; some = omega arith; narrow = omega arith }
narrow_kind kind = record { few = omega arith; some = omega arith; narrow = omega arith }

array_by : (length : ℕ) (element : Extent) → IsNarrow element.size element.align → (test : Bool) → nat_le (length * element.size) most_bytes ≡ test
    → IsNarrowIfOk (cond test (Ok (record { size = length * element.size; align = element.align })) (Err TooLarge))
array_by length element is true few = record { few = leb-true (length * element.size) most_bytes few; some = is.some; narrow = is.narrow }
array_by length element is false few = tt

narrow_array : (length : ℕ) (element : Result Extent LayoutFault) → IsNarrowIfOk element → IsNarrowIfOk (array_extent length element)
narrow_array length (Err fault) is = tt
narrow_array length (Ok element) is = array_by length element is (nat_le (length * element.size) most_bytes) refl

narrow_aggregate : (made : Option (Result Layout LayoutFault)) → IfSome made (λ found. IfOk found (λ layout. IsNarrow layout.size layout.align)) → IsNarrowIfOk (told_extent made)
narrow_aggregate None is = tt
narrow_aggregate (Some (Err fault)) is = tt
narrow_aggregate (Some (Ok layout)) is = is

module _ (told : Told) (are : AreNarrow told) where
  mutual
    narrow_type : (type_ : TypeTree) → IsNarrowIfOk (extent_of told type_)
    narrow_type (Typed base qualifiers flags) = narrow_base base

    narrow_base : (base : BaseTree) → IsNarrowIfOk (extent_of_base told base)
    narrow_base VoidTree = tt
    narrow_base (IntegerTree kind) = narrow_kind kind
    narrow_base (RestrictedTree kind identity) = narrow_kind kind
    narrow_base (PointerTree target) = record { few = omega arith; some = omega arith; narrow = omega arith }
    narrow_base (ArrayTree element None) = tt
    narrow_base (ArrayTree element (Some length)) = narrow_array length (extent_of told element) (narrow_type element)
    narrow_base (FunctionTree result parameters variadic) = tt
    narrow_base (AggregateTree number is_union) = narrow_aggregate (told number is_union) (are number is_union)

  pub narrow_member : (type_ : TypeTree) → IsNarrowIfOk (member_extent told type_)
  narrow_member (Typed (ArrayTree element None) qualifiers flags) = narrow_array 0 (extent_of told element) (narrow_type element)
  narrow_member (Typed (ArrayTree element (Some length)) qualifiers flags) = narrow_base (ArrayTree element (Some length))
  narrow_member (Typed VoidTree qualifiers flags) = narrow_base VoidTree
  narrow_member (Typed (IntegerTree kind) qualifiers flags) = narrow_base (IntegerTree kind)
  narrow_member (Typed (RestrictedTree kind identity) qualifiers flags) = narrow_base (RestrictedTree kind identity)
  narrow_member (Typed (PointerTree target) qualifiers flags) = narrow_base (PointerTree target)
  narrow_member (Typed (FunctionTree result parameters variadic) qualifiers flags) = narrow_base (FunctionTree result parameters variadic)
  narrow_member (Typed (AggregateTree number is_union) qualifiers flags) = narrow_base (AggregateTree number is_union)

-- a bit-field is of a type that isn't empty
some_kind : (kind : IntKind) → 0 < bytes_of kind
some_kind kinds.Bool = omega arith
some_kind kind = omega arith

pub field-some : (told : Told) (type_ : TypeTree) (written : Option ℕ) (width : ℕ) (extent : Extent) → field_width type_ written ≡ Some width → member_extent told type_ ≡ Ok extent → 0 < extent.size
field-some told (Typed (IntegerTree kind) qualifiers flags) written width extent is made =
    let same : bytes_of kind ≡ extent.size = cc in
    subst (λ n. 0 < n) same (some_kind kind)
field-some told (Typed (RestrictedTree kind identity) qualifiers flags) written width extent is made =
    let same : bytes_of kind ≡ extent.size = cc in
    subst (λ n. 0 < n) same (some_kind kind)
field-some told (Typed VoidTree qualifiers flags) written width extent is made = absurd (cc is)
field-some told (Typed (PointerTree target) qualifiers flags) written width extent is made = absurd (cc is)
field-some told (Typed (ArrayTree element length) qualifiers flags) written width extent is made = absurd (cc is)
field-some told (Typed (FunctionTree result parameters variadic) qualifiers flags) written width extent is made = absurd (cc is)
field-some told (Typed (AggregateTree number is_union) qualifiers flags) written width extent is made = absurd (cc is)

-- a member that takes what its type takes is right
pub placed-right : (told : Told) → AreNarrow told → (type_ : TypeTree) (written own : Option ℕ) (named : Bool) (size align effect : ℕ)
    → member_extent told type_ ≡ Ok (record { size = size; align = align }) → own ≡ field_width type_ written → 0 < effect → effect < 2 ^ 32
    → IsPlaced (record { size = size; align = align; width = own; named = named; written = effect })
placed-right told are type_ written own named size align effect made is_own some few =
    let narrow : IsNarrow size align = subst IsNarrowIfOk made (narrow_member told are type_) in
    record {
      size = omega (arith, narrow.few);
      align = narrow.narrow;
      some = narrow.some;
      written = some;
      narrow = few;
      field = λ width is. field-some told type_ written width (record { size = size; align = align }) (sym is_own ∙ is) made;
    }

-- a type of integers has its bits, another one none
pub field-some_kind : (type_ : TypeTree) (kind : IntKind) (width : Option ℕ) → Some kind ≡ integer_kind type_ → width ≡ field_width type_ width
field-some_kind (Typed (IntegerTree own) qualifiers flags) kind width is = refl
field-some_kind (Typed (RestrictedTree own identity) qualifiers flags) kind width is = refl
field-some_kind (Typed VoidTree qualifiers flags) kind width is = absurd (none-some kind (sym is))
field-some_kind (Typed (PointerTree target) qualifiers flags) kind width is = absurd (none-some kind (sym is))
field-some_kind (Typed (ArrayTree element length) qualifiers flags) kind width is = absurd (none-some kind (sym is))
field-some_kind (Typed (FunctionTree result parameters variadic) qualifiers flags) kind width is = absurd (none-some kind (sym is))
field-some_kind (Typed (AggregateTree number is_union) qualifiers flags) kind width is = absurd (none-some kind (sym is))

pub field-no_kind : (type_ : TypeTree) (width : Option ℕ) → None ≡ integer_kind type_ → None ≡ field_width type_ width
field-no_kind (Typed (IntegerTree own) qualifiers flags) width is = absurd (none-some own is)
field-no_kind (Typed (RestrictedTree own identity) qualifiers flags) width is = absurd (none-some own is)
field-no_kind (Typed VoidTree qualifiers flags) width is = refl
field-no_kind (Typed (PointerTree target) qualifiers flags) width is = refl
field-no_kind (Typed (ArrayTree element length) qualifiers flags) width is = refl
field-no_kind (Typed (FunctionTree result parameters variadic) qualifiers flags) width is = refl
field-no_kind (Typed (AggregateTree number is_union) qualifiers flags) width is = refl

-- Arrays without a length

open-seen : (types : List TypeTree) (shape : Shape) → option_map (type_numbered types) (open_element_in shape.form) ≡ open_element_of (type_seen types shape)
open-seen types shape = by shape.form
  where
    by : (form : Form) → option_map (type_numbered types) (open_element_in form) ≡ open_element_of (type_seen types (record shape { form = form }))
    by (forms.OpenArray element) = refl
    by form = refl

open-inside : (types : List TypeTree) (form : Form) → IsInside types form → IfSome (open_element_in form) (λ element. element < length types)
open-inside types (forms.OpenArray element) inside = inside
open-inside types form inside = tt

module _ (rows : List Row) (are : AreRows rows) (number : ℕ) (row : Row) (found : slice_get rows number ≡ Some row) where
  pub open-told : option_map (type_numbered (types_of rows)) (open_element_in row.0.form) ≡ open_element_of (type_numbered (types_of rows) number)
  open-told = open-seen (types_of rows) row.0 ∙ ap open_element_of (sym (numbered-row rows are number row found))

  pub open-known : IfSome (open_element_in row.0.form) (λ element. element < length (types_of rows))
  open-known = open-inside (types_of rows) row.0.form (are.each number row found).inside

-- another type takes as a member what it takes by itself
pub member-closed : (told : Told) (type_ : TypeTree) → None ≡ open_element_of type_ → extent_of told type_ ≡ member_extent told type_
member-closed told (Typed (ArrayTree element None) qualifiers flags) none = absurd (none-some element none)
member-closed told (Typed (ArrayTree element (Some length)) qualifiers flags) none = refl
member-closed told (Typed VoidTree qualifiers flags) none = refl
member-closed told (Typed (IntegerTree kind) qualifiers flags) none = refl
member-closed told (Typed (RestrictedTree kind identity) qualifiers flags) none = refl
member-closed told (Typed (PointerTree target) qualifiers flags) none = refl
member-closed told (Typed (FunctionTree result parameters variadic) qualifiers flags) none = refl
member-closed told (Typed (AggregateTree number is_union) qualifiers flags) none = refl

pub member-open : (told : Told) (type_ element : TypeTree) → Some element ≡ open_element_of type_ → array_extent 0 (extent_of told element) ≡ member_extent told type_
member-open told (Typed (ArrayTree own None) qualifiers flags) element is = ap (λ t. array_extent 0 (extent_of told t)) (same_Some _ _ is)
member-open told (Typed (ArrayTree own (Some length)) qualifiers flags) element is = absurd (none-some element (sym is))
member-open told (Typed VoidTree qualifiers flags) element is = absurd (none-some element (sym is))
member-open told (Typed (IntegerTree kind) qualifiers flags) element is = absurd (none-some element (sym is))
member-open told (Typed (RestrictedTree kind identity) qualifiers flags) element is = absurd (none-some element (sym is))
member-open told (Typed (PointerTree target) qualifiers flags) element is = absurd (none-some element (sym is))
member-open told (Typed (FunctionTree result parameters variadic) qualifiers flags) element is = absurd (none-some element (sym is))
member-open told (Typed (AggregateTree number is_union) qualifiers flags) element is = absurd (none-some element (sym is))

-- no elements take nothing
pub none-extent : (one : Extent) → array_extent 0 (Ok one) ≡ Ok (record { size = 0; align = one.align })
none-extent one = λ i. cond (nat_le (nothing one.size i) most_bytes) (Ok (record { size = nothing one.size i; align = one.align })) (Err TooLarge)
  where
    nothing : (size : ℕ) → 0 * size ≡ 0
    nothing size = omega arith

-- Lists of members

pub first-known : (count : ℕ) (all : List Member) (member : Member) (others : List Member) → all ≡ member ∷ others → All (λ m. m.of.0 < count) all → member.of.0 < count
first-known count all member others split known = All-head (λ m. m.of.0 < count) member others (subst (All (λ m. m.of.0 < count)) split known)

pub rest-known : (count : ℕ) (all : List Member) (member : Member) (others : List Member) → all ≡ member ∷ others → All (λ m. m.of.0 < count) all → All (λ m. m.of.0 < count) others
rest-known count all member others split known = All-tail (λ m. m.of.0 < count) member others (subst (All (λ m. m.of.0 < count)) split known)

pub before-none : (members : Result (List LayoutMember) LayoutFault) → members ≡ placed_before [] members
before-none (Err fault) = refl
before-none (Ok members) = refl

pub before-more : (placed : List PlacedMember) (one : PlacedMember) (rest : Result (List LayoutMember) LayoutFault) → placed_before placed (member_before (Ok (member_seen one)) rest) ≡ placed_before (placed ++ one ∷ []) rest
before-more placed one (Err fault) = refl
before-more placed one (Ok others) =
    ap Ok (sym (append_assoc (map member_seen placed) (member_seen one ∷ []) others)) ∙ ap (λ front. Ok (front ++ others)) (sym (map-append member_seen placed (one ∷ [])))

pub before-nothing : (placed : List PlacedMember) → placed_before placed (Ok []) ≡ Ok (map member_seen placed)
before-nothing placed = ap Ok (append-nil (map member_seen placed))

-- Layouts

zeros : (members : List PlacedMember) → replicate (length members) 0 ≡ map {B = ℕ} (λ member. 0) members
zeros [] = refl
zeros (member ∷ members) = ap (λ bits. 0 ∷ bits) (zeros members)

union-or : (bits : List ℕ) (count : ℕ) (extent : Option code.Extent) → replicate count 0 ≡ bits → union_kept count (ok_or extent faults.TooLarge) ≡ union_seen bits extent
union-or bits count None same = refl
union-or bits count (Some extent) same = λ i. Ok (record { first_bits = same i; size = extent.size; align = extent.align })

pub union-made : (members : List PlacedMember) (extent : Option code.Extent) → union_kept (length members) (ok_or extent faults.TooLarge) ≡ union_seen (map (λ member. 0) members) extent
union-made members extent = union-or (map (λ member. 0) members) (length members) extent (zeros members)

pub structure-made : (layout : Option BodyLayout) → structure_kept (ok_or layout faults.TooLarge) ≡ layout_seen layout
structure-made None = refl
structure-made (Some layout) = refl

ok_from : (made : Result Layout LayoutFault) (P : Layout → Type 0) → ((layout : Layout) → made ≡ Ok layout → P layout) → IfOk made P
ok_from (Err fault) P h = tt
ok_from (Ok layout) P h = h layout refl

pub both-narrow : (packed : Bool) (written : ℕ) (members : List PlacedMember) (made : AggregateLayout) → All IsPlaced members → 0 < written → written < 2 ^ 32
    → layout_kept made false ≡ layout_of (structure_body packed written members) → layout_kept made true ≡ layout_of (union_body packed written members) → IsNarrowLayout made
both-narrow packed written members made are some few structure union = λ is_union. by is_union
  where
    by : (is_union : Bool) → IfOk (layout_kept made is_union) (λ layout. IsNarrow layout.size layout.align)
    by true = ok_from (layout_kept made true) (λ layout. IsNarrow layout.size layout.align) (λ layout is. union-narrow packed written members are some few layout (sym union ∙ is))
    by false = ok_from (layout_kept made false) (λ layout. IsNarrow layout.size layout.align) (λ layout is. structure-narrow packed written members are some few layout (sym structure ∙ is))

pub faulty-narrow : (fault : told_faults.LayoutFault) (count : ℕ) → IsNarrowLayout (record { structure = Err fault; union = Err fault; count = count })
faulty-narrow fault count = λ is_union. by is_union
  where
    by : (is_union : Bool) → IfOk (layout_kept (record { structure = Err fault; union = Err fault; count = count }) is_union) (λ layout. IsNarrow layout.size layout.align)
    by true = tt
    by false = tt
