-- Types to which something is added, level by level.
use Rattle.std.proofs.Common.{◌≡◌, ℕ, Bool, true, false, ◌||◌, List, Option, Some, None, if◌then◌else◌, refl, sym, ap, ◌∙◌}
use Rattle.vocabulary.specs.declared.int_kind.IntKind.{IntKind}
use Rattle.sparse_model.specs.declared.ids.Restrict.{Restrict}
use Rattle.sparse_model.specs.declared.space.Space.{Space}
use Rattle.sparse_model.specs.declared.space.Space.TheVariants as spaces
use Rattle.meaning_types.specs.Types as meaning
use Rattle.meaning_types.specs.Types.{Qualifiers, Flags, TypeTree, Typed, BaseTree, VoidTree, IntegerTree, RestrictedTree, PointerTree, ArrayTree, FunctionTree, AggregateTree, TypeTrees, NoTypes, no_qualifiers, no_flags}
use Rattle.meaning_types.specs.Marks.{both, later_space, marked, remarked_base, with_flags}
use Rattle.meaning_typing.specs.Specifiers.{restricted, restricted_base}
use Rattle.c_types.specs.declared.outline.Outline.TheVariants as outlines
use Rattle.c_types.specs.declared.shapes.ShapeBase.{ShapeBase}
use Rattle.c_types.specs.declared.shapes.TypeShape.{TypeShape}
use Rattle.c_types.specs.declared.shapes.OuterBase.{OuterBase}
use Rattle.c_types.specs.declared.shapes.OuterBase.TheVariants as outers
use Rattle.c_types.specs.declared.shapes.OuterShape.{OuterShape}
use Rattle.c_types.specs.Outlines.{outline_of}
use Rattle.c_types.specs.Rows.{type_numbered}
use Rattle.c_types.specs.Table.{TypeTable, base_of_outer, base_of_shape, flags_of_shape, qualifiers_of_shape, type_of_outer, type_of_shape, types_in}
use Rattle.decl_judge.specs.declared.marking.Added.{Added}
use Rattle.decl_judge.specs.Marking.{added_to, base_told, identity_added, is_plain_outer, level_told, nothing_added, outer_flags, outer_qualifiers, qualifiers_added}
use Rattle.decl_judge.specs.Seen.{marks_seen}

-- Nothing

or_false : (b : Bool) → b || false ≡ b
or_false true = refl
or_false false = refl

both_none : (own : Qualifiers) → both own no_qualifiers ≡ own
both_none own = (λ i. record { is_const = or_false own.is_const i; is_volatile = or_false own.is_volatile i })

flags_none : (own : Flags) → with_flags own no_flags ≡ own
flags_none own = (λ i. record { noderef = or_false own.noderef i; space = own.space })

later_than_none : (space : meaning.Space) → later_space meaning.NoSpace space ≡ space
later_than_none meaning.NoSpace = refl
later_than_none (meaning.NumberedSpace number) = refl
later_than_none (meaning.NamedSpace name) = refl

none_flags : (added : Flags) → with_flags no_flags added ≡ added
none_flags added = (λ i. record { noderef = added.noderef; space = later_than_none added.space i })

level_none : (base : BaseTree) (own : Qualifiers) (flags : Flags) → Typed base (both own no_qualifiers) (with_flags flags no_flags) ≡ Typed base own flags
level_none base own flags = (λ i. Typed base (both_none own i) (flags_none flags i))

pub marked_none : (type_ : TypeTree) → marked no_qualifiers no_flags type_ ≡ type_
marked_none (Typed VoidTree own flags) = level_none VoidTree own flags
marked_none (Typed (IntegerTree kind) own flags) = level_none (IntegerTree kind) own flags
marked_none (Typed (RestrictedTree kind identity) own flags) = level_none (RestrictedTree kind identity) own flags
marked_none (Typed (PointerTree target) own flags) = level_none (PointerTree target) own flags
marked_none (Typed (ArrayTree element length) own flags) = ap (λ inner. Typed (ArrayTree inner length) own flags) (marked_none element)
marked_none (Typed (FunctionTree result parameters variadic) own flags) = refl
marked_none (Typed (AggregateTree number is_union) own flags) = level_none (AggregateTree number is_union) own flags

pub added_nothing : (identity : ℕ) (type_ : TypeTree) → added_to identity nothing_added type_ ≡ type_
added_nothing identity type_ = marked_none (marked no_qualifiers no_flags type_) ∙ marked_none type_

-- Functions

if_same : {X : Type 0} (test : Bool) (x : X) → (if test then x else x) ≡ x
if_same true x = refl
if_same false x = refl

-- Qualifiers first, and then flags

level_twice : (base : BaseTree) (own added : Qualifiers) (flags later : Flags)
    → Typed base (both (both own added) no_qualifiers) (with_flags (with_flags flags no_flags) later) ≡ Typed base (both own added) (with_flags flags later)
level_twice base own added flags later = (λ i. Typed base (both_none (both own added) i) (with_flags (flags_none flags i) later))

module _ (added : Qualifiers) (later : Flags) where
  marked_twice : (type_ : TypeTree) → marked no_qualifiers later (marked added no_flags type_) ≡ marked added later type_
  marked_twice (Typed VoidTree own flags) = level_twice VoidTree own added flags later
  marked_twice (Typed (IntegerTree kind) own flags) = level_twice (IntegerTree kind) own added flags later
  marked_twice (Typed (RestrictedTree kind identity) own flags) = level_twice (RestrictedTree kind identity) own added flags later
  marked_twice (Typed (PointerTree target) own flags) = level_twice (PointerTree target) own added flags later
  marked_twice (Typed (ArrayTree element length) own flags) = ap (λ inner. Typed (ArrayTree inner length) own flags) (marked_twice element)
  marked_twice (Typed (FunctionTree result parameters variadic) own flags) = refl
  marked_twice (Typed (AggregateTree number is_union) own flags) = level_twice (AggregateTree number is_union) own added flags later

-- Levels

-- what is added to a type on this base is added to its outermost level
abbrev IsSingle : BaseTree → Type 0
IsSingle base = (added : Qualifiers) (changed : Flags → Flags) (own : Qualifiers) (flags : Flags)
    → remarked_base added changed own flags base ≡ Typed base (both own added) (changed flags)

if_typed : (test : Bool) (base other : BaseTree) (own : Qualifiers) (flags : Flags)
    → (if test then Typed base own flags else Typed other own flags) ≡ Typed (if test then base else other) own flags
if_typed true base other own flags = refl
if_typed false base other own flags = refl

single_if : (test : Bool) (base other : BaseTree) → IsSingle base → IsSingle other → IsSingle (if test then base else other)
single_if true base other single other_single = single
single_if false base other single other_single = other_single

module _ (identity : ℕ) (added : Added) (own : Qualifiers) (flags : Flags) where
  level_single : (base : BaseTree) → IsSingle base → IsSingle (restricted_base identity base)
      → marked (both own (qualifiers_added added)) (with_flags flags (marks_seen added.marks).flags)
      (Typed (if added.marks.is_bitwise then restricted_base identity base else base) no_qualifiers no_flags)
      ≡ added_to identity added (Typed base own flags)
  level_single base single other_single =
      let qualifiers = both own (qualifiers_added added) in
      let later = (marks_seen added.marks).flags in
      let together = with_flags flags later in
      let bitwise = added.marks.is_bitwise in
      let told = if bitwise then restricted_base identity base else base in
      let told_single = single_if bitwise (restricted_base identity base) base other_single single in
      told_single qualifiers (λ f. with_flags f together) no_qualifiers no_flags
      ∙ ap (Typed told qualifiers) (none_flags together)
      ∙ sym (λ i. Typed told (both_none qualifiers i) (with_flags (flags_none flags i) later))
      ∙ sym (told_single no_qualifiers (λ f. with_flags f later) qualifiers (with_flags flags no_flags))
      ∙ ap (marked no_qualifiers later)
      (sym (if_typed bitwise (restricted_base identity base) base qualifiers (with_flags flags no_flags))
      ∙ ap (λ type_. if bitwise then restricted identity type_ else type_) (sym (single (qualifiers_added added) (λ f. with_flags f no_flags) own flags)))

-- an array has nothing of its own
level_array : (identity : ℕ) (added : Added) (element : TypeTree) (length : Option ℕ)
    → marked (both no_qualifiers (qualifiers_added added)) (with_flags no_flags (marks_seen added.marks).flags) (Typed (ArrayTree element length) no_qualifiers no_flags)
    ≡ added_to identity added (Typed (ArrayTree element length) no_qualifiers no_flags)
level_array identity added element length =
    let qualifiers = qualifiers_added added in
    let later = (marks_seen added.marks).flags in
    ap (λ flags. Typed (ArrayTree (marked qualifiers flags element) length) no_qualifiers no_flags) (none_flags later)
    ∙ ap (λ inner. Typed (ArrayTree inner length) no_qualifiers no_flags) (sym (marked_twice qualifiers later element))
    ∙ ap (marked no_qualifiers later) (sym (if_same added.marks.is_bitwise (Typed (ArrayTree (marked qualifiers no_flags element) length) no_qualifiers no_flags)))

abbrev told_base : List TypeTree → Option ShapeBase → BaseTree
told_base types None = VoidTree
told_base types (Some base) = base_of_shape types base

-- a base that isn't restricted, or is if that is added
abbrev restricted_if : (identity : ℕ) → Bool → BaseTree → BaseTree
restricted_if identity bitwise base = if bitwise then restricted_base identity base else base

integer_told : (types : List TypeTree) (identity : ℕ) (bitwise : Bool) (kind : IntKind) (own : Option Restrict)
    → told_base types (base_told (outers.Integer kind own) (if bitwise then Some (record { 0 = identity }) else None))
    ≡ restricted_if identity bitwise (base_of_outer types NoTypes (outers.Integer kind own))
integer_told types identity true kind None = refl
integer_told types identity true kind (Some own) = refl
integer_told types identity false kind None = refl
integer_told types identity false kind (Some own) = refl

module _ (table : TypeTable) (parameters : TypeTrees) (identity : ℕ) (added : Added) where
  abbrev IsMarked : OuterShape → BaseTree → Type 0
  IsMarked shape told =
      marked (both (outer_qualifiers shape) (qualifiers_added added)) (with_flags (outer_flags shape) (marks_seen added.marks).flags) (Typed told no_qualifiers no_flags)
      ≡ added_to identity added (type_of_outer (types_in table) parameters shape)

  abbrev Holds : OuterShape → Type 0
  Holds shape = (base : ShapeBase) → level_told shape.base (is_plain_outer shape) (identity_added added identity) ≡ Some base
      → IsMarked shape (base_of_shape (types_in table) base)

  single : (shape : OuterShape) (base told : BaseTree) → IsSingle base → IsSingle (restricted_base identity base)
      → type_of_outer (types_in table) parameters shape ≡ Typed base (outer_qualifiers shape) (outer_flags shape)
      → told ≡ restricted_if identity added.marks.is_bitwise base → IsMarked shape told
  single shape base told is_single other_single is told_is =
      let later = (marks_seen added.marks).flags in
      ap (λ b. marked (both (outer_qualifiers shape) (qualifiers_added added)) (with_flags (outer_flags shape) later) (Typed b no_qualifiers no_flags)) told_is
      ∙ level_single identity added (outer_qualifiers shape) (outer_flags shape) base is_single other_single
      ∙ ap (added_to identity added) (sym is)

  same_told : (base : BaseTree) → restricted_base identity base ≡ base → base ≡ restricted_if identity added.marks.is_bitwise base
  same_told base is = sym (ap (λ other. if added.marks.is_bitwise then other else base) is ∙ if_same added.marks.is_bitwise base)

  by_base : (c v n : Bool) (space : Space) (outer : OuterBase) → Holds (record { base = outer; is_const = c; is_volatile = v; noderef = n; space = space })
  by_base c v n space outers.Void base is =
      single (record { base = outers.Void; is_const = c; is_volatile = v; noderef = n; space = space }) VoidTree (base_of_shape (types_in table) base)
      (λ q f own flags. refl) (λ q f own flags. refl) refl (sym (ap (told_base (types_in table)) is) ∙ same_told VoidTree refl)
  by_base c v n space (outers.Integer kind None) base is =
      single (record { base = outers.Integer kind None; is_const = c; is_volatile = v; noderef = n; space = space }) (IntegerTree kind)
      (base_of_shape (types_in table) base) (λ q f own flags. refl) (λ q f own flags. refl) refl
      (sym (ap (told_base (types_in table)) is) ∙ integer_told (types_in table) identity added.marks.is_bitwise kind None)
  by_base c v n space (outers.Integer kind (Some own)) base is =
      single (record { base = outers.Integer kind (Some own); is_const = c; is_volatile = v; noderef = n; space = space }) (RestrictedTree kind own.0)
      (base_of_shape (types_in table) base) (λ q f own flags. refl) (λ q f own flags. refl) refl
      (sym (ap (told_base (types_in table)) is) ∙ integer_told (types_in table) identity added.marks.is_bitwise kind (Some own))
  by_base c v n space (outers.Pointer target) base is =
      single (record { base = outers.Pointer target; is_const = c; is_volatile = v; noderef = n; space = space }) (PointerTree (type_numbered (types_in table) target.0))
      (base_of_shape (types_in table) base) (λ q f own flags. refl) (λ q f own flags. refl) refl
      (sym (ap (told_base (types_in table)) is) ∙ same_told (PointerTree (type_numbered (types_in table) target.0)) refl)
  by_base false false false spaces.None (outers.Array element length) base is =
      ap
      (λ b. marked (both no_qualifiers (qualifiers_added added)) (with_flags no_flags (marks_seen added.marks).flags) (Typed b no_qualifiers no_flags))
      (sym (ap (told_base (types_in table)) is))
      ∙ level_array identity added (type_numbered (types_in table) element.0) length
  by_base c v n space (outers.Array element length) base is = cc
  by_base c v n space (outers.Function result count variadic) base is = cc
  by_base c v n space (outers.Aggregate number is_union) base is =
      single (record { base = outers.Aggregate number is_union; is_const = c; is_volatile = v; noderef = n; space = space }) (AggregateTree number is_union)
      (base_of_shape (types_in table) base) (λ q f own flags. refl) (λ q f own flags. refl) refl
      (sym (ap (told_base (types_in table)) is) ∙ same_told (AggregateTree number is_union) refl)

  -- the shape of a level, with what is added to it
  pub level_marked : (shape : OuterShape) (base : ShapeBase) (made : TypeShape)
      → level_told shape.base (is_plain_outer shape) (identity_added added identity) ≡ Some base → made.base ≡ base
      → qualifiers_of_shape made ≡ both (outer_qualifiers shape) (qualifiers_added added)
      → flags_of_shape made ≡ with_flags (outer_flags shape) (marks_seen added.marks).flags
      → type_of_shape table made ≡ added_to identity added (type_of_outer (types_in table) parameters shape)
  level_marked shape base made is same_base same_qualifiers same_flags =
      (λ i. marked (same_qualifiers i) (same_flags i) (Typed (base_of_shape (types_in table) (same_base i)) no_qualifiers no_flags))
      ∙ by_base shape.is_const shape.is_volatile shape.noderef shape.space shape.base base is
