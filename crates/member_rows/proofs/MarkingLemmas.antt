-- Types of members in a place with qualifiers and flags, level by level.
use Rattle.std.proofs.Common.{◌≡◌, Bool, true, false, ◌||◌, List, Option, Some, None, refl, sym, ap, ◌∙◌}
use Rattle.sparse_model.specs.declared.space.Space.TheVariants as spaces
use Rattle.sparse_model.specs.declared.space.Space as code
use Rattle.meaning_types.specs.Types.{Space, NoSpace, NumberedSpace, NamedSpace, Qualifiers, Flags, TypeTree, Typed, BaseTree, VoidTree, IntegerTree, RestrictedTree, PointerTree, ArrayTree, FunctionTree, AggregateTree, TypeTrees, no_qualifiers, no_flags}
use Rattle.meaning_types.specs.Marks.{both, later_space, marked, member_type, remarked_base, with_flags}
use Rattle.c_types.specs.declared.shapes.ShapeBase.{ShapeBase}
use Rattle.c_types.specs.declared.shapes.TypeShape.{TypeShape}
use Rattle.c_types.specs.declared.shapes.OuterBase.{OuterBase}
use Rattle.c_types.specs.declared.shapes.OuterBase.TheVariants as outers
use Rattle.c_types.specs.declared.shapes.OuterShape.{OuterShape}
use Rattle.c_types.specs.Rows.{type_numbered}
use Rattle.c_types.specs.Table.{TypeTable, base_of_shape, flags_of_shape, qualifiers_of_shape, space_of, type_of_outer, type_of_shape, types_in}
use Rattle.member_rows.specs.declared.marks.PlaceMarks.{PlaceMarks}
use Rattle.member_rows.specs.Marks.{base_of_level, flags_in_place, flags_seen, innermost_space, is_plain_level, marks_of_level, qualifiers_seen, space_over}

-- Nothing

or_false : (b : Bool) → (b || false) ≡ b
or_false true = refl
or_false false = refl

or_both : (a b : Bool) → (a || b) ≡ (b || a)
or_both true true = refl
or_both true false = refl
or_both false true = refl
or_both false false = refl

both_none : (own : Qualifiers) → both own no_qualifiers ≡ own
both_none own = (λ i. record { is_const = or_false own.is_const i; is_volatile = or_false own.is_volatile i })

later_than_none : (space : Space) → later_space NoSpace space ≡ space
later_than_none NoSpace = refl
later_than_none (NumberedSpace number) = refl
later_than_none (NamedSpace name) = refl

none_flags : (flags : Flags) → with_flags no_flags flags ≡ flags
none_flags flags = (λ i. record { noderef = flags.noderef; space = later_than_none flags.space i })

level_none : (base : BaseTree) (own : Qualifiers) (flags : Flags) → Typed base (both own no_qualifiers) (with_flags no_flags flags) ≡ Typed base own flags
level_none base own flags = (λ i. Typed base (both_none own i) (none_flags flags i))

-- a place without qualifiers and flags adds nothing
pub member_none : (type_ : TypeTree) → member_type no_qualifiers no_flags type_ ≡ type_
member_none (Typed VoidTree own flags) = level_none VoidTree own flags
member_none (Typed (IntegerTree kind) own flags) = level_none (IntegerTree kind) own flags
member_none (Typed (RestrictedTree kind identity) own flags) = level_none (RestrictedTree kind identity) own flags
member_none (Typed (PointerTree target) own flags) = level_none (PointerTree target) own flags
member_none (Typed (ArrayTree element length) own flags) = ap (λ inner. Typed (ArrayTree inner length) own flags) (member_none element)
member_none (Typed (FunctionTree result parameters variadic) own flags) = refl
member_none (Typed (AggregateTree number is_union) own flags) = level_none (AggregateTree number is_union) own flags

-- Elements

-- a space that is told over an own one, which stays
space_stays : (place own : Space) → later_space own (space_over place own) ≡ later_space place own
space_stays NoSpace own = sym (later_than_none own)
space_stays (NumberedSpace number) NoSpace = refl
space_stays (NumberedSpace number) (NumberedSpace other) = refl
space_stays (NumberedSpace number) (NamedSpace name) = refl
space_stays (NamedSpace name) NoSpace = refl
space_stays (NamedSpace name) (NumberedSpace other) = refl
space_stays (NamedSpace name) (NamedSpace other) = refl

module _ (added : Qualifiers) (noderef : Bool) (place : Space) where
  abbrev told : Space → Flags
  told innermost = record { noderef = noderef; space = space_over place innermost }

  abbrev around : Flags
  around = record { noderef = noderef; space = place }

  level_stays : (base : BaseTree) (own : Qualifiers) (flags : Flags)
      → Typed base (both own added) (with_flags flags (told flags.space)) ≡ Typed base (both own added) (with_flags around flags)
  level_stays base own flags = (λ i. Typed base (both own added) (record { noderef = or_both flags.noderef noderef i; space = space_stays place flags.space i }))

  pub element_marked : (type_ : TypeTree) → marked added (told (innermost_space type_)) type_ ≡ member_type added around type_
  element_marked (Typed VoidTree own flags) = level_stays VoidTree own flags
  element_marked (Typed (IntegerTree kind) own flags) = level_stays (IntegerTree kind) own flags
  element_marked (Typed (RestrictedTree kind identity) own flags) = level_stays (RestrictedTree kind identity) own flags
  element_marked (Typed (PointerTree target) own flags) = level_stays (PointerTree target) own flags
  element_marked (Typed (ArrayTree element length) own flags) = ap (λ inner. Typed (ArrayTree inner length) own flags) (element_marked element)
  element_marked (Typed (FunctionTree result parameters variadic) own flags) = refl
  element_marked (Typed (AggregateTree number is_union) own flags) = level_stays (AggregateTree number is_union) own flags

-- Levels

-- what is added to a type on this base is added to its outermost level
abbrev IsSingle : BaseTree → Type 0
IsSingle base = (added : Qualifiers) (changed : Flags → Flags) (own : Qualifiers) (flags : Flags)
    → remarked_base added changed own flags base ≡ Typed base (both own added) (changed flags)

-- a level that is made with all its qualifiers and flags is one to which they are added
level_single : (base : BaseTree) → IsSingle base → (added own : Qualifiers) (place flags : Flags)
    → marked (both own added) (with_flags place flags) (Typed base no_qualifiers no_flags) ≡ member_type added place (Typed base own flags)
level_single base single added own place flags =
    single (both own added) (λ f. with_flags f (with_flags place flags)) no_qualifiers no_flags
    ∙ ap (Typed base (both own added)) (none_flags (with_flags place flags))
    ∙ sym (single added (λ f. with_flags place f) own flags)

abbrev told_base : List TypeTree → Option ShapeBase → BaseTree
told_base types None = VoidTree
told_base types (Some base) = base_of_shape types base

module _ (table : TypeTable) (parameters : TypeTrees) (marks : PlaceMarks) where
  abbrev types : List TypeTree
  types = types_in table

  abbrev Holds : OuterShape → Type 0
  Holds shape = (base : ShapeBase) → base_of_level (is_plain_level shape) shape.base ≡ Some base
      → marked (both (qualifiers_seen (marks_of_level shape)) (qualifiers_seen marks)) (flags_in_place types marks shape)
      (Typed (base_of_shape types base) no_qualifiers no_flags)
      ≡ member_type (qualifiers_seen marks) (flags_seen marks) (type_of_outer types parameters shape)

  abbrev level : OuterBase → (c v n : Bool) → code.Space → OuterShape
  level outer c v n space = record { base = outer; is_const = c; is_volatile = v; noderef = n; space = space }

  single : (outer : OuterBase) (c v n : Bool) (space : code.Space) (base : BaseTree) → IsSingle base
      → type_of_outer types parameters (level outer c v n space) ≡ Typed base (qualifiers_seen (marks_of_level (level outer c v n space))) (flags_seen (marks_of_level (level outer c v n space)))
      → flags_in_place types marks (level outer c v n space) ≡ with_flags (flags_seen marks) (flags_seen (marks_of_level (level outer c v n space)))
      → (told : BaseTree) → told ≡ base
      → marked (both (qualifiers_seen (marks_of_level (level outer c v n space))) (qualifiers_seen marks)) (flags_in_place types marks (level outer c v n space)) (Typed told no_qualifiers no_flags)
      ≡ member_type (qualifiers_seen marks) (flags_seen marks) (type_of_outer types parameters (level outer c v n space))
  single outer c v n space base is_single is flags_are told told_is =
      let own = qualifiers_seen (marks_of_level (level outer c v n space)) in
      (λ i. marked (both own (qualifiers_seen marks)) (flags_are i) (Typed (told_is i) no_qualifiers no_flags))
      ∙ level_single base is_single (qualifiers_seen marks) own (flags_seen marks) (flags_seen (marks_of_level (level outer c v n space)))
      ∙ ap (member_type (qualifiers_seen marks) (flags_seen marks)) (sym is)

  by_base : (c v n : Bool) (space : code.Space) (outer : OuterBase) → Holds (level outer c v n space)
  by_base c v n space outers.Void base is =
      single outers.Void c v n space VoidTree (λ q f own flags. refl) refl refl (base_of_shape types base) (sym (ap (told_base types) is))
  by_base c v n space (outers.Integer kind None) base is =
      single (outers.Integer kind None) c v n space (IntegerTree kind) (λ q f own flags. refl) refl refl (base_of_shape types base) (sym (ap (told_base types) is))
  by_base c v n space (outers.Integer kind (Some own)) base is =
      single (outers.Integer kind (Some own)) c v n space (RestrictedTree kind own.0) (λ q f own flags. refl) refl refl (base_of_shape types base) (sym (ap (told_base types) is))
  by_base c v n space (outers.Pointer target) base is =
      single (outers.Pointer target) c v n space (PointerTree (type_numbered types target.0)) (λ q f own flags. refl) refl refl (base_of_shape types base) (sym (ap (told_base types) is))
  by_base false false false spaces.None (outers.Array element length) base is =
      ap
      (λ b. marked (both no_qualifiers (qualifiers_seen marks)) (flags_in_place types marks (level (outers.Array element length) false false false spaces.None)) (Typed b no_qualifiers no_flags))
      (sym (ap (told_base types) is))
      ∙ (λ i. Typed (ArrayTree (marked (qualifiers_seen marks)
      (record { noderef = or_false marks.noderef i; space = space_over (space_of marks.space) (innermost_space (type_numbered types element.0)) })
      (type_numbered types element.0)) length) no_qualifiers no_flags)
      ∙ ap (λ inner. Typed (ArrayTree inner length) no_qualifiers no_flags)
      (element_marked (qualifiers_seen marks) marks.noderef (space_of marks.space) (type_numbered types element.0))
  by_base c v n space (outers.Array element length) base is = cc
  by_base c v n space (outers.Function result count variadic) base is = cc
  by_base c v n space (outers.Aggregate number is_union) base is =
      single (outers.Aggregate number is_union) c v n space (AggregateTree number is_union) (λ q f own flags. refl) refl refl (base_of_shape types base) (sym (ap (told_base types) is))

  -- the shape that is made
  pub level_made : (shape : OuterShape) (base : ShapeBase) (made : TypeShape)
      → base_of_level (is_plain_level shape) shape.base ≡ Some base → made.base ≡ base
      → qualifiers_of_shape made ≡ both (qualifiers_seen (marks_of_level shape)) (qualifiers_seen marks) → flags_of_shape made ≡ flags_in_place types marks shape
      → type_of_shape table made ≡ member_type (qualifiers_seen marks) (flags_seen marks) (type_of_outer types parameters shape)
  level_made shape base made is same_base same_qualifiers same_flags =
      (λ i. marked (same_qualifiers i) (same_flags i) (Typed (base_of_shape types (same_base i)) no_qualifiers no_flags))
      ∙ by_base shape.is_const shape.is_volatile shape.noderef shape.space shape.base base is
