-- How qualifiers and flags of a place are seen, and the types of members in it.
use Rattle.std.specs.Prelude.{ℕ, suc, zero, Bool, true, false, ◌||◌, ◌&&◌, not, List, Option, Some, None}
use Rattle.sparse_model.specs.declared.space.Space.TheVariants as spaces
use Rattle.meaning_types.specs.Types.{Space, NoSpace, Qualifiers, Flags, TypeTree, Typed, ArrayTree, has_flag}
use Rattle.meaning_types.specs.Marks.{later_space}
use Rattle.c_types.specs.declared.members.FoundMember.{FoundMember}
use Rattle.c_types.specs.declared.shapes.ShapeBase.{ShapeBase}
use Rattle.c_types.specs.declared.shapes.ShapeBase.TheVariants as shapes
use Rattle.c_types.specs.declared.shapes.OuterBase.{OuterBase}
use Rattle.c_types.specs.declared.shapes.OuterBase.TheVariants as outers
use Rattle.c_types.specs.declared.shapes.OuterShape.{OuterShape}
use Rattle.c_types.specs.Rows.{type_numbered}
use Rattle.c_types.specs.Table.{space_of}
use Rattle.node_facts.specs.declared.expression.Addressed.{Addressed}
use Rattle.node_facts.specs.declared.expression.ExpressionFact.{ExpressionFact}
use Rattle.node_facts.specs.Facts.{no_marks as no_expression_marks}
use Rattle.sparse_model.specs.declared.ids.TypeId.{TypeId}
use Rattle.member_rows.specs.declared.marks.PlaceMarks.{PlaceMarks}

abbrev pub qualifiers_seen : PlaceMarks → Qualifiers
qualifiers_seen marks = record { is_const = marks.is_const; is_volatile = marks.is_volatile }

abbrev pub flags_seen : PlaceMarks → Flags
flags_seen marks = record { noderef = marks.noderef; space = space_of marks.space }

abbrev pub no_place_marks : PlaceMarks
no_place_marks = record { is_const = false; is_volatile = false; noderef = false; space = spaces.None }

abbrev pub marks_of_level : OuterShape → PlaceMarks
marks_of_level shape = record { is_const = shape.is_const; is_volatile = shape.is_volatile; noderef = shape.noderef; space = shape.space }

-- those of the anonymous members around a member
abbrev pub qualifiers_around : FoundMember → Qualifiers
qualifiers_around found = record { is_const = found.is_const; is_volatile = found.is_volatile }

abbrev pub flags_around : FoundMember → Flags
flags_around found = record { noderef = found.noderef; space = space_of found.space }

-- Levels

-- how many arrays are within each other
abbrev pub levels_in : TypeTree → ℕ
levels_in (Typed (ArrayTree element length) _ _) = suc (levels_in element)
levels_in (Typed base _ _) = zero

-- the space at the innermost level of an array, and the own one of another type
abbrev pub innermost_space : TypeTree → Space
innermost_space (Typed (ArrayTree element length) _ _) = innermost_space element
innermost_space (Typed base qualifiers flags) = flags.space

-- the space that is added to an element, whose innermost level has this one: its own stays
abbrev pub space_over : (place innermost : Space) → Space
space_over NoSpace innermost = NoSpace
space_over place innermost = later_space place innermost

-- an outermost level has neither qualifiers nor flags
abbrev pub is_plain_level : OuterShape → Bool
is_plain_level shape = not (shape.is_const || shape.is_volatile) && not (has_flag (flags_seen (marks_of_level shape)))

-- the base of a level that can be made again: none of a function, and none of an array with qualifiers or flags, which no array has
abbrev pub base_of_level : (plain : Bool) → OuterBase → Option ShapeBase
base_of_level plain outers.Void = Some shapes.Void
base_of_level plain (outers.Integer kind own) = Some (shapes.Integer kind own)
base_of_level plain (outers.Pointer target) = Some (shapes.Pointer target)
base_of_level true (outers.Array element length) = Some (shapes.Array element length)
base_of_level false (outers.Array element length) = None
base_of_level plain (outers.Function result count variadic) = None
base_of_level plain (outers.Aggregate number is_union) = Some (shapes.Aggregate number is_union)

-- the space of the level that is made in a place of this space
abbrev pub space_in_place : List TypeTree → (place : Space) → (own : Space) → OuterBase → Space
space_in_place types place own (outers.Array element length) = space_over place (innermost_space (type_numbered types element.0))
space_in_place types place own base = later_space place own

-- its flags
abbrev pub flags_in_place : List TypeTree → PlaceMarks → OuterShape → Flags
flags_in_place types marks shape =
    record { noderef = marks.noderef || shape.noderef; space = space_in_place types (space_of marks.space) (space_of shape.space) shape.base }

-- Facts as they are made

-- a place of this type and width
abbrev pub place_with : TypeId → (width : Option ℕ) → ExpressionFact
place_with of width =
    record {
      node = record { of = of; value = record { fouled = false; width = width; constant = None } };
      marks = record no_expression_marks { is_place = true };
    }

-- the same, which may be `register` or constant
abbrev pub member_with : TypeId → (width : Option ℕ) → (is_register : Bool) → Addressed → ExpressionFact
member_with of width is_register address =
    record {
      node = record { of = of; value = record { fouled = false; width = width; constant = None } };
      marks = record no_expression_marks { is_place = true; is_register = is_register; address = address };
    }
