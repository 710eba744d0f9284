-- What is added to types, and the shapes that are made for it.
use Rattle.std.specs.Prelude.{ℕ, Bool, false, ◌&&◌, ◌||◌, not, Option, Some, None, option_map, if◌then◌else◌}
use Rattle.sparse_model.specs.declared.ids.Restrict.{Restrict}
use Rattle.sparse_model.specs.declared.space.Space.TheVariants as spaces
use Rattle.meaning_types.specs.Types.{Qualifiers, Flags, TypeTree, has_flag, no_flags}
use Rattle.meaning_types.specs.Marks.{marked}
use Rattle.meaning_typing.specs.Specifiers.{with_marks}
use Rattle.c_types.specs.declared.shapes.ShapeBase.{ShapeBase}
use Rattle.c_types.specs.declared.shapes.ShapeBase.TheVariants as shapes
use Rattle.c_types.specs.declared.shapes.TypeShape.{TypeShape}
use Rattle.c_types.specs.declared.shapes.OuterBase.{OuterBase}
use Rattle.c_types.specs.declared.shapes.OuterBase.TheVariants as outers
use Rattle.c_types.specs.declared.shapes.OuterShape.{OuterShape}
use Rattle.c_types.specs.Table.{space_of}
use Rattle.decl_judge.specs.declared.marks.Marks.{Marks}
use Rattle.decl_judge.specs.declared.marking.Added.{Added}
use Rattle.decl_judge.specs.Seen.{marks_seen}

abbrev pub only_marks : Marks → Added
only_marks marks = record { is_const = false; is_volatile = false; marks = marks }

abbrev pub nothing_added : Added
nothing_added = only_marks (record { noderef = false; space = spaces.None; is_bitwise = false })

abbrev pub qualifiers_added : Added → Qualifiers
qualifiers_added added = record { is_const = added.is_const; is_volatile = added.is_volatile }

-- a type with all that is added to it in a declaration that begins at this token
abbrev pub added_to : (identity : ℕ) → Added → TypeTree → TypeTree
added_to identity added type_ = with_marks identity (marks_seen added.marks) (marked (qualifiers_added added) no_flags type_)

-- Shapes

abbrev pub plain_shape : ShapeBase → TypeShape
plain_shape base = record { base = base; is_const = false; is_volatile = false; noderef = false; space = spaces.None }

-- an outermost level has neither qualifiers nor flags
abbrev pub is_plain_outer : OuterShape → Bool
is_plain_outer shape =
    not (shape.is_const || shape.is_volatile) && not (has_flag (record { noderef = shape.noderef; space = space_of shape.space }))

-- the base of a type, unless it is a function: an integer has another identity, if one is told
abbrev pub base_told : OuterBase → Option Restrict → Option ShapeBase
base_told outers.Void identity = Some shapes.Void
base_told (outers.Integer kind own) None = Some (shapes.Integer kind own)
base_told (outers.Integer kind own) (Some other) = Some (shapes.Integer kind (Some other))
base_told (outers.Pointer target) identity = Some (shapes.Pointer target)
base_told (outers.Array element length) identity = Some (shapes.Array element length)
base_told (outers.Function result count variadic) identity = None
base_told (outers.Aggregate number is_union) identity = Some (shapes.Aggregate number is_union)

-- the same of an outermost level that has neither qualifiers nor flags, or has some: no array has
abbrev pub level_told : OuterBase → (plain : Bool) → Option Restrict → Option ShapeBase
level_told (outers.Array element length) false identity = None
level_told base plain identity = base_told base identity

abbrev pub outer_qualifiers : OuterShape → Qualifiers
outer_qualifiers shape = record { is_const = shape.is_const; is_volatile = shape.is_volatile }

abbrev pub outer_flags : OuterShape → Flags
outer_flags shape = record { noderef = shape.noderef; space = space_of shape.space }

-- the identity that is added in a declaration that begins at this token
abbrev pub identity_added : Added → (token : ℕ) → Option Restrict
identity_added added token = if added.marks.is_bitwise then Some (record { 0 = token }) else None

-- Parameters

abbrev pub unqualified_shape : ShapeBase → OuterShape → TypeShape
unqualified_shape base own = record { base = base; is_const = false; is_volatile = false; noderef = own.noderef; space = own.space }

-- the shape of what a parameter that is no function is adjusted to
abbrev pub adjusted_by_base : OuterShape → OuterBase → Option TypeShape
adjusted_by_base shape (outers.Array element length) = Some (plain_shape (shapes.Pointer element))
adjusted_by_base shape base = option_map (λ told. unqualified_shape told shape) (base_told base None)

abbrev pub adjusted_shape : OuterShape → Option TypeShape
adjusted_shape shape = adjusted_by_base shape shape.base
