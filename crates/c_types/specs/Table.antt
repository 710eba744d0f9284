-- The table of types as its callers see it: what it holds are rows, and what is read of them are types, as trees.
use Rattle.std.specs.Prelude.{◌≡◌, ℕ, zero, suc, ◌+◌, ◌<◌, Bool, nat_eq, false, List, [], ◌∷◌, ◌++◌, All, Option, Some, None, option_map, if◌then◌else◌, length, map}
use Rattle.std.specs.Map.{lookup}
use Rattle.vocabulary.specs.declared.int_kind.IntKind.{IntKind}
use Rattle.sparse_model.specs.declared.ids.NameId.{NameId}
use Rattle.sparse_model.specs.declared.ids.TypeId.{TypeId}
use Rattle.sparse_model.specs.declared.space.Space.{Space}
use Rattle.sparse_model.specs.declared.space.Space.TheVariants as spaces
use Rattle.meaning_types.specs.Types as meaning
use Rattle.meaning_types.specs.Types.{Qualifiers, Flags, TypeTree, Typed, BaseTree, VoidTree, IntegerTree, RestrictedTree, PointerTree, ArrayTree, FunctionTree, AggregateTree, TypeTrees, NoTypes, MoreTypes, no_qualifiers, no_flags}
use Rattle.meaning_types.specs.Conversions.{promoted, usual}
use Rattle.meaning_types.specs.Equality.{all_kinds}
use Rattle.meaning_types.specs.Marks.{marked}
use Rattle.c_types.specs.declared.bodies.AggregateBody.{AggregateBody}
use Rattle.c_types.specs.declared.bodies.Named.{Named}
use Rattle.c_types.specs.declared.bodies.Named.TheVariants as named
use Rattle.c_types.specs.declared.shapes.ShapeBase.{ShapeBase}
use Rattle.c_types.specs.declared.shapes.ShapeBase.TheVariants as shapes
use Rattle.c_types.specs.declared.shapes.TypeShape.{TypeShape}
use Rattle.c_types.specs.declared.shapes.OuterBase.{OuterBase}
use Rattle.c_types.specs.declared.shapes.OuterBase.TheVariants as outers
use Rattle.c_types.specs.declared.shapes.OuterShape.{OuterShape}
use Rattle.c_types.specs.Rows.{Row, type_numbered, types_numbered, types_of}

-- what a table holds: a row a type, in the order of their numbers; the bodies of aggregates, and names of tags and
-- identities, in the order in which they were told
pub record TypeTable : Type 0 where
  pub rows : List Row
  pub bodies : List (ℕ × AggregateBody)
  pub names : List (Named × NameId)

-- the types of a table, in the order of their numbers
abbrev pub types_in : TypeTable → List TypeTree
types_in table = types_of table.rows

-- the id is that of a type of the table
abbrev pub IsTypeId : TypeTable → TypeId → Type 0
IsTypeId table id = id.0 < length (types_in table)

-- the type with this id
abbrev pub type_at : TypeTable → TypeId → TypeTree
type_at table id = type_numbered (types_in table) id.0

-- the members of an aggregate, once they were told
abbrev pub body_in : TypeTable → ℕ → Option AggregateBody
body_in table aggregate = lookup (nat_eq aggregate) table.bodies

-- both are tags, or both identities, of one number
abbrev pub is_named : Named → Named → Bool
is_named (named.Tag number) (named.Tag other) = nat_eq number other
is_named (named.Identity identity) (named.Identity other) = nat_eq identity.0 other.0
is_named what other = false

-- the name of a tag or an identity, once it was told
abbrev pub name_in : TypeTable → Named → Option NameId
name_in table what = lookup (is_named what) table.names

-- the list is another one with more behind it
abbrev pub IsLonger : {X : Type 0} → List X → List X → Type 0
IsLonger {X} old new = (more : List X) × (new ≡ old ++ more)

-- each type of the old table stands in the new one, under its number, and so do its bodies and names
pub record Extends (old new : TypeTable) : Type 0 where
  pub types : IsLonger (types_in old) (types_in new)
  pub bodies : IsLonger old.bodies new.bodies
  pub names : IsLonger old.names new.names

-- no body and no name was told
pub record TellsNoMore (old new : TypeTable) : Type 0 where
  pub bodies : new.bodies ≡ old.bodies
  pub names : new.names ≡ old.names

-- the type to which a type points, if it is a pointer
abbrev pub pointed_at : TypeTree → Option TypeTree
pointed_at (Typed (PointerTree target) _ _) = Some target
pointed_at (Typed base _ _) = None

-- Integers

-- an integer type without qualifiers and flags
abbrev pub plain_integer : IntKind → TypeTree
plain_integer kind = Typed (IntegerTree kind) no_qualifiers no_flags

-- one of each kind
abbrev pub plain_integers : List TypeTree
plain_integers = map plain_integer all_kinds

-- the kind of an integer type, restricted or not
abbrev pub integer_kind : TypeTree → Option IntKind
integer_kind (Typed (IntegerTree kind) _ _) = Some kind
integer_kind (Typed (RestrictedTree kind identity) _ _) = Some kind
integer_kind (Typed base _ _) = None

-- what an integer of this kind is promoted to
abbrev pub promoted_type : Option IntKind → Option TypeTree
promoted_type kind = option_map (λ k. plain_integer (promoted k)) kind

-- what integers of these kinds become together
abbrev pub usual_type : Option IntKind → Option IntKind → Option TypeTree
usual_type (Some kind) (Some other) = Some (plain_integer (usual kind other))
usual_type kind other = None

-- Shapes

-- a space; a name is seen as its number alone
abbrev pub space_of : Space → meaning.Space
space_of spaces.None = meaning.NoSpace
space_of (spaces.Number number) = meaning.NumberedSpace number
space_of (spaces.Named name) = meaning.NamedSpace (name.0 ∷ [])

-- the base of a shape over these types
abbrev pub base_of_shape : List TypeTree → ShapeBase → BaseTree
base_of_shape types shapes.Void = VoidTree
base_of_shape types (shapes.Integer kind None) = IntegerTree kind
base_of_shape types (shapes.Integer kind (Some identity)) = RestrictedTree kind identity.0
base_of_shape types (shapes.Pointer target) = PointerTree (type_numbered types target.0)
base_of_shape types (shapes.Array element count) = ArrayTree (type_numbered types element.0) count
base_of_shape types (shapes.Function result parameters variadic) =
    FunctionTree (type_numbered types result.0) (types_numbered types parameters) variadic
base_of_shape types (shapes.Aggregate number is_union) = AggregateTree number is_union

-- the qualifiers and flags of a shape
abbrev pub qualifiers_of_shape : TypeShape → Qualifiers
qualifiers_of_shape shape = record { is_const = shape.is_const; is_volatile = shape.is_volatile }

abbrev pub flags_of_shape : TypeShape → Flags
flags_of_shape shape = record { noderef = shape.noderef; space = space_of shape.space }

-- the type of a shape: its qualifiers and flags are added to its base
abbrev pub type_of_shape : TypeTable → TypeShape → TypeTree
type_of_shape table shape =
    marked (qualifiers_of_shape shape) (flags_of_shape shape) (Typed (base_of_shape (types_in table) shape.base) no_qualifiers no_flags)

-- the ids in a shape are those of these types
abbrev pub IsShapeOver : List TypeTree → ShapeBase → Type 0
IsShapeOver types shapes.Void = Unit {0}
IsShapeOver types (shapes.Integer kind identity) = Unit {0}
IsShapeOver types (shapes.Pointer target) = target.0 < length types
IsShapeOver types (shapes.Array element count) = element.0 < length types
IsShapeOver types (shapes.Function result parameters variadic) = (result.0 < length types) × All (λ id. id.0 < length types) parameters
IsShapeOver types (shapes.Aggregate number is_union) = Unit {0}

-- Outermost levels

-- how many types there are
abbrev pub count_of : TypeTrees → ℕ
count_of NoTypes = 0
count_of (MoreTypes type_ types) = count_of types + 1

-- the type at this place
abbrev pub nth_type : TypeTrees → ℕ → Option TypeTree
nth_type NoTypes place = None
nth_type (MoreTypes type_ types) zero = Some type_
nth_type (MoreTypes type_ types) (suc place) = nth_type types place

-- how many parameters are told
abbrev pub count_in : OuterBase → ℕ
count_in (outers.Function result count variadic) = count
count_in base = 0

-- the base of an outermost level, where a function has these parameters
abbrev pub base_of_outer : List TypeTree → TypeTrees → OuterBase → BaseTree
base_of_outer types parameters outers.Void = VoidTree
base_of_outer types parameters (outers.Integer kind None) = IntegerTree kind
base_of_outer types parameters (outers.Integer kind (Some identity)) = RestrictedTree kind identity.0
base_of_outer types parameters (outers.Pointer target) = PointerTree (type_numbered types target.0)
base_of_outer types parameters (outers.Array element count) = ArrayTree (type_numbered types element.0) count
base_of_outer types parameters (outers.Function result count variadic) = FunctionTree (type_numbered types result.0) parameters variadic
base_of_outer types parameters (outers.Aggregate number is_union) = AggregateTree number is_union

-- the type of an outermost level, where a function has these parameters
abbrev pub type_of_outer : List TypeTree → TypeTrees → OuterShape → TypeTree
type_of_outer types parameters shape =
    Typed (base_of_outer types parameters shape.base) (record { is_const = shape.is_const; is_volatile = shape.is_volatile })
    (record { noderef = shape.noderef; space = space_of shape.space })

-- the ids in an outermost level are those of these types
abbrev pub IsOuterOver : List TypeTree → OuterBase → Type 0
IsOuterOver types (outers.Pointer target) = target.0 < length types
IsOuterOver types (outers.Array element count) = element.0 < length types
IsOuterOver types (outers.Function result count variadic) = result.0 < length types
IsOuterOver types base = Unit {0}

-- Bodies and names

-- each member has a type of the table
abbrev pub IsBodyOver : List TypeTree → AggregateBody → Type 0
IsBodyOver types body = All (λ member. member.of.0 < length types) body.members

-- the names with one more, unless what it names has one
abbrev pub with_name : List (Named × NameId) → Named → NameId → List (Named × NameId)
with_name [] what name = (what, name) ∷ []
with_name (entry ∷ names) what name = if is_named what entry.0 then entry ∷ names else entry ∷ with_name names what name
