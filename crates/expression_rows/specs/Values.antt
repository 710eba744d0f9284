-- Types of values by the outermost levels of types.
use Rattle.std.specs.Prelude.{ℕ, false, List, [], ◌∷◌, Option, Some, None, if◌then◌else◌}
use Rattle.sparse_model.specs.declared.space.Space.TheVariants as spaces
use Rattle.sparse_model.specs.declared.ids.TypeId.{TypeId}
use Rattle.meaning_types.specs.Types.{TypeTree, Typed, VoidTree, IntegerTree, RestrictedTree, AggregateTree, TypeTrees, MoreTypes, decayed, pointer_to, no_qualifiers, no_flags, value_type}
use Rattle.node_facts.specs.Nodes.{loaded_type}
use Rattle.meaning_typing.specs.Facts.{decays}
use Rattle.c_types.specs.declared.shapes.ShapeBase.{ShapeBase}
use Rattle.c_types.specs.declared.shapes.TypeShape.{TypeShape}
use Rattle.c_types.specs.declared.shapes.OuterBase.{OuterBase}
use Rattle.c_types.specs.declared.shapes.OuterBase.TheVariants as outers
use Rattle.c_types.specs.Rows.{type_numbered}
use Rattle.node_facts.specs.Outlined.{loaded_kind_if}

-- a shape without qualifiers and flags
abbrev pub plain_shape : ShapeBase → TypeShape
plain_shape base = record { base = base; is_const = false; is_volatile = false; noderef = false; space = spaces.None }

-- the type of the value of an expression of this type and this width
abbrev pub value_in : (width : Option ℕ) → TypeTree → TypeTree
value_in width type_ = if decays type_ then decayed type_ else value_type (loaded_type width type_)

-- the same by the base of its outermost level
abbrev pub value_by_base : List TypeTree → (of : TypeTree) → (width : Option ℕ) → OuterBase → TypeTree
value_by_base types of width outers.Void = Typed VoidTree no_qualifiers no_flags
value_by_base types of width (outers.Integer kind None) = Typed (IntegerTree (loaded_kind_if width kind)) no_qualifiers no_flags
value_by_base types of width (outers.Integer kind (Some identity)) = Typed (RestrictedTree kind identity.0) no_qualifiers no_flags
value_by_base types of width (outers.Pointer target) = pointer_to (type_numbered types target.0)
value_by_base types of width (outers.Array element count) = pointer_to (type_numbered types element.0)
value_by_base types of width (outers.Function result count variadic) = pointer_to of
value_by_base types of width (outers.Aggregate number is_union) = Typed (AggregateTree number is_union) no_qualifiers no_flags

-- the types with these ids, and others behind them
abbrev pub types_before : List TypeTree → List TypeId → (others : TypeTrees) → TypeTrees
types_before types [] others = others
types_before types (id ∷ ids) others = MoreTypes (type_numbered types id.0) (types_before types ids others)
