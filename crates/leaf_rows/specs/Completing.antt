-- Arrays without a length.
use Rattle.std.specs.Prelude.{List, Option, Some, None}
use Rattle.meaning_types.specs.Types.{TypeTree, Typed, ArrayTree}
use Rattle.c_types.specs.declared.shapes.OuterBase.{OuterBase}
use Rattle.c_types.specs.declared.shapes.OuterBase.TheVariants as outers
use Rattle.c_types.specs.Rows.{type_numbered}

-- the element of one
abbrev pub element_of : TypeTree → Option TypeTree
element_of (Typed (ArrayTree element None) _ _) = Some element
element_of (Typed base _ _) = None

-- by an outermost level
abbrev pub element_in : List TypeTree → OuterBase → Option TypeTree
element_in types (outers.Array element None) = Some (type_numbered types element.0)
element_in types base = None
