-- Arrays without a length, by their outermost level.
use Rattle.std.specs.Prelude.{Option, Some, None}
use Rattle.sparse_model.specs.declared.ids.TypeId.{TypeId}
use Rattle.c_types.specs.declared.shapes.OuterBase.{OuterBase}
use Rattle.c_types.specs.declared.shapes.OuterBase.TheVariants as outers

-- the element of one
abbrev pub open_element : OuterBase → Option TypeId
open_element (outers.Array element None) = Some element
open_element base = None
