-- Types by their outermost levels.
use Rattle.std.specs.Prelude.{Bool, true, false, None}
use Rattle.c_types.specs.declared.shapes.OuterBase.{OuterBase}
use Rattle.c_types.specs.declared.shapes.OuterBase.TheVariants as outers

-- an array without a length
abbrev pub is_unbounded_base : OuterBase → Bool
is_unbounded_base (outers.Array element None) = true
is_unbounded_base base = false
