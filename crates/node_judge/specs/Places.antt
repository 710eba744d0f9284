-- What is kept of bodies in which members may be flexible.
use Rattle.std.specs.Prelude.{ℕ, nat_eq, IfSome}
use Rattle.indexmap.specs.IndexMap.{get}
use Rattle.meaning_typing.specs.Units.{UnitNodes}
use Rattle.member_declarations.specs.Flexible.{IsToldOf}
use Rattle.node_judge.specs.declared.places.FlexiblePlaces.{FlexiblePlaces}

-- what is kept of a list is told of its body
abbrev pub ArePlaces : UnitNodes → FlexiblePlaces → Type 0
ArePlaces nodes places = (list : ℕ) → IfSome (get nat_eq places.bodies list) (IsToldOf nodes list)
