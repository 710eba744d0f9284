-- Leaves of an initializer, as they are kept: over a table of types, and paths.
use Rattle.std.specs.Prelude.{ℕ, List, [], ◌∷◌, Option, Some, None}
use Rattle.meaning_initializers.specs.Plans.{Leaf}
use Rattle.c_types.specs.Table.{TypeTable}
use Rattle.initializer_levels.specs.declared.met.Placed.{Placed}
use Rattle.initializer_levels.specs.Parts.{type_seen}
use Rattle.initializer_levels.specs.Paths.{path_at}

abbrev pub leaf_seen : TypeTable → (paths : List (List ℕ)) → Placed → Leaf
leaf_seen table paths placed =
    record { path = path_at paths placed.path; type_ = type_seen table placed.of; expression = placed.initializer; is_moved = placed.is_moved }

abbrev pub listed_leaf : Option Placed → List Placed
listed_leaf None = []
listed_leaf (Some placed) = placed ∷ []
