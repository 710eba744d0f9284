-- What holds of the aggregates with a const member before a body is told, and when types join a table.
use Rattle.std.specs.Prelude.{◌≡◌, ℕ, List, [], All}
use Rattle.c_types.specs.Table.{TypeTable, IsBodyOver, types_in}
use Rattle.node_facts.specs.Growing.{TypesJoin}
use Rattle.whole_rows.specs.ConstAggregates.{AreConst}

-- there are none
abbrev pub ConstAggregatesBegin : Type 0
ConstAggregatesBegin = (table : TypeTable) → table.bodies ≡ [] → AreConst table []

-- they stay
abbrev pub ConstAggregatesStay : Type 0
ConstAggregatesStay =
    (old new : TypeTable) (numbers : List ℕ) → TypesJoin old new → All (λ entry. IsBodyOver (types_in old) entry.1) old.bodies
    → AreConst old numbers → AreConst new numbers
