-- What is handed in of a table of types, besides what is known of nodes.
use Rattle.std.specs.Prelude.{All}
use Rattle.c_types.specs.Table.{TypeTable, IsBodyOver, types_in}

-- the types of the members that it was told are its own
abbrev pub AreKnownBodies : TypeTable → Type 0
AreKnownBodies types = All (λ entry. IsBodyOver (types_in types) entry.1) types.bodies
