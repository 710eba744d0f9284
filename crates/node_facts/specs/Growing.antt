-- What the making of types does to the table of types.
use Rattle.std.specs.Prelude.{◌≡◌}
use Rattle.c_types.specs.Layouts.{told_in}
use Rattle.c_types.specs.Table.{TypeTable, Extends, TellsNoMore}

-- types joined the table, and nothing else changed
pub record TypesJoin (old new : TypeTable) : Type 0 where
  pub extends : Extends old new
  pub tells : TellsNoMore old new
  pub layouts : told_in new ≡ told_in old
