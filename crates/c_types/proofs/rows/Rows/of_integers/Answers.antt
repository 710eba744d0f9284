use Rattle.std.proofs.Common.{sym, subst}
use Rattle.c_types.specs.Rows.{AreRows}
use Rattle.c_types.proofs.Finding.{AreRows-none}
use Rattle.c_types.proofs.rows.Rows.of_integers.Goals as goal

pub reserve-requires : goal.reserve-requires
reserve-requires c = record { rows = subst AreRows (sym c.new-rows.ensures) AreRows-none }
