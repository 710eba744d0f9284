-- The types that were taken are those of the table, which stays.
use Rattle.std.proofs.Common.{◌≡◌, All}
use Rattle.c_types.specs.Table.{IsTypeId}
use Rattle.type_workbench.proofs.types.Session.take_parameters.Given as goal

abbrev pub invariant-parameters : goal.invariant-parameters
invariant-parameters l =
    record {
      same : l.self.types ≡ l.fn.self.types;
      known : All (IsTypeId l.self.types) l.parameters.items;
    }
