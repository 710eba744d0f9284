-- The parameters that were found stand before those of what is left of the function.
use Rattle.std.proofs.Common.{◌≡◌, ◌<◌, All, length}
use Rattle.c_types.specs.Rows.{parameter_types}
use Rattle.c_types.specs.Table.{IsTypeId, type_at, types_in}
use Rattle.expression_rows.specs.Values.{types_before}
use Rattle.expression_rows.proofs.plain.parameters_of.Given as goal

abbrev pub invariant-parameters : goal.invariant-parameters
invariant-parameters l =
    record {
      rest : IsTypeId l.types l.rest;
      known : All (λ id. id.0 < length (types_in l.types)) l.found;
      found : types_before (types_in l.types) l.found (parameter_types (type_at l.types l.rest)) ≡ parameter_types (type_at l.types l.fn.function);
    }

abbrev pub decreases-parameters : goal.decreases-parameters
decreases-parameters l = l.rest.0
