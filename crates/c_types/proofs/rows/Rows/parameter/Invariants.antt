-- The parameter stands so many places behind the first one of the rest.
use Rattle.std.proofs.Common.{◌≡◌, ◌<◌, length}
use Rattle.c_types.specs.Rows.{parameter_types, type_numbered, types_of}
use Rattle.c_types.specs.Table.{count_of, nth_type}
use Rattle.c_types.proofs.rows.Rows.parameter.Given as goal

abbrev pub invariant-parameters : goal.invariant-parameters
invariant-parameters l =
    record {
      known : l.rest < length (types_of l.self.rows.entries);
      within : l.before < count_of (parameter_types (type_numbered (types_of l.self.rows.entries) l.rest));
      same : nth_type (parameter_types (type_numbered (types_of l.self.rows.entries) l.rest)) l.before
          ≡ nth_type (parameter_types (type_numbered (types_of l.self.rows.entries) l.number)) l.fn.index;
    }

abbrev pub decreases-parameters : goal.decreases-parameters
decreases-parameters l = l.before
