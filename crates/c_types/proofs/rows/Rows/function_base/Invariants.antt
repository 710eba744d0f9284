-- What is left of the function has its result, and the parameters that weren't counted.
use Rattle.std.proofs.Common.{◌≡◌, ◌+◌, ◌<◌, ◌≤◌, length}
use Rattle.c_types.specs.Rows.{IsFunction, is_variadic, parameter_types, result_of, type_numbered, types_of}
use Rattle.c_types.specs.Table.{count_of}
use Rattle.c_types.proofs.rows.Rows.function_base.Given as goal

abbrev pub invariant-loop-behind : goal.invariant-loop-behind
invariant-loop-behind l =
    record {
      known : l.rest < length (types_of l.self.rows.entries);
      function : IsFunction (type_numbered (types_of l.self.rows.entries) l.rest);
      result : result_of (type_numbered (types_of l.self.rows.entries) l.rest) ≡ result_of (type_numbered (types_of l.self.rows.entries) l.number);
      variadic : is_variadic (type_numbered (types_of l.self.rows.entries) l.rest) ≡ is_variadic (type_numbered (types_of l.self.rows.entries) l.number);
      counted : l.count + count_of (parameter_types (type_numbered (types_of l.self.rows.entries) l.rest)) ≡ count_of (parameter_types (type_numbered (types_of l.self.rows.entries) l.number));
      few : l.count + l.rest ≤ l.number;
    }

abbrev pub decreases-loop-behind : goal.decreases-loop-behind
decreases-loop-behind l = l.rest
