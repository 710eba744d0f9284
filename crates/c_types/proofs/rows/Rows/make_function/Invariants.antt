-- The type so far has the result, and the parameters that stand behind the rest.
use Rattle.std.proofs.Common.{◌+◌, ◌*◌, ◌<◌, ◌≤◌, ◌^◌, All, length}
use Rattle.indexmap.specs.IndexMap.{spare}
use Rattle.c_types.specs.Rows.{AreRows, Grows, types_of}
use Rattle.c_types.proofs.Parameters.{IsPartly}
use Rattle.c_types.proofs.rows.Rows.make_function.Given as goal

abbrev pub invariant-loop-parameter : goal.invariant-loop-parameter
invariant-loop-parameter l =
    record {
      rows : AreRows l.self.rows.entries;
      grows : Grows l.fn.self.rows.entries l.self.rows.entries;
      partly : IsPartly (types_of l.fn.self.rows.entries) l.answer l.parameters l.variadic l.rest (types_of l.self.rows.entries) l.number;
      known : All (λ id. id.0 < length (types_of l.fn.self.rows.entries)) l.rest;
      room : 3 * length l.rest ≤ spare l.self.rows;
      few : length l.self.rows.entries + 3 * length l.rest ≤ 2 ^ 30;
    }

abbrev pub decreases-loop-parameter : goal.decreases-loop-parameter
decreases-loop-parameter l = length l.rest
