-- The integers of the kinds so far stand.
use Rattle.std.proofs.Common.{◌≡◌, ◌+◌, ◌≤◌, length, map, take}
use Rattle.indexmap.specs.IndexMap.{spare}
use Rattle.c_types.specs.Rows.{AreRows, types_of}
use Rattle.c_types.specs.Table.{plain_integer}
use Rattle.meaning_types.specs.Equality.{all_kinds}
use Rattle.c_types.proofs.rows.Rows.join_integers.Given as goal

abbrev pub invariant-loop-kind : goal.invariant-loop-kind
invariant-loop-kind l =
    record {
      rows : AreRows l.self.rows.entries;
      types : types_of l.self.rows.entries ≡ map plain_integer (take l.kind-index all_kinds);
      few : length l.self.rows.entries ≤ l.kind-index;
      room : 12 ≤ spare l.self.rows + l.kind-index;
    }
