-- The type so far is a level of the whole one, with what is added.
use Rattle.std.proofs.Common.{◌≡◌, ℕ, ◌+◌, ◌*◌, ◌≤◌, ◌^◌, Some, length, slice_get}
use Rattle.indexmap.specs.IndexMap.{spare}
use Rattle.meaning_types.specs.Marks.{marked}
use Rattle.c_types.specs.Rows.{AreRows, Grows, flags_in, qualifiers_in, type_numbered, types_of}
use Rattle.c_types.specs.Levels.{IsChain}
use Rattle.c_types.proofs.rows.Rows.mark_levels.Given as goal

abbrev pub invariant-loop-array : goal.invariant-loop-array
invariant-loop-array l =
    record {
      rows : AreRows l.self.rows.entries;
      grows : Grows l.fn.self.rows.entries l.self.rows.entries;
      level : (below : ℕ) × IsChain l.fn.self.rows.entries l.fn.levels.whole l.arrays.items below
          × (slice_get (types_of l.self.rows.entries) l.number ≡ Some (marked (qualifiers_in l.fn.marks) (flags_in l.fn.marks) (type_numbered (types_of l.fn.self.rows.entries) below)));
      room : 3 * length l.arrays.items ≤ spare l.self.rows;
      few : length l.self.rows.entries + 3 * length l.arrays.items ≤ 2 ^ 30;
      more : length l.self.rows.entries + 3 * length l.arrays.items ≤ length l.fn.self.rows.entries + 3 * length l.fn.levels.arrays.items + 3;
      spare : spare l.fn.self.rows + 3 * length l.arrays.items ≤ spare l.self.rows + 3 * length l.fn.levels.arrays.items + 3;
    }

abbrev pub decreases-loop-array : goal.decreases-loop-array
decreases-loop-array l = length l.arrays.items
