-- The paths so far are spelled as before.
use Rattle.std.proofs.Common.{◌≡◌, All, take}
use Rattle.c_tokens.specs.Seen.{Extends, IsKnown}
use Rattle.c_tokens.specs.Spellings.{with_spellings}
use Rattle.unit_names.specs.Numbering.{AreKept, spelled}
use Rattle.unit_names.proofs.numbering.Numbering.paths.Given as goal

abbrev pub invariant-loop-path : goal.invariant-loop-path
invariant-loop-path l = record {
  kept : AreKept l.names l.self.table l.self.ids.items;
  keeps : Extends l.fn.self.table l.self.table;
  known : All (IsKnown l.self.table) l.list.items;
  table : l.self.table ≡ with_spellings l.fn.self.table (spelled l.names (take l.path-index l.paths));
  seen : spelled l.self.table l.list.items ≡ spelled l.names (take l.path-index l.paths);
}
