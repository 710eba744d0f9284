-- What is found in the rows that are left is found in all.
use Rattle.std.proofs.Common.{◌≡◌, map, drop}
use Rattle.c_terminals.specs.Groups.{found_in}
use Rattle.c_terminals.specs.Seen.{row_seen}
use Rattle.c_terminals.proofs.spellings.found.Given as goal

abbrev pub invariant-loop-row : goal.invariant-loop-row
invariant-loop-row l = found_in (map row_seen (drop l.row-index l.rows)) l.text ≡ found_in (map row_seen l.rows) l.text
