-- The rows so far were counted.
use Rattle.std.proofs.Common.{◌≡◌, take}
use Rattle.meaning_derivation.specs.Derivation.{symbols}
use Rattle.c_parse.specs.Rows.{items_in}
use Rattle.c_parse.proofs.pending.all_counted.Given as goal

abbrev pub invariant-loop-index : goal.invariant-loop-index
invariant-loop-index l = l.symbols ≡ symbols (items_in (take l.index l.rows))
