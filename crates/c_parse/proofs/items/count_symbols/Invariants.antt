-- The symbols of the items so far were counted.
use Rattle.std.proofs.Common.{◌≡◌, ◌≤◌, take}
use Rattle.meaning_derivation.specs.Derivation.{symbols}
use Rattle.c_parse.proofs.items.count_symbols.Given as goal

abbrev pub invariant-loop-item : goal.invariant-loop-item
invariant-loop-item l =
    record {
      counted : l.count ≡ symbols (take l.item-index l.items);
      few : l.count ≤ l.item-index;
    }
