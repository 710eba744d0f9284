-- The children so far, and behind them those of the values that are left, are all of them.
use Rattle.std.proofs.Common.{◌≡◌, ◌++◌, drop, take, length}
use Rattle.parse_state.specs.Giving.{children_in}
use Rattle.parse_state.proofs.children.take_children.Given as goal

abbrev pub invariant-loop-index : goal.invariant-loop-index
invariant-loop-index l =
    record {
      children : l.children ++ children_in (drop l.index l.fn.values.items) l.rest ≡ children_in (drop l.from l.fn.values.items) l.sources;
      others : drop l.index l.values.items ≡ drop l.index l.fn.values.items;
      front : take l.from l.values.items ≡ take l.from l.fn.values.items;
      many : length l.values.items ≡ length l.fn.values.items;
    }
