use Rattle.std.proofs.Common.{◌≡◌, map, take}
use Rattle.c_macros.specs.Expanded.{fresh_item}
use Rattle.c_macros.proofs.expansion.fresh_items.Given as goal

abbrev pub invariant-loop-token : goal.invariant-loop-token
invariant-loop-token l = l.work.items ≡ map fresh_item (take l.token-index l.toks)
