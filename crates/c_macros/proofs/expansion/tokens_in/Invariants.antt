use Rattle.std.proofs.Common.{◌≡◌, map, take}
use Rattle.c_macros.specs.declared.item.Item.{Item}
use Rattle.c_macros.proofs.expansion.tokens_in.Given as goal

abbrev pub invariant-loop-item : goal.invariant-loop-item
invariant-loop-item l = l.tokens.items ≡ map (λ (item : Item). item.token) (take l.item-index l.items)
