-- The lists so far.
use Rattle.std.proofs.Common.{◌≡◌, [], ◌∷◌, replicate}
use Rattle.node_surroundings.specs.Kept.{lists_of}
use Rattle.node_surroundings.proofs.settings.lists_with.Given as goal

abbrev pub invariant-loop-number : goal.invariant-loop-number
invariant-loop-number l = lists_of l.lists.items ≡ replicate l._number (l.around ∷ [])
