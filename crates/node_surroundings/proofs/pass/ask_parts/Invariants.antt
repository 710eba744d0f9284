-- Telling the parts that are left is telling all.
use Rattle.std.proofs.Common.{◌≡◌, ◌+◌, ◌<◌, ◌≤◌, ◌^◌, All, length}
use Rattle.node_surroundings.specs.Parts.{with_parts}
use Rattle.node_surroundings.specs.Seen.{surrounding_seen, surroundings_seen}
use Rattle.node_surroundings.proofs.pass.ask_parts.Given as goal

abbrev pub invariant-loop-child : goal.invariant-loop-child
invariant-loop-child l =
    record {
      told :
          with_parts l.kind l.handle (surrounding_seen l.surrounding) l.place l.child-iterator (surroundings_seen l.surroundings)
          ≡ with_parts l.kind l.handle (surrounding_seen l.surrounding) 0 l.children (surroundings_seen l.initial.surroundings);
      all : length l.surroundings ≡ length l.initial.surroundings;
      before : All (λ child. child.0 < l.handle) l.child-iterator;
      few : l.place + length l.child-iterator ≤ 2 ^ 30;
    }
