-- The nodes from the next one on have told their parts what these stand in.
use Rattle.std.proofs.Common.{◌≡◌, ℕ, List, length}
use Rattle.sparse_model.specs.declared.ids.NameId.{NameId}
use Rattle.node_surroundings.specs.Seen.{named_nodes, surroundings_seen}
use Rattle.node_surroundings.proofs.PassLemmas.{AreAsked}
use Rattle.node_surroundings.proofs.pass.surroundings_of.Given as goal

abbrev pub invariant-loop-handle : goal.invariant-loop-handle
invariant-loop-handle l =
    record {
      asked : (names : NameId → List ℕ) → AreAsked (named_nodes names l.unit) l.handle (surroundings_seen l.surroundings);
      all : length l.surroundings ≡ l.count;
    }
