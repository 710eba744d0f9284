-- What is left of the number is looked for in what is left of the sets.
use Rattle.std.proofs.Common.{◌≡◌, ◌<◌}
use Rattle.number_sets.specs.NumberSets.{has}
use Rattle.number_sets.specs.Branches.{count, levels_of, sets_of}
use Rattle.number_sets.proofs.trie.Trie.contains.Given as goal

abbrev pub invariant-search : goal.invariant-search
invariant-search l =
    record {
      stands : l.rest < count l.self.branches.keys;
      same : has (sets_of l.self.branches.keys) l.set l.number ≡ has (sets_of l.self.branches.keys) l.rest l.left;
    }

abbrev pub decreases-search : goal.decreases-search
decreases-search l = levels_of l.self.branches.keys l.rest
