use Rattle.std.proofs.Common.{length, ap, arith}
use Rattle.number_sets.proofs.BranchLemmas.{length-sets_of}
use Rattle.number_sets.proofs.sets.NumberSets.contains.Goals as goal

pub contains-requires-clause-stands : goal.contains-requires-clause-stands
contains-requires-clause-stands c = omega (arith, length-sets_of c.self.inside.trie.branches.keys, ap length c.self.view_is, c.requires)
