use Rattle.std.proofs.Common.{◌≡◌, false, subst, ap, length, arith}
use Rattle.number_sets.specs.NumberSets.{has}
use Rattle.number_sets.proofs.BranchLemmas.{length-sets_of, has-empty}
use Rattle.number_sets.proofs.sets.NumberSets.empty.Goals as goal

pub returns-clause-set : goal.returns-clause-set
returns-clause-set c = omega (arith, length-sets_of c.self.inside.trie.branches.keys, ap length c.self.view_is)

pub returns-clause-none : goal.returns-clause-none
returns-clause-none c = λ n. subst (λ table. has table 0 n ≡ false) c.self.view_is (has-empty c.self.inside.trie.branches.keys n)
