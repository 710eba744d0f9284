-- One of two sets has a level, where they differ and neither is empty.
use Rattle.std.proofs.Common.{arith}
use Rattle.number_sets.proofs.BranchLemmas.{some_levels}
use Rattle.number_sets.proofs.trie.Trie.top_bit.Goals as goal

pub overflow_sub-result : goal.overflow_sub-result
overflow_sub-result c =
    omega (arith, some_levels c.args.self.now.branches.keys c.args.pair.left c.args.pair.right c.requires.left_stands c.requires.right_stands c.requires.differ c.requires.left c.requires.right, c.levels.ensures.levels, c.levels-2.ensures.levels, c.max.ensures)

pub returns-clause-one : goal.returns-clause-one
returns-clause-one c = λ most l r.
    omega (arith, l, r, some_levels c.args.self.now.branches.keys c.args.pair.left c.args.pair.right c.requires.left_stands c.requires.right_stands c.requires.differ c.requires.left c.requires.right, c.levels.ensures.levels, c.levels-2.ensures.levels, c.max.ensures)
