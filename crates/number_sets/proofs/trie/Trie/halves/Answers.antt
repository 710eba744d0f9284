use Rattle.std.proofs.Common.{arith}
use Rattle.number_sets.proofs.BranchLemmas.{IsSplit-whole, halves_of-single, reaches}
use Rattle.number_sets.proofs.trie.Trie.halves.Goals as goal

pub returns-then-levels-bit : goal.returns-then-levels-bit
returns-then-levels-bit c = IsSplit-whole c.args.self.now.branches.keys c.requires.branches c.args.set c.args.bit c.requires.stands (omega (arith, c.levels.ensures.levels, c.if-levels-bit.true))

pub overflow_sub-result : goal.overflow_sub-result
overflow_sub-result c =
    omega (arith, c.half.ensures, reaches c.args.self.now.branches.keys c.args.set c.args.bit c.if-set-lt-PLAIN_SETS.true (omega (arith, c.levels.ensures.levels, c.if-levels-bit.false)))

pub returns-then-set-lt-PLAIN_SETS : goal.returns-then-set-lt-PLAIN_SETS
returns-then-set-lt-PLAIN_SETS c =
    halves_of-single c.args.self.now.branches.keys c.args.set c.args.bit _ c.half.ensures c.if-set-lt-PLAIN_SETS.true (omega (arith, c.levels.ensures.levels, c.if-levels-bit.false)) c.requires.levels
