use Rattle.std.proofs.Common.{◌-◌, arith}
use Rattle.number_sets.proofs.PlainLemmas.{bits_of-most}
use Rattle.number_sets.proofs.trie.Trie.levels.Goals as goal

pub returns-then-set-lt-PLAIN_SETS-clause-most : goal.returns-then-set-lt-PLAIN_SETS-clause-most
returns-then-set-lt-PLAIN_SETS-clause-most c =
    omega (arith, c.plain_levels.ensures, bits_of-most (c.args.set - 1) 30 (omega (arith, c.if-set-lt-PLAIN_SETS.true)) (omega (arith, c.if-set-lt-PLAIN_SETS.true)))
