use Rattle.std.proofs.Common.{◌+◌, ◌*◌}
use Rattle.number_sets.proofs.trie.Trie.+combined.Given as goal

abbrev pub decreases-combined : goal.decreases-combined
decreases-combined l = l.levels * 2

abbrev pub decreases-parted : goal.decreases-parted
decreases-parted l = l.bit * 2 + 1
