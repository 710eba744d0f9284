use Rattle.number_sets.proofs.trie.Trie.+with.Given as goal

abbrev pub decreases-with : goal.decreases-with
decreases-with l = l.levels
