-- The table is the sets of its branches.
use Rattle.std.proofs.Common.{length, ap, subst, arith}
use Rattle.number_sets.specs.Branches.{sets_of}
use Rattle.number_sets.specs.NumberSets.{Extends}
use Rattle.number_sets.proofs.BranchLemmas.{length-sets_of, levels_of-most, sets_of-Grows, AreGrown-Grows}
use Rattle.number_sets.proofs.MadeLemmas.{made_of_old}
use Rattle.number_sets.proofs.sets.NumberSets.combined.Goals as goal

pub combined-requires-clause-left_stands : goal.combined-requires-clause-left_stands
combined-requires-clause-left_stands c = omega (arith, length-sets_of c.self.inside.trie.branches.keys, ap length c.self.view_is, c.requires.set)

pub combined-requires-clause-right_stands : goal.combined-requires-clause-right_stands
combined-requires-clause-right_stands c = omega (arith, length-sets_of c.self.inside.trie.branches.keys, ap length c.self.view_is, c.requires.other)

pub combined-requires-clause-left : goal.combined-requires-clause-left
combined-requires-clause-left c = levels_of-most c.self.inside.trie.branches.keys c.self.invariant.0 c.args.set.0 (omega (arith, length-sets_of c.self.inside.trie.branches.keys, ap length c.self.view_is, c.requires.set))

pub combined-requires-clause-right : goal.combined-requires-clause-right
combined-requires-clause-right c = levels_of-most c.self.inside.trie.branches.keys c.self.invariant.0 c.args.other.0 (omega (arith, length-sets_of c.self.inside.trie.branches.keys, ap length c.self.view_is, c.requires.other))

pub returns-clause-set : goal.returns-clause-set
returns-clause-set c = omega (arith, length-sets_of c.combined.new.self.branches.keys, c.in_ok-combined.ensures.made.stands)

pub returns-clause-numbers : goal.returns-clause-numbers
returns-clause-numbers c = λ n.
    made_of_old _ _ c.combined.ensures.grows _ c.self.view_is _ _
    (omega (arith, length-sets_of c.self.inside.trie.branches.keys, ap length c.self.view_is, c.requires.set))
    (omega (arith, length-sets_of c.self.inside.trie.branches.keys, ap length c.self.view_is, c.requires.other))
    c.in_ok-combined.ensures.made n

pub returns-in_err-combined-clause-keeps : goal.returns-in_err-combined-clause-keeps
returns-in_err-combined-clause-keeps c = subst (λ table. Extends table (sets_of c.combined.new.self.branches.keys)) c.self.view_is (sets_of-Grows _ _ c.combined.ensures.grows)

pub returns-clause-keeps : goal.returns-clause-keeps
returns-clause-keeps c = subst (λ table. Extends table (sets_of c.combined.new.self.branches.keys)) c.self.view_is (sets_of-Grows _ _ c.combined.ensures.grows)

pub invariant_of-self : goal.invariant_of-self
invariant_of-self c = (c.combined.ensures.branches, c.combined.ensures.done, AreGrown-Grows _ _ c.combined.ensures.grows _ c.self.invariant.2)

pub invariant_of-self-2 : goal.invariant_of-self-2
invariant_of-self-2 c = (c.combined.ensures.branches, c.combined.ensures.done, AreGrown-Grows _ _ c.combined.ensures.grows _ c.self.invariant.2)
