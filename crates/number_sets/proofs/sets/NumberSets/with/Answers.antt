-- The table is the sets of its branches, and what is remembered of additions stays right where they grow.
use Rattle.std.proofs.Common.{◌≡◌, ◌<◌, length, ap, subst, sym, arith}
use Rattle.number_sets.specs.Branches.{sets_of, count, AreGrown}
use Rattle.number_sets.specs.NumberSets.{Extends}
use Rattle.number_sets.proofs.BranchLemmas.{length-sets_of, levels_of-most, sets_of-Grows, count-Grows, AreGrown-Grows}
use Rattle.number_sets.proofs.MadeLemmas.{grown_from_empty, grown_of_old}
use Rattle.number_sets.proofs.sets.NumberSets.with.Goals as goal

pub returns-then-set-eq-EMPTY-clause-set : goal.returns-then-set-eq-EMPTY-clause-set
returns-then-set-eq-EMPTY-clause-set c = omega (arith, length-sets_of c.self.inside.trie.branches.keys, ap length c.self.view_is, c.single.ensures, c.requires.number)

pub returns-then-set-eq-EMPTY-clause-numbers : goal.returns-then-set-eq-EMPTY-clause-numbers
returns-then-set-eq-EMPTY-clause-numbers c = λ n.
    grown_from_empty c.self.inside.trie.branches.keys _ c.self.view_is c.args.set.0 c.args.number _ c.if-set-eq-EMPTY.true c.single.ensures c.requires.number n

pub with-requires-clause-set : goal.with-requires-clause-set
with-requires-clause-set c = levels_of-most c.self.inside.trie.branches.keys c.self.invariant.0 c.args.set.0 (omega (arith, length-sets_of c.self.inside.trie.branches.keys, ap length c.self.view_is, c.requires.set))

pub with-requires-clause-stands : goal.with-requires-clause-stands
with-requires-clause-stands c = omega (arith, length-sets_of c.self.inside.trie.branches.keys, ap length c.self.view_is, c.requires.set)

pub returns-in-Some-clause-set : goal.returns-in-Some-clause-set
returns-in-Some-clause-set c =
    let grown = c.in-Some.ensures c.self.inside.trie.branches.keys c.self.invariant.2 in
    omega (arith, length-sets_of c.self.inside.trie.branches.keys, ap length c.self.view_is, grown.too.stands)

pub invariant_of-self : goal.invariant_of-self
invariant_of-self c = (c.with.ensures.branches, c.with.ensures.done, AreGrown-Grows _ _ c.with.ensures.grows _ c.self.invariant.2)

pub returns-in_err-grown-clause-keeps : goal.returns-in_err-grown-clause-keeps
returns-in_err-grown-clause-keeps c = subst (λ table. Extends table (sets_of c.with.new.self.branches.keys)) c.self.view_is (sets_of-Grows _ _ c.with.ensures.grows)

pub invariant_of-self-in_err-insert : goal.invariant_of-self-in_err-insert
invariant_of-self-in_err-insert c =
    let grown = AreGrown-Grows _ _ c.with.ensures.grows _ c.self.invariant.2 in
    (c.with.ensures.branches, c.with.ensures.done, subst (AreGrown c.with.new.self.branches.keys) (sym c.in_err-insert.ensures.err) grown)

pub returns-in_err-insert-clause-keeps : goal.returns-in_err-insert-clause-keeps
returns-in_err-insert-clause-keeps c = subst (λ table. Extends table (sets_of c.with.new.self.branches.keys)) c.self.view_is (sets_of-Grows _ _ c.with.ensures.grows)

pub invariant_of-self-2 : goal.invariant_of-self-2
invariant_of-self-2 c =
    let grown = AreGrown-Grows _ _ c.with.ensures.grows _ c.self.invariant.2 in
    let stands : c.args.set.0 < count c.with.new.self.branches.keys = omega (arith, length-sets_of c.self.inside.trie.branches.keys, ap length c.self.view_is, c.requires.set, count-Grows _ _ c.with.ensures.grows) in (
      c.with.ensures.branches,
      c.with.ensures.done,
      c.in_ok-insert.ensures.ok c.with.new.self.branches.keys grown (record { old_stands = stands; too = c.in_ok-grown.ensures.more }),
    )

pub returns-clause-set : goal.returns-clause-set
returns-clause-set c = omega (arith, length-sets_of c.with.new.self.branches.keys, c.in_ok-grown.ensures.more.stands)

pub returns-clause-numbers : goal.returns-clause-numbers
returns-clause-numbers c = λ n.
    grown_of_old _ _ c.with.ensures.grows _ c.self.view_is 30 c.args.set.0 c.args.number _
    (omega (arith, length-sets_of c.self.inside.trie.branches.keys, ap length c.self.view_is, c.requires.set))
    c.in_ok-grown.ensures.more n

pub returns-clause-keeps : goal.returns-clause-keeps
returns-clause-keeps c = subst (λ table. Extends table (sets_of c.with.new.self.branches.keys)) c.self.view_is (sets_of-Grows _ _ c.with.ensures.grows)
