-- Where no branch is left, the set is the empty one or that of one number alone.
use Rattle.std.proofs.Common.{◌≡◌, ◌-◌, not, nat_eq, sym, ap, ◌∙◌, arith}
use Rattle.number_sets.specs.NumberSets.{has}
use Rattle.number_sets.specs.Branches.{sets_of}
use Rattle.number_sets.proofs.TableLemmas.{or-false}
use Rattle.number_sets.proofs.BranchLemmas.{has-empty, has-single}
use Rattle.number_sets.proofs.trie.Trie.contains.Goals as goal

pub returns-then-rest-ne-EMPTY : goal.returns-then-rest-ne-EMPTY
returns-then-rest-ne-EMPTY c =
    let bs = c.args.self.now.branches.keys in
    sym (c.search.invariant.same ∙ has-single bs c.search.rest c.search.left (omega (arith, c.if-rest-ne-EMPTY.true)) (omega (arith, c.search-test.false)) ∙ or-false (nat_eq c.search.left (c.search.rest - 1)))

pub returns-else-rest-ne-EMPTY : goal.returns-else-rest-ne-EMPTY
returns-else-rest-ne-EMPTY c =
    let bs = c.args.self.now.branches.keys in
    let empty : c.search.rest ≡ 0 = omega (arith, c.if-rest-ne-EMPTY.false) in
    ap (λ rest. not (nat_eq rest 0)) empty ∙ sym (c.search.invariant.same ∙ ap (λ rest. has (sets_of bs) rest c.search.left) empty ∙ has-empty bs c.search.left)
