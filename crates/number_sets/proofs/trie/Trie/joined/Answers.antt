use Rattle.std.proofs.Common.{◌≡◌, ◌+◌, ◌-◌, ◌&&◌, Some, nat_eq, slice_get, subst, sym, ap, ◌∙◌, arith}
use Rattle.number_sets.specs.declared.branch.Branch.{Branch}
use Rattle.number_sets.specs.Branches.{AreBranches, Grows, IsSplit}
use Rattle.number_sets.proofs.BranchLemmas.{IsSplit-whole, joined_single, AreDone-Grows}
use Rattle.number_sets.proofs.PushLemmas.{inserted, same_branch}
use Rattle.number_sets.proofs.trie.Trie.joined.Goals as goal

pub returns-then-upper-eq-EMPTY-clause-parts : goal.returns-then-upper-eq-EMPTY-clause-parts
returns-then-upper-eq-EMPTY-clause-parts c =
    subst (λ upper. IsSplit c.args.self.now.branches.keys c.args.lower c.args.bit c.args.lower upper) (sym c.if-upper-eq-EMPTY.true)
    (IsSplit-whole c.args.self.now.branches.keys c.requires.branches c.args.lower c.args.bit c.requires.lower_stands c.requires.lower_levels)

pub returns-then-upper-lt-PLAIN_SETS-clause-parts : goal.returns-then-upper-lt-PLAIN_SETS-clause-parts
returns-then-upper-lt-PLAIN_SETS-clause-parts c =
    joined_single c.args.self.now.branches.keys c.args.bit c.args.lower c.args.upper _ c.half.ensures c.requires.bit c.if-lower-eq-EMPTY.true (omega (arith, c.if-upper-eq-EMPTY.false)) c.if-upper-lt-PLAIN_SETS.true c.requires.upper_levels

-- the branch stands now, behind the others or among them
grown : (c : goal.In_ok-index) → AreBranches c.insert_full.new.self.keys × Grows c.args.self.now.branches.keys c.insert_full.new.self.keys
grown c =
    inserted c.args.self.now.branches.keys c.requires.branches (record { bit = c.args.bit; lower = c.args.lower; upper = c.args.upper }) c.requires.lower_stands c.requires.upper_stands c.requires.lower_levels c.requires.upper_levels
    (λ a b. nat_eq a.bit b.bit && (nat_eq a.lower b.lower && nat_eq a.upper b.upper)) c.insert_full.new.self.keys c.in_ok-index.ensures.keys c.requires.bit (omega (arith, c.len.ensures.len, c.if-len-ge-MAX_BRANCHES.false))

pub returns-clause-parts : goal.returns-clause-parts
returns-clause-parts c =
    let branch : Branch = record { bit = c.args.bit; lower = c.args.lower; upper = c.args.upper } in
    let stored = c.in_ok-index.ensures.stored in
    let place : c.in_ok-index.index + 1073741825 - 1073741825 ≡ c.in_ok-index.index = omega arith in
    let found : slice_get c.insert_full.new.self.keys (c.in_ok-index.index + 1073741825 - 1073741825) ≡ Some branch = ap (slice_get c.insert_full.new.self.keys) place ∙ stored.1 ∙ ap Some (sym (same_branch branch stored.0 stored.2)) in
    (grown c).0.parts (c.in_ok-index.index + 1073741825) branch (omega arith) found

pub returns-clause-branches : goal.returns-clause-branches
returns-clause-branches c = (grown c).0

pub returns-clause-done : goal.returns-clause-done
returns-clause-done c = AreDone-Grows _ _ (grown c).1 _ c.requires.done
