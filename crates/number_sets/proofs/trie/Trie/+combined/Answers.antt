-- Facts of the old table are told of the later ones, and the halves make the whole.
use Rattle.std.proofs.Common.{◌≤◌, ◌+◌, ℕ, subst, sym, arith}
use Rattle.std.proofs.lemmas.Result.{IfOk-weaker}
use Rattle.number_sets.specs.Branches.{AreDone, IsMade, levels_of}
use Rattle.number_sets.proofs.BranchLemmas.{IsSplit-Grows, IsMade-Grows, Grows-Grows, levels_of-Grows}
use Rattle.number_sets.proofs.MadeLemmas.{made_by_halves, inserted_holds}
use Rattle.number_sets.proofs.PairLemmas.{pair_eq, same_pair}
use Rattle.number_sets.proofs.trie.Trie.+combined.Goals as goal

pub combined-returns-clause-done : goal.combined-returns-clause-done
combined-returns-clause-done t c =
    subst (AreDone c.parted.new.self.branches.keys) (sym c.in_ok-insert.ensures.entries)
    (inserted_holds (IsMade c.parted.new.self.branches.keys) pair_eq c.args.pair c.in_ok-set.set (λ other h. sym (same_pair c.args.pair other h)) c.in_ok-set.ensures.made c.parted.new.self.done.entries c.parted.ensures.done)

pub parted-combined-requires-2 : goal.parted-combined-requires-2
parted-combined-requires-2 t c =
    let left = IsSplit-Grows _ _ c.combined.ensures.grows _ _ _ _ c.halves-left.ensures in
    let right = IsSplit-Grows _ _ c.combined.ensures.grows _ _ _ _ c.halves-right.ensures in
    (omega arith, (c.combined.ensures.branches, (c.combined.ensures.done, (left.upper_stands, (right.upper_stands, (left.upper_levels, right.upper_levels))))))

pub parted-joined-requires-clause-lower_levels : goal.parted-joined-requires-clause-lower_levels
parted-joined-requires-clause-lower_levels t c =
    let grows = Grows-Grows _ _ _ c.combined.ensures.grows c.combined-2.ensures.grows in
    let left = IsSplit-Grows _ _ grows _ _ _ _ c.halves-left.ensures in
    let right = IsSplit-Grows _ _ grows _ _ _ _ c.halves-right.ensures in
    (IsMade-Grows _ _ c.combined-2.ensures.grows _ _ c.in_ok-lower.ensures.made).levels c.args.bit left.lower_levels right.lower_levels

pub parted-joined-requires-clause-upper_levels : goal.parted-joined-requires-clause-upper_levels
parted-joined-requires-clause-upper_levels t c =
    let grows = Grows-Grows _ _ _ c.combined.ensures.grows c.combined-2.ensures.grows in
    let left = IsSplit-Grows _ _ grows _ _ _ _ c.halves-left.ensures in
    let right = IsSplit-Grows _ _ grows _ _ _ _ c.halves-right.ensures in
    c.in_ok-upper.ensures.made.levels c.args.bit left.upper_levels right.upper_levels

pub parted-returns-clause-made : goal.parted-returns-clause-made
parted-returns-clause-made t c =
    let later = Grows-Grows _ _ _ c.combined-2.ensures.grows c.joined.ensures.grows in
    let grows = Grows-Grows _ _ _ c.combined.ensures.grows later in
    let left = IsSplit-Grows _ _ grows _ _ _ _ c.halves-left.ensures in
    let right = IsSplit-Grows _ _ grows _ _ _ _ c.halves-right.ensures in
    let lower = IsMade-Grows _ _ later _ _ c.in_ok-lower.ensures.made in
    let upper = IsMade-Grows _ _ c.joined.ensures.grows _ _ c.in_ok-upper.ensures.made in
    let left_levels = levels_of-Grows _ _ grows c.args.pair.left c.requires.left_stands in
    let right_levels = levels_of-Grows _ _ grows c.args.pair.right c.requires.right_stands in
    let one : (most : ℕ) → levels_of c.joined.new.self.branches.keys c.args.pair.left ≤ most → levels_of c.joined.new.self.branches.keys c.args.pair.right ≤ most → c.args.bit + 1 ≤ most = λ most l r. c.requires.one most (omega (arith, l, left_levels)) (omega (arith, r, right_levels)) in
    IfOk-weaker _ _ _ (λ set split. made_by_halves _ c.args.pair c.args.bit _ _ _ _ _ _ set left right lower upper split one) c.joined.ensures.parts
