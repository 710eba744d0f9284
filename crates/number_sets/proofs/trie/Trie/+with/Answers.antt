-- Facts of the old table are told of the later ones, and the half with the number makes the whole.
use Rattle.std.proofs.Common.{◌≡◌, ◌+◌, ◌-◌, ◌*◌, ◌<◌, ◌^◌, ap, sym, subst, ◌∙◌, arith}
use Rattle.std.proofs.lemmas.Nat.{pow-add}
use Rattle.std.proofs.Math.Pow.{pow_mono}
use Rattle.std.proofs.lemmas.Result.{IfOk-weaker}
use Rattle.number_sets.specs.Branches.{HasToo}
use Rattle.number_sets.proofs.BranchLemmas.{IsSplit-Grows, HasToo-Grows, Grows-Grows}
use Rattle.number_sets.proofs.MadeLemmas.{grown_below, grown_above, grown_at_zero, grown_empty}
use Rattle.number_sets.proofs.trie.Trie.+with.Goals as goal

pub single-requires : goal.single-requires
single-requires t c = omega (arith, pow_mono {i = c.args.levels} {j = 30} c.requires.most, c.requires.number)

pub returns-then-set-eq-EMPTY-clause-more : goal.returns-then-set-eq-EMPTY-clause-more
returns-then-set-eq-EMPTY-clause-more t c =
    let bs = c.args.self.now.branches.keys in
    let small : c.args.number < 2 ^ 30 = omega (arith, pow_mono {i = c.args.levels} {j = 30} c.requires.most, c.requires.number) in
    subst (λ set. HasToo bs c.args.levels set c.args.number c.single.result) (sym c.if-set-eq-EMPTY.true)
    (subst (λ grown. HasToo bs c.args.levels 0 c.args.number grown) (sym c.single.ensures) (grown_empty bs c.args.levels c.args.number small c.requires.number))

pub returns-then-levels-eq0-clause-more : goal.returns-then-levels-eq0-clause-more
returns-then-levels-eq0-clause-more t c = grown_at_zero _ c.args.levels c.args.set c.args.number c.if-levels-eq0.true (omega (arith, c.if-set-eq-EMPTY.false)) c.requires.stands c.requires.set c.requires.number

pub joined-requires-clause-upper_levels : goal.joined-requires-clause-upper_levels
joined-requires-clause-upper_levels t c = (IsSplit-Grows _ _ c.with.ensures.grows _ _ _ _ c.halves-lower.ensures).upper_levels

pub returns-then-number-split-clause-more : goal.returns-then-number-split-clause-more
returns-then-number-split-clause-more t c =
    let grows = Grows-Grows _ _ _ c.with.ensures.grows c.joined.ensures.grows in
    let split = IsSplit-Grows _ _ grows _ _ _ _ c.halves-lower.ensures in
    let lower = IsSplit-Grows _ _ c.with.ensures.grows _ _ _ _ c.halves-lower.ensures in
    let grown = HasToo-Grows _ _ c.joined.ensures.grows _ _ _ _ lower.lower_stands c.in_ok-grown.ensures.more in
    IfOk-weaker _ _ _ (λ set whole. grown_below _ c.args.levels c.args.set _ _ _ c.args.number _ set (omega (arith, c.if-levels-eq0.false)) split (omega (arith, c.half-split.ensures, c.if-number-split.true)) grown whole) c.joined.ensures.parts

pub with-requires-2 : goal.with-requires-2
with-requires-2 t c =
    let next : c.args.levels - 1 + 1 ≡ c.args.levels = omega (arith, c.if-levels-eq0.false) in
    let twice : 2 ^ c.args.levels ≡ 2 ^ (c.args.levels - 1) * 2 = ap (λ k. 2 ^ k) (sym next) ∙ pow-add 2 (c.args.levels - 1) 1 in
    (omega arith, (c.requires.branches, (c.requires.done, (omega (arith, c.requires.most), (c.halves-lower.ensures.upper_stands, (c.halves-lower.ensures.upper_levels, omega (arith, twice, c.requires.number, c.half-split.ensures, c.if-number-split.false)))))))

pub joined-requires-2-clause-lower_levels : goal.joined-requires-2-clause-lower_levels
joined-requires-2-clause-lower_levels t c = (IsSplit-Grows _ _ c.with-2.ensures.grows _ _ _ _ c.halves-lower.ensures).lower_levels

pub returns-clause-more : goal.returns-clause-more
returns-clause-more t c =
    let grows = Grows-Grows _ _ _ c.with-2.ensures.grows c.joined-2.ensures.grows in
    let split = IsSplit-Grows _ _ grows _ _ _ _ c.halves-lower.ensures in
    let upper = IsSplit-Grows _ _ c.with-2.ensures.grows _ _ _ _ c.halves-lower.ensures in
    let grown = HasToo-Grows _ _ c.joined-2.ensures.grows _ _ _ _ upper.upper_stands c.in_ok-grown-2.ensures.more in
    IfOk-weaker _ _ _ (λ set whole. grown_above _ c.args.levels c.args.set _ _ _ c.args.number _ _ set (omega (arith, c.if-levels-eq0.false)) split (omega (arith, c.half-split.ensures, c.if-number-split.false)) (ap (λ p. c.args.number - p) c.half-split.ensures) grown whole) c.joined-2.ensures.parts
