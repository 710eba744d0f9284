use Rattle.std.proofs.Common.{◌+ℤ◌, ◌-ℤ◌, ◌<ℤ◌, pos, inl, inr, refl, sym, arith}
use Rattle.std.proofs.lemmas.Int.{ints}
use Rattle.meaning_paths.specs.Steps.{Call}
use Rattle.control_flow.specs.Seen.{the_key}
use Rattle.context_walk.proofs.ScanLemmas.{low-none, low-some}
use Rattle.context_walk.proofs.scan.low_call.Goals as goal

pub returns-then-from-lt0 : goal.returns-then-from-lt0
returns-then-from-lt0 c =
    let low : (c.args.count +ℤ (c.args.leaves -ℤ c.args.enters)) <ℤ pos 0 = omega (arith, ints, c.if-from-lt0.true, c.from.ensures, c.from-2.ensures, c.from-3.ensures, c.ranges.count, c.ranges.enters, c.ranges.leaves) in
    sym (low-some the_key (Call c.args.token the_key c.args.enters c.args.leaves) c.args.count (refl, inr low))

pub returns : goal.returns
returns c =
    sym
    (low-none the_key (Call c.args.token the_key c.args.enters c.args.leaves) c.args.count
    (λ low. elim low.1 [
      | inl under ↦ absurd (omega (arith, ints, under, c.if-count-enters.false, c.ranges.count, c.ranges.enters))
      | inr behind ↦ absurd (omega (arith, ints, behind, c.if-from-lt0.false, c.from.ensures, c.from-2.ensures, c.from-3.ensures, c.ranges.count, c.ranges.enters, c.ranges.leaves))
    ]))
