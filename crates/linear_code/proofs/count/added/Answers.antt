-- The two halves of a long.
use Rattle.std.proofs.Common.{◌<◌, ◌^◌, ap, of_z, to_z, ◌∙◌, arith}
use Rattle.std.specs.Int.{w64}
use Rattle.std.proofs.lemmas.Int.{of_z-to_z}
use Rattle.linear_code.proofs.CountLemmas.{long-of}
use Rattle.linear_code.proofs.count.added.Goals as goal

pub returns : goal.returns
returns c =
    let small : c.args.number < 2 ^ 64 = omega (arith, c.ranges.number) in
    ap (λ z. to_z w64 (of_z w64 z)) c.cast_signed.ensures ∙ ap (to_z w64) (of_z-to_z w64 c.args.number small) ∙ long-of c.args.number small
