use Rattle.std.proofs.Common.{◌≡◌, ◌∙◌, ◌-◌, ap, length, slice_set, slice_index_or, arith, true, refl}
use Rattle.c_macros.proofs.ClosingLemmas.{keeps-set}
use Rattle.c_macros.proofs.LayLemmas.{space-put}
use Rattle.c_macros.proofs.lay.put_space.Goals as goal

pub returns-then-count-floor-clause-stand : goal.returns-then-count-floor-clause-stand
returns-then-count-floor-clause-stand c = λ below now work floor.
    let top = c.index_mut.result.now in
    let items = c.args.work.now.items in
    let count : c.len-count.result ≡ length items = c.len-count.ensures ∙ c.args.work.now.ok.0 in
    ap (λ n. slice_set items (n - 1) (record top { token = record top.token { space_before = true } })) count
    ∙ space-put below now top c.args.space c.if-space.true items work (omega (arith, c.if-count-floor.true, count, floor))
    (c.index_mut.ensures.value ∙ ap (λ n. slice_index_or items (n - 1) top) count)

pub returns-then-count-floor-clause-below : goal.returns-then-count-floor-clause-below
returns-then-count-floor-clause-below c =
    let top = c.index_mut.result.now in
    keeps-set c.args.work.now.items _ c.len-count.result (record top { token = record top.token { space_before = true } }) (c.len-count.ensures ∙ c.args.work.now.ok.0) refl
