use Rattle.std.proofs.Common.{Some, nat_eq, ap, map, sym, ◌∙◌}
use Rattle.std.specs.Ordering.{nat_cmp}
use Rattle.std.specs.Cmp.Lexicographic.{slice_cmp, pointwise, nat_list_cmp_total}
use Rattle.std.specs.FinMap.{get, find, get-from_entries}
use Rattle.sparse_outside.specs.Log.{entry_of}
use Rattle.sparse_outside.proofs.LogLemmas.{find-entries}
use Rattle.sparse_outside.proofs.log.Log.find.Goals as goal

pub loop-file-init : goal.loop-file-init
loop-file-init c =
    ap (λ files. get files c.args.path.now) (sym c.self.view_is)
    ∙ get-from_entries nat_list_cmp_total _ _
    ∙ ap (λ files. find (slice_cmp nat_cmp) c.args.path.now (map entry_of files)) (sym c.into_iter-file-iterator.ensures.into_iter_gives.0)

pub returns-then-eq : goal.returns-then-eq
returns-then-eq c =
    let path = c.args.path.now in
    ap Some c.as_slice-then-eq.ensures.value
    ∙ sym (c.loop-file.invariant
    ∙ ap (λ files. find (slice_cmp nat_cmp) path (map entry_of files)) c.in-Some.ensures.steps
    ∙ find-entries path c.in-Some.file.now _ _ (c.if-eq.ensures ∙ ap (pointwise nat_eq path) c.as_slice.ensures.value))

pub loop-file-preserved : goal.loop-file-preserved
loop-file-preserved c =
    let path = c.args.path.now in
    c.loop-file.invariant
    ∙ ap (λ files. find (slice_cmp nat_cmp) path (map entry_of files)) c.in-Some.ensures.steps
    ∙ find-entries path c.in-Some.file.now _ _ (c.if-eq.ensures ∙ ap (pointwise nat_eq path) c.as_slice.ensures.value)
