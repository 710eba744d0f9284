-- What fails on paths is put behind the listing, and the two are listed together.
use Rattle.std.proofs.Common.{◌≡◌, List, ◌++◌, ap₂, ◌∙◌}
use Rattle.std.proofs.lemmas.Result.{IfOk-weaker}
use Rattle.sparse_model.specs.declared.failure.Failure.{Failure}
use Rattle.context_judge.specs.Found.{found_seen}
use Rattle.ksparse.proofs.Judging.{joined-lists}
use Rattle.ksparse.proofs.check.whole_listing.Goals as goal

joined : (c : goal.After-drop-paths-inside-2) → c.from_vec.result ≡ c.args.judged.now.failures ++ c.in_ok-paths.paths
joined c =
    c.from_vec.ensures ∙ c.in_ok-extend_from_slice.ensures.items
    ∙ ap₂ (λ (front back : List Failure). front ++ back) (c.in_ok-found.ensures.items ∙ c.as_slice.ensures) c.as_slice-2.ensures

pub returns-clause-lists : goal.returns-clause-lists
returns-clause-lists c =
    let judged = c.args.judged.now in
    let paths = c.in_ok-paths.paths in
    IfOk-weaker c.in_order-2.result _ _
    (λ whole lists. λ is. (
      found_seen judged.types paths,
      (is.rows, is.are_rows, c.in_ok-paths.ensures.failures is),
      joined-lists judged.types judged.failures paths c.from_vec.result whole (joined c) lists,
    ))
    c.in_order-2.ensures.lists

pub returns-clause-ordered : goal.returns-clause-ordered
returns-clause-ordered c =
    let judged = c.args.judged.now in
    IfOk-weaker c.in_order-2.result _ _
    (λ whole lists. (joined-lists judged.types judged.failures c.in_ok-paths.paths c.from_vec.result whole (joined c) lists).ordered)
    c.in_order-2.ensures.lists
