-- What is reached is passed, what is passed is scanned, and the scans have the answer.
use Rattle.std.proofs.Common.{List, FitsSigned, rules, sym, ap, ◌∙◌, subst}
use Rattle.std.specs.Int.{w64}
use Rattle.std.proofs.lemmas.Int.{to_z-of_z}
use Rattle.meaning_paths.specs.Graphs.{EachBeginsWithPoint, IsClosed, IsPathOf}
use Rattle.meaning_paths.specs.ContextRules.{IsAnswer, IsLeast}
use Rattle.control_flow.specs.declared.flow.Block.{Block}
use Rattle.control_flow.specs.Seen.{graph_of, graph_of_blocks, the_key}
use Rattle.step_counts.specs.declared.counts.Counts.{Counts}
use Rattle.context_walk.specs.declared.passed.PassedStep.{PassedStep}
use Rattle.context_walk.specs.Reached.{IsExact}
use Rattle.context_walk.specs.Passed.{passed_of, passed_seen}
use Rattle.context_walk.specs.Scans.{DifferIn, IsLeastExit, LowIn, WrongIn, answered, seen_end}
use Rattle.context_walk.proofs.PassedLemmas.{Tells, exact-tells}
use Rattle.context_walk.proofs.ScanLemmas.{answered-is}
use Rattle.context_walk.proofs.answer.walk.Goals as goal

pub reach-requires-clause-closed : goal.reach-requires-clause-closed
reach-requires-clause-closed c = subst (λ (blocks : List Block). IsClosed (graph_of_blocks blocks)) (sym c.as_slice-blocks.ensures) c.requires.closed

pub returns : goal.returns
returns c =
    let blocks = c.as_slice-blocks.result.now in
    let graph = graph_of_blocks blocks in
    let enters = c.args.note.now.enters in
    let leaves = c.args.note.now.leaves in
    let enters_fit : FitsSigned w64 c.args.note.now.enters = search rules in
    let leaves_fit : FitsSigned w64 c.args.note.now.leaves = search rules in
    let passed = passed_seen c.in_ok-passed.passed.items in
    let points : EachBeginsWithPoint (graph_of_blocks blocks) = subst (λ (all : List Block). EachBeginsWithPoint (graph_of_blocks all)) (sym c.as_slice-blocks.ensures) c.requires.points in
    let exact = subst (λ start. IsExact (graph_of_blocks blocks) the_key start c.in_ok-counts.counts.items) (to_z-of_z w64 enters enters_fit) c.in_ok-counts.ensures.exact in
    let is = c.in_ok-passed.ensures ∙ ap (λ (counts : List Counts). passed_of the_key counts (graph_of_blocks blocks)) c.deref.ensures.value in
    let tells = subst (Tells graph the_key enters) (sym is) (exact-tells graph the_key enters c.in_ok-counts.counts.items exact points) in
    let different = subst (λ (entries : List PassedStep). IsLeast (DifferIn (passed_seen entries)) c.in_ok-different.different) c.deref-2.ensures.value c.in_ok-different.ensures in
    let fall = subst (λ (entries : List PassedStep). IsLeast (LowIn the_key (passed_seen entries)) c.least_fall-fall.result) c.deref-3.ensures.value c.least_fall-fall.ensures in
    let out =
    subst (λ (entries : List PassedStep). IsLeastExit (WrongIn leaves (passed_seen entries)) (seen_end c.least_wrong_end-wrong.result)) c.deref-4.ensures.value
    (subst (λ out. IsLeastExit (WrongIn out (passed_seen c.deref-4.result.now)) (seen_end c.least_wrong_end-wrong.result)) (to_z-of_z w64 leaves leaves_fit) c.least_wrong_end-wrong.ensures)
    in
    subst (IsAnswer (IsPathOf (graph_of c.args.flow.now)) the_key enters leaves) (sym c.answer.ensures)
    (subst (λ (all : List Block). IsAnswer (IsPathOf (graph_of_blocks all)) the_key enters leaves (answered c.in_ok-different.different c.least_fall-fall.result (seen_end c.least_wrong_end-wrong.result))) c.as_slice-blocks.ensures
    (answered-is graph the_key enters passed tells leaves c.in_ok-different.different c.least_fall-fall.result (seen_end c.least_wrong_end-wrong.result) different fall out))
