use Rattle.std.proofs.Common.{◌≡◌, List, None, sym, ap, ◌∙◌, subst}
use Rattle.std.specs.Int.{w64}
use Rattle.std.proofs.lemmas.Int.{to_z-of_z}
use Rattle.std.proofs.lemmas.List.{nil_from_length}
use Rattle.context_walk.specs.declared.passed.PassedStep.{PassedStep}
use Rattle.context_walk.specs.Passed.{passed_seen}
use Rattle.context_walk.specs.Scans.{IsLeastExit, WrongIn, seen_end, wrong_end_at}
use Rattle.context_walk.proofs.LeastLemmas.{lowest_end}
use Rattle.context_walk.proofs.ScanLemmas.{least-wrong_end}
use Rattle.context_walk.proofs.scan.least_wrong_end.Goals as goal

pub returns : goal.returns
returns c =
    let none = nil_from_length c.steps.rest.now c.in_default.ensures.cases in
    subst (IsLeastExit (WrongIn c.args.leaves (passed_seen c.args.passed.now)))
    (sym (subst (λ out. lowest_end (wrong_end_at out) (seen_end c.steps.least) (passed_seen c.steps.rest.now) ≡ lowest_end (wrong_end_at out) None (passed_seen c.args.passed.now)) (to_z-of_z w64 c.args.leaves c.ranges.leaves) c.steps.invariant)
    ∙ ap (λ (rest : List PassedStep). lowest_end (wrong_end_at c.args.leaves) (seen_end c.steps.least) (passed_seen rest)) none)
    (least-wrong_end c.args.leaves (passed_seen c.args.passed.now))
