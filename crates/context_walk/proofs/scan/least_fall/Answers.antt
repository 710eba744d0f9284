use Rattle.std.proofs.Common.{List, sym, ap, ◌∙◌, subst}
use Rattle.std.proofs.lemmas.List.{nil_from_length}
use Rattle.meaning_paths.specs.ContextRules.{IsLeast}
use Rattle.control_flow.specs.Seen.{the_key}
use Rattle.context_walk.specs.declared.passed.PassedStep.{PassedStep}
use Rattle.context_walk.specs.Passed.{passed_seen}
use Rattle.context_walk.specs.Scans.{LowIn, too_low_at}
use Rattle.context_walk.proofs.LeastLemmas.{lowest}
use Rattle.context_walk.proofs.ScanLemmas.{least-fall}
use Rattle.context_walk.proofs.scan.least_fall.Goals as goal

pub returns : goal.returns
returns c =
    let none = nil_from_length c.steps.rest.now c.in_default.ensures.cases in
    subst (IsLeast (LowIn the_key (passed_seen c.args.passed.now)))
    (sym c.steps.invariant ∙ ap (λ (rest : List PassedStep). lowest (too_low_at the_key) c.steps.least (passed_seen rest)) none)
    (least-fall the_key (passed_seen c.args.passed.now))
