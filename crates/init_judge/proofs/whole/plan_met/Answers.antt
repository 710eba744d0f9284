-- Nothing was found before, and there are no paths.
use Rattle.std.proofs.Common.{All, List, ℕ, ap, sym, subst, ◌∙◌, arith}
use Rattle.decl_judge.specs.Units.{nodes_of}
use Rattle.initializer_levels.specs.declared.met.Finding.{Finding}
use Rattle.initializer_levels.specs.Met.{IsFindingIn, IsMetIn, found_with, met_plan}
use Rattle.initializer_levels.specs.Turns.{found_behind, nothing_found}
use Rattle.init_judge.proofs.whole.plan_met.Goals as goal

pub returns-clause-found : goal.returns-clause-found
returns-clause-found c = λ facts is_static table.
    let nodes = nodes_of c.args.unit.now in
    let paths = c.new-paths.result in
    c.in_ok-push_met.ensures.found facts is_static table paths nothing_found
    ∙ (ap (λ (fs : List Finding). found_behind (found_with nodes facts is_static table paths nothing_found fs) (met_plan nodes facts is_static table paths c.args.met)) c.new-findings.ensures.items
    ∙ ap (λ (ps : List (List ℕ)). found_behind nothing_found (met_plan nodes facts is_static table ps c.args.met)) c.new-paths.ensures)

pub returns-clause-known : goal.returns-clause-known
returns-clause-known c = λ table met.
    let paths = c.new-paths.result in
    c.in_ok-push_met.ensures.known table paths
    (subst (λ (fs : List Finding). All (IsFindingIn table paths) fs) (sym c.new-findings.ensures.items) (λ i e within. absurd (omega (arith, within))))
    (subst (λ (ps : List (List ℕ)). IsMetIn table ps c.args.met) (sym c.new-paths.ensures) met)
