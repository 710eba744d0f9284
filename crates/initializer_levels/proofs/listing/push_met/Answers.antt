-- One finding more.
use Rattle.std.proofs.Common.{◌≡◌, All, ap, sym, subst, ◌∙◌}
use Rattle.std.proofs.lemmas.Result.{IfOk-weaker}
use Rattle.meaning_initializers.specs.Plans.{extra_items, no_plan, refused}
use Rattle.decl_judge.specs.Units.{nodes_of}
use Rattle.initializer_levels.specs.declared.met.Finding.TheVariants as finds
use Rattle.initializer_levels.specs.declared.met.Met.{Met}
use Rattle.initializer_levels.specs.Items.{items_left}
use Rattle.initializer_levels.specs.Met.{IsFindingIn, IsMetIn, finding_plan, found_with, met_plan}
use Rattle.initializer_levels.specs.Turns.{Found, found_behind}
use Rattle.initializer_levels.proofs.FindingLemmas.{found_followed, found_with-more, one_finding}
use Rattle.initializer_levels.proofs.listing.push_met.Goals as goal

pub returns-in_ok-push-in-One-clause-found : goal.returns-in_ok-push-in-One-clause-found
returns-in_ok-push-in-One-clause-found c = λ facts is_static table paths found.
    ap (found_with (nodes_of c.args.unit.now) facts is_static table paths found) c.in_ok-push-in-One.ensures.items
    ∙ found_with-more (nodes_of c.args.unit.now) facts is_static table paths found c.args.findings.now.items c.in-One.finding
    ∙ ap
    (λ (met : Met).
    found_behind (found_with (nodes_of c.args.unit.now) facts is_static table paths found c.args.findings.now.items)
    (met_plan (nodes_of c.args.unit.now) facts is_static table paths met))
    (sym c.in-One.is)

pub returns-in_ok-push-in-StringAlone-clause-found : goal.returns-in_ok-push-in-StringAlone-clause-found
returns-in_ok-push-in-StringAlone-clause-found c = λ facts is_static table paths found.
    let nodes = nodes_of c.args.unit.now in
    let before = found_with nodes facts is_static table paths found c.args.findings.now.items in
    let leaf = finding_plan nodes facts is_static table paths (finds.Leaf c.in-StringAlone.placed) in
    let others = refused (extra_items (items_left nodes facts c.in-StringAlone.behind)) no_plan in
    IfOk-weaker c.push_extra.result
    (λ done. found_with nodes facts is_static table paths found c.push_extra.new.findings.items
    ≡ found_behind (found_with nodes facts is_static table paths found c.push-in-StringAlone.new.self.items) others)
    (λ done. found_with nodes facts is_static table paths found c.push_extra.new.findings.items
    ≡ found_behind before (met_plan nodes facts is_static table paths c.args.met))
    (λ done so.
    so
    ∙ (ap (λ (f : Found). found_behind f others)
    (ap (found_with nodes facts is_static table paths found) c.in_ok-push-in-StringAlone.ensures.items
    ∙ found_with-more nodes facts is_static table paths found c.args.findings.now.items (finds.Leaf c.in-StringAlone.placed))
    ∙ (found_followed before leaf others
    ∙ ap (λ (met : Met). found_behind before (met_plan nodes facts is_static table paths met)) (sym c.in-StringAlone.is))))
    (c.push_extra.ensures.found facts is_static table paths found)

pub returns-in_ok-push-in-StringAlone-clause-known : goal.returns-in_ok-push-in-StringAlone-clause-known
returns-in_ok-push-in-StringAlone-clause-known c = λ table paths known met.
    c.push_extra.ensures.known table paths
    (subst (All (IsFindingIn table paths)) (sym c.in_ok-push-in-StringAlone.ensures.items)
    (one_finding table paths c.args.findings.now.items (finds.Leaf c.in-StringAlone.placed) known (subst (IsMetIn table paths) c.in-StringAlone.is met)))
