-- A turn more.
use Rattle.std.proofs.Common.{◌≡◌, ap, sym, subst, ◌∙◌}
use Rattle.node_facts.specs.Facts.{nodes_seen}
use Rattle.decl_judge.specs.Units.{nodes_of}
use Rattle.initializer_levels.specs.declared.walk.Turned as kept
use Rattle.initializer_levels.specs.Items.{items_left}
use Rattle.initializer_levels.specs.Met.{found_with, met_plan}
use Rattle.initializer_levels.specs.Turns.{Found, Turns, done, found_behind, nothing_found, turned}
use Rattle.initializer_levels.specs.Walks.{IsKnownTurned, turned_seen, walk_seen}
use Rattle.initializer_levels.proofs.FindingLemmas.{findings_longer, found_stays}
use Rattle.initializer_levels.proofs.plan.walk_items.Goals as goal

pub returns-in-Done-clause-comes : goal.returns-in-Done-clause-comes
returns-in-Done-clause-comes c = λ aggregates is_static known.
    let table = c.args.types.now in
    let nodes = nodes_of c.args.unit.now in
    let facts = nodes_seen table c.args.facts.now in
    let read = items_left nodes facts in
    let old = c.loop-turn.paths in
    let new = c.take_turn.new.paths in
    let findings = c.loop-turn.findings.items in
    let met = c.in_ok-turn.turn.met in
    let keeps = c.in_ok-turn.ensures.keeps in
    let found = found_with nodes facts is_static table old nothing_found findings in
    let walk = walk_seen table old read found c.loop-turn.walk in
    let same : found_with nodes facts is_static table new nothing_found c.push_met.new.findings.items
    ≡ found_behind found (met_plan nodes facts is_static table new met) =
    c.in_ok-push_met.ensures.found facts is_static table new nothing_found
    ∙ ap (λ (f : Found). found_behind f (met_plan nodes facts is_static table new met))
    (found_stays nodes facts is_static table old new keeps nothing_found findings c.loop-turn.invariant.findings) in
    let turn = subst (λ (f : Found). Turns aggregates is_static walk (turned_seen table new read f c.in_ok-turn.turn.turned)) (sym same)
    (c.in_ok-turn.ensures.turns aggregates known is_static found) in
    let now = found_with nodes facts is_static table new nothing_found c.push_met.new.findings.items in
    c.loop-turn.invariant.comes aggregates is_static now c.in-Done.length known
    (done (subst (λ (t : kept.Turned). Turns aggregates is_static walk (turned_seen table new read now t)) c.in-Done.is turn))

pub returns-in-Done-clause-known : goal.returns-in-Done-clause-known
returns-in-Done-clause-known c =
    let table = c.args.types.now in
    let nodes = nodes_of c.args.unit.now in
    let facts = nodes_seen table c.args.facts.now in
    let read = items_left nodes facts in
    let old = c.loop-turn.paths in
    let new = c.take_turn.new.paths in
    let findings = c.loop-turn.findings.items in
    let met = c.in_ok-turn.turn.met in
    let keeps = c.in_ok-turn.ensures.keeps in
    c.in_ok-push_met.ensures.known table new (findings_longer table old new findings keeps c.loop-turn.invariant.findings) c.in_ok-turn.ensures.known.met

pub loop-turn-preserved : goal.loop-turn-preserved
loop-turn-preserved c =
    let table = c.args.types.now in
    let nodes = nodes_of c.args.unit.now in
    let facts = nodes_seen table c.args.facts.now in
    let read = items_left nodes facts in
    let old = c.loop-turn.paths in
    let new = c.take_turn.new.paths in
    let findings = c.loop-turn.findings.items in
    let met = c.in_ok-turn.turn.met in
    let keeps = c.in_ok-turn.ensures.keeps in
    record {
      comes = λ aggregates is_static end length known rest.
          let found = found_with nodes facts is_static table old nothing_found findings in
          let walk = walk_seen table old read found c.loop-turn.walk in
          let same : found_with nodes facts is_static table new nothing_found c.push_met.new.findings.items
          ≡ found_behind found (met_plan nodes facts is_static table new met) =
          c.in_ok-push_met.ensures.found facts is_static table new nothing_found
          ∙ ap (λ (f : Found). found_behind f (met_plan nodes facts is_static table new met))
          (found_stays nodes facts is_static table old new keeps nothing_found findings c.loop-turn.invariant.findings) in
          let turn = subst (λ (f : Found). Turns aggregates is_static walk (turned_seen table new read f c.in_ok-turn.turn.turned)) (sym same)
          (c.in_ok-turn.ensures.turns aggregates known is_static found) in
          let now = found_with nodes facts is_static table new nothing_found c.push_met.new.findings.items in
          c.loop-turn.invariant.comes aggregates is_static end length known
          (turned (subst (λ (t : kept.Turned). Turns aggregates is_static walk (turned_seen table new read now t)) c.in-Goes.is turn) rest);
      known = subst (IsKnownTurned table new) c.in-Goes.is c.in_ok-turn.ensures.known.turned;
      findings = c.in_ok-push_met.ensures.known table new (findings_longer table old new findings keeps c.loop-turn.invariant.findings) c.in_ok-turn.ensures.known.met;
    }
