-- By where the designators lead.
use Rattle.std.proofs.Common.{◌≡◌, List, ap, sym, subst, map, ◌∙◌}
use Rattle.std.proofs.lemmas.Result.{IfOk-weaker}
use Rattle.meaning_initializers.specs.Designators.{Along, Leads}
use Rattle.meaning_initializers.specs.Reading.{designators_of}
use Rattle.node_facts.specs.Facts.{nodes_seen}
use Rattle.decl_judge.specs.Units.{nodes_of}
use Rattle.initializer_levels.specs.declared.parts.Part.{Part}
use Rattle.initializer_levels.specs.declared.way.Way.{Way}
use Rattle.initializer_levels.specs.Parts.{part_seen, type_seen}
use Rattle.initializer_levels.specs.Ways.{way_seen}
use Rattle.initializer_levels.proofs.designate.go_by_designators.Goals as goal

pub returns-in-Along-clause-walk : goal.returns-in-Along-clause-walk
returns-in-Along-clause-walk c = λ aggregates known.
    let table = c.args.types.now in
    let nodes = nodes_of c.args.unit.now in
    let facts = nodes_seen table c.args.facts.now in
    let leads =
    subst (λ (way : Way). Leads aggregates (type_seen table c.args.walk.level.of) (designators_of nodes facts c.args.next.item) (way_seen nodes facts table way)) c.in-Along.is
    (c.in_ok-way.ensures.leads aggregates known) in
    let leads_now =
    subst (λ (parts : List Part). Leads aggregates (type_seen table c.args.walk.level.of) (designators_of nodes facts c.args.next.item) (Along (map (part_seen table) parts)))
    (sym c.as_slice.ensures.value) leads in
    IfOk-weaker c.go_along.result _ _ (λ going goes. (Along (map (part_seen table) c.as_slice.result.now), leads_now, goes)) c.go_along.ensures.walk

pub returns-in-NoPart-clause-walk : goal.returns-in-NoPart-clause-walk
returns-in-NoPart-clause-walk c = λ aggregates known.
    let table = c.args.types.now in
    let nodes = nodes_of c.args.unit.now in
    let facts = nodes_seen table c.args.facts.now in (
      _,
      subst (λ (way : Way). Leads aggregates (type_seen table c.args.walk.level.of) (designators_of nodes facts c.args.next.item) (way_seen nodes facts table way)) c.in-NoPart.is
          (c.in_ok-way.ensures.leads aggregates known),
      c.go_nowhere.ensures.walk facts table c.args.paths.now,
    )

pub returns-in-NoPart-clause-known : goal.returns-in-NoPart-clause-known
returns-in-NoPart-clause-known c = c.go_nowhere.ensures.known c.args.types.now c.args.paths.now c.requires.walk tt

pub returns-in-Unknown-clause-walk : goal.returns-in-Unknown-clause-walk
returns-in-Unknown-clause-walk c = λ aggregates known.
    let table = c.args.types.now in
    let nodes = nodes_of c.args.unit.now in
    let facts = nodes_seen table c.args.facts.now in (
      _,
      subst (λ (way : Way). Leads aggregates (type_seen table c.args.walk.level.of) (designators_of nodes facts c.args.next.item) (way_seen nodes facts table way)) c.in-Unknown.is
          (c.in_ok-way.ensures.leads aggregates known),
      c.go_nowhere-in-Unknown.ensures.walk facts table c.args.paths.now,
    )

pub returns-in-Unknown-clause-known : goal.returns-in-Unknown-clause-known
returns-in-Unknown-clause-known c = c.go_nowhere-in-Unknown.ensures.known c.args.types.now c.args.paths.now c.requires.walk tt
