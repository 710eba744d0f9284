-- Designator by designator.
use Rattle.std.proofs.Common.{◌≡◌, ℕ, ◌+◌, ◌-◌, ◌<◌, ◌≤◌, ◌∷◌, List, drop, map, sym, ap, subst, ◌∙◌, arith}
use Rattle.vocabulary.specs.declared.node_kind.NodeKind.{NodeKind}
use Rattle.meaning_initializers.specs.Parts.{Part}
use Rattle.meaning_initializers.specs.Designators.{step_of}
use Rattle.meaning_initializers.specs.Reading.{designator_at, designators_of, target_of}
use Rattle.node_facts.specs.Facts.{nodes_seen}
use Rattle.decl_judge.specs.Units.{nodes_of}
use Rattle.initializer_levels.specs.Items.{parts_count}
use Rattle.initializer_levels.specs.Parts.{part_seen, type_seen}
use Rattle.initializer_levels.specs.Ways.{Completes}
use Rattle.initializer_levels.proofs.WayLemmas.{into_part, mapped_more, next_left, none_left, one_part, over_part, to_no_part, to_unknown, whole_way}
use Rattle.initializer_levels.proofs.way.way_to.Goals as goal

pub returns-then-at-count-clause-leads : goal.returns-then-at-count-clause-leads
returns-then-at-count-clause-leads c = λ aggregates known.
    let table = c.args.types.now in
    let nodes = nodes_of c.args.unit.now in
    let facts = nodes_seen table c.args.facts.now in
    let item = c.args.item in
    let at = c.loop-step.at in
    let all = designators_of nodes facts item in
    let past : parts_count nodes item - 1 ≤ at = omega (arith, c.if-at-count.true, c.saturating_sub-count.ensures, c.count_of_parts.ensures) in
    whole_way aggregates (type_seen table c.args.of) all (type_seen table c.loop-step.within) (map (part_seen table) c.loop-step.parts.items) (drop at all)
    (none_left nodes facts item at past) (c.loop-step.invariant.leads aggregates known)

pub loop-step-preserved-in-ToPart : goal.loop-step-preserved-in-ToPart
loop-step-preserved-in-ToPart c =
    let table = c.args.types.now in
    let nodes = nodes_of c.args.unit.now in
    let facts = nodes_seen table c.args.facts.now in
    let item = c.args.item in
    let at = c.loop-step.at in
    let all = designators_of nodes facts item in
    let more : at < parts_count nodes item - 1 = omega (arith, c.if-at-count.false, c.saturating_sub-count.ensures, c.count_of_parts.ensures) in
    let designator = c.child_at-designator.result in
    let left : drop at all ≡ designator_at nodes facts designator ∷ drop (at + 1) all =
    next_left nodes facts item at more ∙ ap (λ (handle : ℕ). designator_at nodes facts handle ∷ drop (at + 1) all) (sym c.child_at-designator.ensures) in
    record {
      leads = λ aggregates known.
          subst (λ (parts : List Part). Completes aggregates (type_seen table c.in-ToPart.part.of) (type_seen table c.args.of) (drop (at + 1) all) all parts)
          (mapped_more table c.loop-step.parts.items _ c.in-ToPart.part c.in_ok-push-in-ToPart.ensures.items)
          (over_part aggregates (type_seen table c.args.of) all (type_seen table c.loop-step.within) (map (part_seen table) c.loop-step.parts.items)
          (designator_at nodes facts designator) (drop (at + 1) all) (drop at all) left (c.loop-step.invariant.leads aggregates known) (part_seen table c.in-ToPart.part)
          (c.in-ToPart.ensures.step aggregates known
          ∙ ap (λ (kind : NodeKind). step_of aggregates (type_seen table c.loop-step.within) (target_of nodes facts designator kind)) c.kind_at-kind.ensures));
      known = one_part table c.loop-step.parts.items _ c.in-ToPart.part c.in_ok-push-in-ToPart.ensures.items c.loop-step.invariant.known c.in-ToPart.ensures.known;
      type_ = c.in-ToPart.ensures.known;
    }

pub loop-step-preserved : goal.loop-step-preserved
loop-step-preserved c =
    let table = c.args.types.now in
    let nodes = nodes_of c.args.unit.now in
    let facts = nodes_seen table c.args.facts.now in
    let item = c.args.item in
    let at = c.loop-step.at in
    let all = designators_of nodes facts item in
    let more : at < parts_count nodes item - 1 = omega (arith, c.if-at-count.false, c.saturating_sub-count.ensures, c.count_of_parts.ensures) in
    let designator = c.child_at-designator.result in
    let left : drop at all ≡ designator_at nodes facts designator ∷ drop (at + 1) all =
    next_left nodes facts item at more ∙ ap (λ (handle : ℕ). designator_at nodes facts handle ∷ drop (at + 1) all) (sym c.child_at-designator.ensures) in
    record {
      leads = λ aggregates known.
          subst (λ (parts : List Part). Completes aggregates (type_seen table c.in-Into.part.of) (type_seen table c.args.of) (drop at all) all parts)
          (mapped_more table c.loop-step.parts.items _ c.in-Into.part c.in_ok-push-in-Into.ensures.items)
          (into_part aggregates (type_seen table c.args.of) all (type_seen table c.loop-step.within) (map (part_seen table) c.loop-step.parts.items)
          (designator_at nodes facts designator) (drop (at + 1) all) (drop at all) left (c.loop-step.invariant.leads aggregates known) (part_seen table c.in-Into.part)
          (c.in-Into.ensures.step aggregates known
          ∙ ap (λ (kind : NodeKind). step_of aggregates (type_seen table c.loop-step.within) (target_of nodes facts designator kind)) c.kind_at-kind.ensures));
      known = one_part table c.loop-step.parts.items _ c.in-Into.part c.in_ok-push-in-Into.ensures.items c.loop-step.invariant.known c.in-Into.ensures.known;
      type_ = c.in-Into.ensures.known;
    }

pub returns-in-NoPart-clause-leads : goal.returns-in-NoPart-clause-leads
returns-in-NoPart-clause-leads c = λ aggregates known.
    let table = c.args.types.now in
    let nodes = nodes_of c.args.unit.now in
    let facts = nodes_seen table c.args.facts.now in
    let item = c.args.item in
    let at = c.loop-step.at in
    let all = designators_of nodes facts item in
    let more : at < parts_count nodes item - 1 = omega (arith, c.if-at-count.false, c.saturating_sub-count.ensures, c.count_of_parts.ensures) in
    let designator = c.child_at-designator.result in
    let left : drop at all ≡ designator_at nodes facts designator ∷ drop (at + 1) all =
    next_left nodes facts item at more ∙ ap (λ (handle : ℕ). designator_at nodes facts handle ∷ drop (at + 1) all) (sym c.child_at-designator.ensures) in
    to_no_part aggregates (type_seen table c.args.of) all (type_seen table c.loop-step.within) (map (part_seen table) c.loop-step.parts.items)
    (designator_at nodes facts designator) (drop (at + 1) all) (drop at all) left (c.loop-step.invariant.leads aggregates known)
    (c.in-NoPart.ensures.step aggregates known
    ∙ ap (λ (kind : NodeKind). step_of aggregates (type_seen table c.loop-step.within) (target_of nodes facts designator kind)) c.kind_at-kind.ensures)

pub returns-in-Unknown-clause-leads : goal.returns-in-Unknown-clause-leads
returns-in-Unknown-clause-leads c = λ aggregates known.
    let table = c.args.types.now in
    let nodes = nodes_of c.args.unit.now in
    let facts = nodes_seen table c.args.facts.now in
    let item = c.args.item in
    let at = c.loop-step.at in
    let all = designators_of nodes facts item in
    let more : at < parts_count nodes item - 1 = omega (arith, c.if-at-count.false, c.saturating_sub-count.ensures, c.count_of_parts.ensures) in
    let designator = c.child_at-designator.result in
    let left : drop at all ≡ designator_at nodes facts designator ∷ drop (at + 1) all =
    next_left nodes facts item at more ∙ ap (λ (handle : ℕ). designator_at nodes facts handle ∷ drop (at + 1) all) (sym c.child_at-designator.ensures) in
    to_unknown aggregates (type_seen table c.args.of) all (type_seen table c.loop-step.within) (map (part_seen table) c.loop-step.parts.items)
    (designator_at nodes facts designator) (drop (at + 1) all) (drop at all) left (c.loop-step.invariant.leads aggregates known)
    (c.in-Unknown.ensures.step aggregates known
    ∙ ap (λ (kind : NodeKind). step_of aggregates (type_seen table c.loop-step.within) (target_of nodes facts designator kind)) c.kind_at-kind.ensures)
