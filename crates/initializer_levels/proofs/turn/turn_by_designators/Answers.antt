use Rattle.std.proofs.Common.{◌≡◌, ◌∙◌, sym}
use Rattle.meaning_initializers.specs.Reading.{designators_of, initializer_at}
use Rattle.node_facts.specs.Facts.{nodes_seen}
use Rattle.decl_judge.specs.Units.{nodes_of}
use Rattle.initializer_levels.specs.Items.{items_left}
use Rattle.initializer_levels.specs.Kept.{level_seen}
use Rattle.initializer_levels.proofs.TurnLemmas.{designated_item, designated_turn, none_if, not_next, some_if}
use Rattle.initializer_levels.proofs.turn.turn_by_designators.Goals as goal

pub returns-in_ok-going-clause-turns : goal.returns-in_ok-going-clause-turns
returns-in_ok-going-clause-turns c = λ aggregates known.
    let table = c.args.types.now in
    let nodes = nodes_of c.args.unit.now in
    let facts = nodes_seen table c.args.facts.now in
    let behind = some_if c.args.walk.level.behind (sym c.has_braces.ensures ∙ c.if-has_braces.true) in
    designated_turn aggregates nodes facts table c.args.paths.now c.go_by_designators.new.paths c.args.walk c.in_ok-going.going c.args.next behind.0 c.requires.designated
    (c.requires.next.some c.requires.designated) c.requires.next.items behind.1 (c.in_ok-going.ensures.walk aggregates known)

pub returns-else-has_braces-clause-turns : goal.returns-else-has_braces-clause-turns
returns-else-has_braces-clause-turns c = λ aggregates known.
    let table = c.args.types.now in
    let nodes = nodes_of c.args.unit.now in
    let facts = nodes_seen table c.args.facts.now in
    let old = c.args.paths.now in
    c.turn_out.ensures.turns aggregates nodes facts table old c.requires.walk.levels
    (not_next aggregates (level_seen table old (items_left nodes facts) c.args.walk.level) (items_left nodes facts c.args.walk.items)
    (designated_item _ _ (designators_of nodes facts c.args.next.item) c.args.next.is_designated c.args.next.is_moved
    (initializer_at nodes facts c.args.next.initializer) c.requires.next.items c.requires.designated (c.requires.next.some c.requires.designated)))
    (none_if c.args.walk.level.behind (sym c.has_braces.ensures ∙ c.if-has_braces.false))
