use Rattle.node_facts.specs.Facts.{nodes_seen}
use Rattle.decl_judge.specs.Units.{nodes_of}
use Rattle.initializer_levels.proofs.turn.take_turn.Goals as goal

pub returns-in-None-clause-turns : goal.returns-in-None-clause-turns
returns-in-None-clause-turns c = λ aggregates known.
    let facts = nodes_seen c.args.types.now c.args.facts.now in
    c.turn_at_end.ensures.turns aggregates (nodes_of c.args.unit.now) facts c.args.types.now c.args.paths.now c.requires.walk.levels (c.in-None.ensures.none facts)
