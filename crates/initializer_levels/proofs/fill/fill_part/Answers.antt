-- The part stands where its path leads, and the levels around stay.
use Rattle.std.proofs.lemmas.Result.{IfOk-weaker}
use Rattle.node_facts.specs.Facts.{nodes_seen}
use Rattle.decl_judge.specs.Units.{nodes_of}
use Rattle.initializer_levels.proofs.GoingLemmas.{known_longer, part_goes, walk_longer}
use Rattle.initializer_levels.proofs.fill.fill_part.Goals as goal

pub returns-clause-walk : goal.returns-clause-walk
returns-clause-walk c =
    let table = c.args.types.now in
    let old = c.args.paths.now in
    let new = c.path_of_part.new.paths in
    let keeps = c.in_ok-path.ensures.keeps in
    IfOk-weaker _ _ _
    (λ going goes.
    part_goes (nodes_of c.args.unit.now) (nodes_seen table c.args.facts.now) table old new c.args.walk going c.args.part c.in_ok-path.path c.args.initializer c.args.is_moved keeps
    c.requires.walk (c.in_ok-path.ensures.path table c.args.walk.level.of c.requires.walk.level.parts) goes)
    (c.fill_placed.ensures.walk new (known_longer table old new c.args.walk.level keeps c.requires.walk.level))

pub returns-clause-known : goal.returns-clause-known
returns-clause-known c =
    let table = c.args.types.now in
    let old = c.args.paths.now in
    let new = c.path_of_part.new.paths in
    c.fill_placed.ensures.known new (walk_longer table old new c.args.walk c.in_ok-path.ensures.keeps c.requires.walk)
    (c.in_ok-path.ensures.known c.requires.walk.level.path)
