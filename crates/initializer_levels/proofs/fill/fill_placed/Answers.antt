-- By whether the part takes the item whole.
use Rattle.std.proofs.Common.{◌≡◌, ◌∙◌, ap, sym}
use Rattle.node_facts.specs.Facts.{nodes_seen}
use Rattle.decl_judge.specs.Units.{nodes_of}
use Rattle.initializer_levels.specs.Parts.{type_seen}
use Rattle.initializer_levels.proofs.GoingLemmas.{filled_by_parts, filled_whole, goes_as}
use Rattle.initializer_levels.proofs.fill.fill_placed.Goals as goal

pub returns-then-takes_whole-clause-walk : goal.returns-then-takes_whole-clause-walk
returns-then-takes_whole-clause-walk c = λ paths known.
    let nodes = nodes_of c.args.unit.now in
    let facts = nodes_seen c.args.types.now c.args.facts.now in
    let takes = sym (c.takes_whole.ensures (type_seen c.args.types.now c.args.placed.of) c.parts_of-parts.ensures.parts) ∙ c.if-takes_whole.true in
    goes_as nodes facts c.args.types.now paths _ _ _ (c.receive.ensures.walk facts paths known)
    (λ is_static found. filled_whole is_static found _ _ _ _ c.args.placed.is_moved _ _ _ takes (c.behind.ensures.behind nodes facts))

pub returns-else-takes_whole-clause-walk : goal.returns-else-takes_whole-clause-walk
returns-else-takes_whole-clause-walk c = λ paths known.
    let nodes = nodes_of c.args.unit.now in
    let facts = nodes_seen c.args.types.now c.args.facts.now in
    let takes = sym (c.takes_whole.ensures (type_seen c.args.types.now c.args.placed.of) c.parts_of-parts.ensures.parts) ∙ c.if-takes_whole.false in
    goes_as nodes facts c.args.types.now paths _ _ _ (c.open_placed.ensures.walk nodes facts paths)
    (λ is_static found. filled_by_parts is_static found _ _ _ _ c.args.placed.is_moved _ _ _ takes c.requires.first)
