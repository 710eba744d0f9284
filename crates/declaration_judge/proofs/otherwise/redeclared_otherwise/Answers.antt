use Rattle.std.proofs.Common.{refl, ◌∙◌}
use Rattle.decl_judge.specs.Units.{nodes_of}
use Rattle.node_surroundings.specs.Seen.{surrounding_seen, surroundings_seen}
use Rattle.declaration_judge.proofs.LinkedLemmas.{from_not, otherwise_told}
use Rattle.declaration_judge.proofs.otherwise.redeclared_otherwise.Goals as goal

pub returns-clause-listed : goal.returns-clause-listed
returns-clause-listed c =
    let declaration = c.args.declaration in
    let kept = c.args.kept.now in
    let stands = surrounding_seen c.args.surrounding in
    c.redeclared.ensures.listed kept.types
    ∙ otherwise_told (nodes_of c.args.unit.now) (surroundings_seen c.args.surroundings.now) kept c.requires.kept declaration c.args.handle
    c.token_at.result stands c.in_ok-contexts.contexts c.differing_type-earlier.result
    (from_not declaration.has_linkage c.if-not-declaration.false) c.token_at.ensures (c.in_ok-contexts.ensures stands refl refl)
    c.differing_type-earlier.ensures.told
