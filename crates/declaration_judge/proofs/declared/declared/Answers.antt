use Rattle.decl_judge.specs.Units.{nodes_of}
use Rattle.node_surroundings.specs.Seen.{surrounding_seen, surroundings_seen}
use Rattle.declaration_judge.proofs.DeclarationLemmas.{tells_made}
use Rattle.declaration_judge.proofs.declared.declared.Goals as goal

pub returns : goal.returns
returns c =
    tells_made (nodes_of c.args.unit.now) (surroundings_seen c.args.surroundings.now) c.args.kept.now c.args.handle (surrounding_seen c.args.surrounding)
    c.args.declaration c.requires.of c.args.found.now c.append_failures.new.found c.known-row.result c.and_breaks.result c.declaration_broken-broken.result
    c.in_ok-append_failures.ensures c.declaration_broken-broken.ensures c.known-row.ensures (c.and_breaks.ensures.seen c.args.kept.now.types)
    (c.and_breaks.ensures.known c.args.kept.now.types)
