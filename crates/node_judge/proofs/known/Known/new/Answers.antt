-- Nothing is known, and all nodes were gathered.
use Rattle.decl_judge.specs.Units.{nodes_of}
use Rattle.node_surroundings.specs.Seen.{surroundings_seen}
use Rattle.node_judge.proofs.KnownLemmas.{known_none}
use Rattle.node_judge.proofs.known.Known.new.Goals as goal

pub returns : goal.returns
returns c =
    let nodes = nodes_of c.args.unit.now in
    let surroundings = surroundings_seen c.args.surroundings.now in
    let kept = c.in_ok-declarations.ensures in
    known_none nodes surroundings _ kept.facts kept.layouts kept.names (kept.kept nodes surroundings) c.new-2.ensures (c.new-3.ensures nodes _)
    (c.new-4.ensures nodes) (record { tags = c.in_ok-tags.ensures; names = c.in_ok-names.ensures })
