use Rattle.meaning_typing.specs.Surroundings.{surrounding_at}
use Rattle.decl_judge.specs.Units.{nodes_of}
use Rattle.node_facts.specs.Facts.{nodes_seen}
use Rattle.node_surroundings.specs.Seen.{surroundings_seen}
use Rattle.node_judge.proofs.MemberLemmas.{field_none}
use Rattle.node_judge.proofs.widths.bit_field.Goals as goal

pub returns : goal.returns
returns c =
    let nodes = nodes_of c.args.unit.now in
    let table = c.args.types.now in
    let handle = c.args.handle in
    c.take_member_row.ensures table _ c.bit_field_row-row.ensures.row c.bit_field_row-row.ensures.known
    (field_none nodes (nodes_seen table c.args.facts.now) handle (surrounding_at (surroundings_seen c.args.surroundings.now) handle))
