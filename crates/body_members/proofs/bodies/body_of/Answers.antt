use Rattle.std.proofs.Common.{ap, ◌∙◌}
use Rattle.meaning_typing.specs.MemberDeclarations.{attributes_behind, declared_body}
use Rattle.node_surroundings.specs.Seen.{surrounding_seen}
use Rattle.decl_judge.specs.Units.{nodes_of}
use Rattle.body_members.proofs.MemberLemmas.{body_told}
use Rattle.body_members.proofs.bodies.body_of.Goals as goal

pub returns-clause-made : goal.returns-clause-made
returns-clause-made c =
    let nodes = nodes_of c.args.unit.now in
    let attributes = attributes_behind nodes (surrounding_seen c.args.surrounding) in
    body_told c.args.types.now nodes attributes c.in_ok-members.members c.is_packed_behind-packed.result c.in_ok-align.align c.is_packed_behind-packed.ensures
    (c.in_ok-align.ensures ∙ c.alignment_behind.ensures)
    ∙ ap (declared_body nodes attributes) c.in_ok-members.ensures.made
