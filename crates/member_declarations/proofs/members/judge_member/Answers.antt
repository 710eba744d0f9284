use Rattle.std.proofs.Common.{◌≡◌, ap, ◌∙◌}
use Rattle.meaning_typing.specs.Declarators.{type_declared}
use Rattle.meaning_typing.specs.MemberDeclarations.{member_declarator_fact}
use Rattle.meaning_typing.specs.MemberRows.{member_declarator_by, name_broken, typed_member_broken}
use Rattle.meaning_typing.specs.Surroundings.{surrounding_at}
use Rattle.node_facts.specs.Facts.{node_seen, nodes_seen}
use Rattle.expression_rows.specs.Rows.{told}
use Rattle.decl_judge.specs.Units.{nodes_of}
use Rattle.node_surroundings.specs.Seen.{surroundings_seen}
use Rattle.member_declarations.proofs.StandingLemmas.{part_within}
use Rattle.member_declarations.proofs.members.judge_member.Goals as goal

pub get-standing-requires : goal.get-standing-requires
get-standing-requires c = part_within c.args.unit.now c.args.surroundings.now c.requires.whole c.requires.surroundings c.args.handle c.requires.part

pub returns-clause-row : goal.returns-clause-row
returns-clause-row c =
    let nodes = nodes_of c.args.unit.now in
    let seen = surroundings_seen c.args.surroundings.now in
    let facts = nodes_seen c.args.types.now c.args.facts.now in
    let handle = c.args.handle in
    let names = name_broken nodes seen handle in
    let fact : node_seen c.member_fact.new.types c.in_ok-fact.fact ≡ member_declarator_fact nodes facts handle (surrounding_at seen handle) =
    c.in_ok-fact.ensures.fact ∙ ap (member_declarator_fact nodes facts handle) c.get-standing.ensures.seen in
    c.member_row-row.ensures.row names c.requires.name
    ∙ (λ i. told
    (member_declarator_by
    (typed_member_broken nodes seen (c.in_ok-fact.ensures.keeps.layouts i) handle (surrounding_at seen handle).parent (type_declared (fact i)))
    names
    (fact i)))
