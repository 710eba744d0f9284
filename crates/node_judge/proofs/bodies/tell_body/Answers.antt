-- A node that is no specifier of a structure or a union has no body.
use Rattle.std.proofs.Common.{sym, ap, ◌∙◌}
use Rattle.std.proofs.lemmas.List.{length-map}
use Rattle.meaning_typing.specs.Units.{kind_at}
use Rattle.specifier_judge.specs.Bodies.{is_aggregate}
use Rattle.decl_judge.specs.Units.{nodes_of}
use Rattle.member_rows.specs.Aggregates.{aggregates_in, bodies_in}
use Rattle.node_facts.specs.Facts.{node_seen, nodes_seen}
use Rattle.node_surroundings.specs.Seen.{surroundings_seen}
use Rattle.node_judge.proofs.TellLemmas.{behind_none, first_none, joins_none, no_body}
use Rattle.node_judge.proofs.bodies.tell_body.Goals as goal

pub tell_specifier-requires-clause-kind : goal.tell_specifier-requires-clause-kind
tell_specifier-requires-clause-kind c = ap is_aggregate (sym c.kind_at.ensures) ∙ sym c.is_aggregate.ensures ∙ c.if-is_aggregate.true

pub returns-else-is_aggregate-clause-told : goal.returns-else-is_aggregate-clause-told
returns-else-is_aggregate-clause-told c =
    let nodes = nodes_of c.args.unit.now in
    let surroundings = surroundings_seen c.args.surroundings.now in
    let table = c.args.types.now in
    let seen = nodes_seen table c.args.facts.now in
    let handle = c.args.handle in
    behind_none nodes surroundings seen handle (length-map c.args.facts.now (node_seen table) ∙ c.requires.next) (aggregates_in table) c.requires.told
    (no_body nodes surroundings seen handle (kind_at nodes handle)
    (ap is_aggregate (sym c.kind_at.ensures) ∙ sym c.is_aggregate.ensures ∙ c.if-is_aggregate.false))

pub returns-else-is_aggregate-clause-first : goal.returns-else-is_aggregate-clause-first
returns-else-is_aggregate-clause-first c =
    let nodes = nodes_of c.args.unit.now in
    let surroundings = surroundings_seen c.args.surroundings.now in
    let table = c.args.types.now in
    let seen = nodes_seen table c.args.facts.now in
    let handle = c.args.handle in
    first_none nodes surroundings seen handle (length-map c.args.facts.now (node_seen table) ∙ c.requires.next) (bodies_in table) c.requires.first
    (no_body nodes surroundings seen handle (kind_at nodes handle)
    (ap is_aggregate (sym c.kind_at.ensures) ∙ sym c.is_aggregate.ensures ∙ c.if-is_aggregate.false))

pub returns-else-is_aggregate-clause-joins : goal.returns-else-is_aggregate-clause-joins
returns-else-is_aggregate-clause-joins c = joins_none c.args.types.now c.requires.bodies
