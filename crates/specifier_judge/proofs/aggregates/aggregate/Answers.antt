-- The body that is told of a specifier is the only one that it has.
use Rattle.std.proofs.Common.{◌≡◌, ◌≤◌, IfSome, length, option_map, sym, ap, subst, ◌∙◌, arith}
use Rattle.std.proofs.lemmas.Bool.Decides.{nat_tests}
use Rattle.meaning_typing.specs.MemberDeclarations.{bodies_at, member_lists}
use Rattle.meaning_typing.specs.MemberRows.{aggregate_specifier_row}
use Rattle.meaning_typing.specs.Surroundings.{Surrounding, surrounding_at}
use Rattle.meaning_typing.specs.Units.{kind_at, node_at}
use Rattle.aggregate_rows.proofs.RowLemmas.{first_body_is_all}
use Rattle.body_members.specs.Seen.{IsFirstBody, bodies_if, body_seen}
use Rattle.c_types.specs.Table.{IsBodyOver, types_in}
use Rattle.decl_judge.specs.Units.{nodes_of}
use Rattle.expr_judge.specs.declared.row.NodeRow.{NodeRow}
use Rattle.expr_judge.specs.Rows.{SaysOnly}
use Rattle.node_facts.specs.Facts.{nodes_seen}
use Rattle.node_surroundings.specs.Seen.{surroundings_seen}
use Rattle.specifier_judge.proofs.RowLemmas.{copied_map, copied_some, says_aggregate}
use Rattle.specifier_judge.proofs.aggregates.aggregate.Goals as goal

pub judge_aggregate_specifier-requires-clause-body : goal.judge_aggregate_specifier-requires-clause-body
judge_aggregate_specifier-requires-clause-body c =
    copied_some (IsBodyOver (types_in c.args.types.now)) c.as_ref.result
    (subst (λ body. IfSome body (IsBodyOver (types_in c.args.types.now))) (sym c.as_ref.ensures.value) c.in_ok-body.ensures.known)

pub returns-clause-says : goal.returns-clause-says
returns-clause-says c =
    let nodes = nodes_of c.args.unit.now in
    let surroundings = surroundings_seen c.args.surroundings.now in
    let handle = c.args.handle in
    let old = c.args.types.now in
    let new = c.judge_aggregate_specifier.new.types in
    let facts = nodes_seen old c.args.facts.now in
    let body = option_map (body_seen old) c.in_ok-body.body in
    let meant = aggregate_specifier_row nodes surroundings facts handle c.args.is_union in
    let few : length (member_lists nodes handle) ≤ 1 = grind (arith, nat_tests, c.if-not-has_one_body.false, c.has_one_body.ensures) in
    let stands : IsFirstBody nodes facts handle (surrounding_at surroundings handle) body =
    subst (λ (surrounding : Surrounding). IsFirstBody nodes facts handle surrounding body) c.get-surrounding.ensures.seen c.in_ok-body.ensures.made in
    let bodies : bodies_if (node_at nodes handle).number (option_map (λ body. body_seen old body.now) c.as_ref.result) ≡ bodies_at nodes surroundings facts handle (kind_at nodes handle) =
    ap (bodies_if (node_at nodes handle).number) (copied_map (body_seen old) c.as_ref.result ∙ ap (option_map (body_seen old)) c.as_ref.ensures.value)
    ∙ first_body_is_all nodes surroundings facts handle body c.requires.kind few stands in
    subst (λ (row : NodeRow). SaysOnly new row meant) (sym c.take_aggregate.ensures)
    (says_aggregate new c.in_ok-row.row meant (c.in_ok-row.ensures.says surroundings facts bodies c.requires.known.told) c.in_ok-row.ensures.known)
