use Rattle.std.proofs.Common.{IfSome, option_map, ap, sym, subst, ◌∙◌}
use Rattle.meaning_typing.specs.MemberRows.{width_row}
use Rattle.c_types.specs.Table.{IsTypeId, type_at}
use Rattle.node_facts.specs.Facts.{node_seen}
use Rattle.expression_rows.specs.Rows.{told}
use Rattle.decl_judge.proofs.AskedLemmas.{declared_at_known, declared_at_told}
use Rattle.member_declarations.proofs.bit_fields.width_behind.Goals as goal

pub judge_width-requires-clause-of : goal.judge_width-requires-clause-of
judge_width-requires-clause-of c =
    let table = c.args.types.now in
    subst (λ of. IfSome of (IsTypeId table)) (sym c.declared_type_at-of.ensures) (declared_at_known table c.args.facts.now c.args.declarator c.requires.facts)

pub returns-clause-row : goal.returns-clause-row
returns-clause-row c =
    let table = c.args.types.now in
    let size = node_seen table c.args.size in
    let of = ap (option_map (type_at table)) c.declared_type_at-of.ensures ∙ declared_at_told table c.args.facts.now c.args.declarator in
    c.judge_width.ensures.row
    ∙ (λ i. told (width_row (c.token_at.ensures i) (c.has_name-is_named.ensures i) (of i) size))
