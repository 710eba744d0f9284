use Rattle.std.proofs.Common.{◌≡◌, Option, IfSome, option_map, sym, ap, subst, ◌∙◌}
use Rattle.sparse_model.specs.declared.ids.TypeId.{TypeId}
use Rattle.meaning_typing.specs.Casts.{cast_row, is_forced}
use Rattle.meaning_typing.specs.Declarators.{named_if}
use Rattle.meaning_typing.specs.Facts.{fact_at}
use Rattle.meaning_typing.specs.Specifiers.{type_named}
use Rattle.meaning_typing.specs.Typing.{part_fact, token_at}
use Rattle.meaning_typing.specs.Units.{child_at}
use Rattle.c_types.specs.Table.{IsTypeId, type_at}
use Rattle.decl_judge.specs.Asked.{named_in}
use Rattle.decl_judge.specs.Units.{nodes_of}
use Rattle.decl_judge.proofs.AskedLemmas.{named_at_known, named_at_told}
use Rattle.expression_rows.specs.Casts.{named_part}
use Rattle.expression_rows.specs.Facts.{valued_part}
use Rattle.node_facts.specs.Facts.{nodes_seen}
use Rattle.expr_judge.specs.Parts.{only_expression}
use Rattle.node_facts.proofs.GrowthLemmas.{nodes_known, nodes_later}
use Rattle.expr_judge.proofs.OperandLemmas.{cast_only, named_part-is}
use Rattle.expr_judge.proofs.OperatorLemmas.{operator_taken}
use Rattle.expr_judge.proofs.casts.cast.Goals as goal

pub judge_cast-requires-clause-named : goal.judge_cast-requires-clause-named
judge_cast-requires-clause-named c =
    let between = c.operand_at.new.types in
    subst (λ (named : Option TypeId). IfSome named (IsTypeId between)) (sym (c.named_by-named.ensures ∙ ap named_in c.at.ensures))
    (named_at_known between c.args.facts.now c.child_at-name.result (nodes_known c.args.types.now between c.in_ok-operand.ensures.keeps c.args.facts.now c.requires.known))

pub returns : goal.returns
returns c =
    let nodes = nodes_of c.args.unit.now in
    let old = c.args.types.now in
    let kept = c.args.facts.now in
    let between = c.operand_at.new.types in
    let facts = nodes_seen old kept in
    let handle = c.args.handle in
    let token = token_at nodes handle in
    let name = child_at nodes handle 0 in
    let forced = c.is_forced-forced.ensures ∙ ap (is_forced nodes) c.child_at-name.ensures in
    let named : named_part between c.named_by-named.result ≡ named_if (type_named (part_fact nodes facts handle 0)) =
    named_part-is between c.named_by-named.result
    ∙ ap (λ found. named_if (option_map (type_at between) found)) (c.named_by-named.ensures ∙ ap named_in c.at.ensures)
    ∙ ap named_if (named_at_told between kept c.child_at-name.result)
    ∙ (λ i. named_if (type_named (fact_at (nodes_later old between c.in_ok-operand.ensures.keeps kept c.requires.known i) (c.child_at-name.ensures i)))) in
    let operand : valued_part between c.in_ok-operand.operand ≡ only_expression (part_fact nodes facts handle 1) =
    c.in_ok-operand.ensures.seen ∙ ap (λ handle. only_expression (fact_at facts handle)) c.child_at.ensures in
    operator_taken old between c.judge_cast.new.types c.in_ok-operand.ensures.keeps c.in_ok-row.ensures.keeps c.args.found.now c.take_row.new.found c.in_ok-row.row
    c.in_ok-row.ensures.known c.take_row.result c.take_row.ensures.row c.take_row.ensures.failures _
    (cast_row token (is_forced nodes name) (part_fact nodes facts handle 0) (part_fact nodes facts handle 1)) c.in_ok-row.ensures.row
    ((λ i. cast_row (c.token_at-token.ensures i) (forced i) (named i) (operand i))
    ∙ cast_only token (is_forced nodes name) (part_fact nodes facts handle 0) (part_fact nodes facts handle 1))
