use Rattle.std.proofs.Common.{◌+◌, ap, sym, ◌∙◌, arith}
use Rattle.decl_judge.specs.Seen.{is_list}
use Rattle.decl_judge.specs.Units.{nodes_of}
use Rattle.declaration_rows.specs.Completed.{initializer_or}
use Rattle.declaration_rows.proofs.CompletedLemmas.{first_capped, first_list, first_other}
use Rattle.declaration_rows.proofs.completed.initializer_after.Goals as goal

pub loop-next-init : goal.loop-next-init
loop-next-init c =
    first_capped (nodes_of c.args.unit.now) c.args.otherwise c.args.children.now c.saturating_add-next.result (c.args.place + 1)
    (omega (arith, c.len-next-end.ensures.value, c.len-next-end.ensures.small)) c.saturating_add-next.ensures

pub returns-then-not-is_list : goal.returns-then-not-is_list
returns-then-not-is_list c =
    let nodes = nodes_of c.args.unit.now in
    let kind = c.kind_at-kind.ensures in
    c.initializer_or.ensures
    ∙ ap (λ kind. initializer_or kind c.get-part.result.0 c.args.otherwise) kind
    ∙ sym
    (first_other nodes c.args.otherwise c.args.children.now c.loop-next.next c.get-part.result c.get-part.ensures.value
    (ap is_list (sym kind) ∙ sym c.is_list.ensures ∙ c.if-not-is_list.true))
    ∙ c.loop-next.invariant

pub loop-next-preserved : goal.loop-next-preserved
loop-next-preserved c =
    let nodes = nodes_of c.args.unit.now in
    let kind = c.kind_at-kind.ensures in
    sym
    (first_list nodes c.args.otherwise c.args.children.now c.loop-next.next c.get-part.result c.get-part.ensures.value
    (ap is_list (sym kind) ∙ sym c.is_list.ensures ∙ c.if-not-is_list.false))
    ∙ c.loop-next.invariant
