use Rattle.std.proofs.Common.{◌≡◌, ◌+◌, true, false, drop, ap, sym, ◌∙◌, arith}
use Rattle.meaning_typing.specs.Declarators.{lists_in_front}
use Rattle.meaning_typing.specs.MemberDeclarations.{behind_width}
use Rattle.meaning_typing.specs.Units.{kind_at}
use Rattle.decl_judge.specs.Units.{handles_of, nodes_of}
use Rattle.member_declarations.specs.Facts.{is_width}
use Rattle.member_declarations.proofs.FactLemmas.{behind_none, behind_one}
use Rattle.member_declarations.proofs.fact.place_behind_width.Goals as goal

pub returns-then-is_width : goal.returns-then-is_width
returns-then-is_width c =
    let nodes = nodes_of c.args.unit.now in
    let children = c.args.children.now in
    let next = c.saturating_add-next.result in
    let is : is_width (kind_at nodes c.get.result.0) ≡ true = sym (c.is_width.ensures ∙ ap is_width c.kind_at.ensures) ∙ c.if-is_width.true in
    let behind : next ≡ c.args.place + 1 =
    omega (arith, c.saturating_add-next.ensures, c.if-next-len.false, c.len.ensures.value, c.len.ensures.small) in
    ap (lists_in_front nodes)
    (sym (behind_one nodes children next c.get.result c.get.ensures.value is)
    ∙ ap (λ place. behind_width nodes (drop place (handles_of children))) behind)

pub returns : goal.returns
returns c =
    let nodes = nodes_of c.args.unit.now in
    let children = c.args.children.now in
    let next = c.saturating_add-next.result in
    let is : is_width (kind_at nodes c.get.result.0) ≡ false = sym (c.is_width.ensures ∙ ap is_width c.kind_at.ensures) ∙ c.if-is_width.false in
    let behind : next ≡ c.args.place + 1 =
    omega (arith, c.saturating_add-next.ensures, c.if-next-len.false, c.len.ensures.value, c.len.ensures.small) in
    ap (lists_in_front nodes)
    (sym (behind_none nodes children next c.get.result c.get.ensures.value is)
    ∙ ap (λ place. behind_width nodes (drop place (handles_of children))) behind)
