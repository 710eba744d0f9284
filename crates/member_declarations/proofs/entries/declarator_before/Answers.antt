use Rattle.std.proofs.Common.{◌≡◌, ◌-◌, sym, ap, ◌∙◌, arith}
use Rattle.meaning_typing.specs.Units.{kind_at}
use Rattle.decl_judge.specs.Units.{handles_of, nodes_of}
use Rattle.member_declarations.specs.declared.entries.MemberPart.TheVariants as parts
use Rattle.member_declarations.specs.Entries.{declarator_before, declarator_by, member_part}
use Rattle.member_declarations.proofs.EntryLemmas.{before_part}
use Rattle.member_declarations.proofs.entries.declarator_before.Goals as goal

pub returns-in-Declarator : goal.returns-in-Declarator
returns-in-Declarator c =
    let nodes = nodes_of c.args.unit.now in
    let children = c.args.parts.now in
    let before = c.loop-before.before in
    let part = c.get-part.result in
    let is : member_part (kind_at nodes part.0) ≡ parts.Declarator = sym (c.member_part.ensures ∙ ap member_part c.kind_at.ensures) ∙ c.in-Declarator.is in
    sym
    (before_part nodes children before (before - 1) part (omega (arith, c.loop-before-test.true)) (omega (arith, c.loop-before-test.true)) c.get-part.ensures.value
    ∙ ap (λ is. declarator_by is part.0 (declarator_before nodes (handles_of children) (before - 1))) is)
    ∙ c.loop-before.invariant.same

pub returns-in-Width : goal.returns-in-Width
returns-in-Width c =
    let nodes = nodes_of c.args.unit.now in
    let children = c.args.parts.now in
    let before = c.loop-before.before in
    let part = c.get-part.result in
    let is : member_part (kind_at nodes part.0) ≡ parts.Width = sym (c.member_part.ensures ∙ ap member_part c.kind_at.ensures) ∙ c.in-Width.is in
    sym
    (before_part nodes children before (before - 1) part (omega (arith, c.loop-before-test.true)) (omega (arith, c.loop-before-test.true)) c.get-part.ensures.value
    ∙ ap (λ is. declarator_by is part.0 (declarator_before nodes (handles_of children) (before - 1))) is)
    ∙ c.loop-before.invariant.same

pub loop-before-preserved : goal.loop-before-preserved
loop-before-preserved c =
    let nodes = nodes_of c.args.unit.now in
    let children = c.args.parts.now in
    let before = c.loop-before.before in
    let part = c.get-part.result in
    let is : member_part (kind_at nodes part.0) ≡ parts.Other = sym (c.member_part.ensures ∙ ap member_part c.kind_at.ensures) ∙ c.in-Other.is in
    record {
      same =
          sym
          (before_part nodes children before (before - 1) part (omega (arith, c.loop-before-test.true)) (omega (arith, c.loop-before-test.true)) c.get-part.ensures.value
          ∙ ap (λ is. declarator_by is part.0 (declarator_before nodes (handles_of children) (before - 1))) is)
          ∙ c.loop-before.invariant.same;
      within = omega (arith, c.loop-before.invariant.within);
    }
