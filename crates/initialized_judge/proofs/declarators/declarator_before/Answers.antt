-- The part at the next place is the last declarator, or it is none.
use Rattle.std.proofs.Common.{◌≡◌, suc, ◌-◌, sym, ap, ◌∙◌, arith}
use Rattle.meaning_initialized.specs.Initialized.{is_declarator}
use Rattle.meaning_typing.specs.Units.{kind_at}
use Rattle.decl_judge.specs.Units.{nodes_of}
use Rattle.initialized_judge.proofs.DeclaratorLemmas.{last_before, last_earlier, last_here}
use Rattle.initialized_judge.proofs.declarators.declarator_before.Goals as goal

pub returns-then-is_declarator : goal.returns-then-is_declarator
returns-then-is_declarator c =
    let nodes = nodes_of c.args.unit.now in
    let parent = c.args.surrounding.parent in
    let place = c.parts.place - 1 in
    let next : suc place ≡ c.parts.place = omega (arith, c.parts-test.true) in
    let is = ap (λ h. is_declarator (kind_at nodes h)) (sym c.child_at-part.ensures) ∙ ap is_declarator (sym c.kind_at.ensures) ∙ sym c.is_declarator.ensures
    ∙ c.if-is_declarator.true in
    c.child_at-part.ensures ∙ sym (last_here nodes parent place is) ∙ ap (last_before nodes parent) next ∙ c.parts.invariant

pub parts-preserved : goal.parts-preserved
parts-preserved c =
    let nodes = nodes_of c.args.unit.now in
    let parent = c.args.surrounding.parent in
    let place = c.parts.place - 1 in
    let next : suc place ≡ c.parts.place = omega (arith, c.parts-test.true) in
    let is = ap (λ h. is_declarator (kind_at nodes h)) (sym c.child_at-part.ensures) ∙ ap is_declarator (sym c.kind_at.ensures) ∙ sym c.is_declarator.ensures
    ∙ c.if-is_declarator.false in
    sym (last_earlier nodes parent place is) ∙ ap (last_before nodes parent) next ∙ c.parts.invariant
