-- What is known of the node, with the type of its value.
use Rattle.std.proofs.Common.{sym, subst, ◌∙◌}
use Rattle.expression_rows.specs.Facts.{IsKnownPart}
use Rattle.expr_judge.proofs.PartLemmas.{operand_is, part_known}
use Rattle.expr_judge.proofs.parts.operand_at.Goals as goal

pub with_value-requires : goal.with_value-requires
with_value-requires c =
    let known = c.args.types.now in
    let kept = c.args.facts.now in
    subst (IsKnownPart known) (sym c.expression_at-part.ensures) (part_known known kept c.args.handle c.requires)

pub returns-clause-seen : goal.returns-clause-seen
returns-clause-seen c =
    let known = c.args.types.now in
    let kept = c.args.facts.now in
    operand_is known c.with_value.new.types c.in_ok-found.ensures.keeps kept c.args.handle c.in_ok-found.found c.requires
    (c.in_ok-found.ensures.same ∙ c.expression_at-part.ensures)
