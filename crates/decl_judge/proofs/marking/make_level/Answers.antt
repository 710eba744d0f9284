use Rattle.std.proofs.Common.{◌≡◌, Some, IfOk, subst, sym, ap, ◌∙◌}
use Rattle.meaning_types.specs.Types.{TypeTree}
use Rattle.c_types.specs.Table.{type_at}
use Rattle.decl_judge.specs.Marking.{identity_added, is_plain_outer, level_told}
use Rattle.decl_judge.proofs.MarkingLemmas.{level_marked}
use Rattle.decl_judge.proofs.marking.make_level.Goals as goal

pub returns-in-Some-clause-made : goal.returns-in-Some-clause-made
returns-in-Some-clause-made c parameters =
    let shape = c.args.shape in
    let told : level_told shape.base (is_plain_outer shape) (identity_added c.args.added c.args.token) ≡ Some c.in-Some.base =
    ap (level_told shape.base (is_plain_outer shape)) (sym c.identity_of.ensures) ∙ sym c.level_base.ensures ∙ c.in-Some.is in
    subst (λ (meant : TypeTree). IfOk c.make.result (λ id. type_at c.make.new.types id ≡ meant))
    (level_marked c.args.types.now parameters c.args.token c.args.added shape c.in-Some.base c.level_shape.result told c.level_shape.ensures.base
    c.level_shape.ensures.qualifiers c.level_shape.ensures.flags)
    c.make.ensures.made
